-- What a tracker shows (the scope, modules 8 and 9): phase, frequency and electron content. Definitions only.
use Rattle.std.specs.Prelude.{Bool, true, false, cond, Float}
use Rattle.std.specs.Float.Ieee.{eq}
use Rattle.ieee754.specs.Binary64 as float
use Rattle.ieee754.specs.Binary64.{plus}
use Rattle.tracker_covariance.specs.Matrix.{el}
use Rattle.tracker.specs.declared.state.CarrierPllEkf.{CarrierPllEkf}
use Rattle.tracker_readings.specs.Readings.{hertz, phase_at}
use Rattle.estimate_dispersion.specs.Dispersion.{dispersion_free, electron_content}
use Rattle.channel_model.specs.declared.Carriers.{Carriers}
use Rattle.channel_model.specs.declared.Reading.{Reading}

-- the frequency that offsets are counted from: the nominal one, or the target where that is 0
unfoldable pub centre : Float → Float → Float
centre nominal target = cond (eq nominal float.zero) target nominal

-- The frequency that a tracker shows with this target, at the scale k. With two frequencies both offsets count from the targets, and the
-- carriers' weights are nominal and `frequency2`.
unfoldable pub frequency_at : Bool → Float → Carriers → Float → CarrierPllEkf → Float
frequency_at false k a target t = plus (centre a.nominal target) (hertz k t 1)
frequency_at true k a target t =
    dispersion_free a.nominal a.frequency2 (plus target (hertz k t 1)) (plus a.target2 (hertz k t 4))

-- with one frequency 0; with two, where the targets do not tell it, what it was. The phases are not scaled.
unfoldable pub electrons_of : Bool → Carriers → CarrierPllEkf → Float → Float
electrons_of false a t old = float.zero
electrons_of true a t old = electron_content a.target a.target2 (el t.x 0) (el t.x 3) old

-- all that the tracker t shows
unfoldable pub read_from : Bool → Float → Carriers → CarrierPllEkf → Reading → Reading
read_from two k a t r =
    record { phase = phase_at k t; frequency = frequency_at two k a a.target t; snr = r.snr; electrons = electrons_of two a t r.electrons }
