-- What a correction promises of the phase (the request for one name for half a turn): right after one that took a gain and was not lost, the phase of the
-- channel that it corrected lies from minus half the range, included, to plus half, excluded. Said of `band_corrected`, and of the updates of one frequency
-- and of two, which the code of every block is proved equal to. Statements; proofs/CorrectedPhase.antt proves them.
use Rattle.std.specs.Prelude.{◌≡◌, Bool, List, T, Float}
use Rattle.tracker_covariance.specs.declared.states.Band.{Band}
use Rattle.tracker_covariance.specs.declared.states.Band.TheVariants.{First, Second}
use Rattle.tracker_covariance.specs.Matrix.{el}
use Rattle.tracker_covariance.specs.States.{phase_of}
use Rattle.tracker_covariance.specs.Correction.{innovation_variance, takes_gain}
use Rattle.tracker_measurement.specs.Measurement.{measured}
use Rattle.tracker.specs.declared.state.CarrierPllEkf.{CarrierPllEkf}
use Rattle.tracker.specs.declared.correction.Correction.TheVariants.{Lost}
use Rattle.tracker.specs.declared.correction.Corrected.{Corrected}
use Rattle.tracker.specs.Correction.{prior_of, band_corrected}
use Rattle.tracker.specs.Update.{updated, updated_dual}
use Rattle.tracker_claims.specs.WrappedPhase.{InRange}

-- whether the channel's correction by this sample takes a gain
abbrev pub takes_gain_of : CarrierPllEkf → List Float → Band → Float → Float → Bool
takes_gain_of t p band re im =
    let i = phase_of band in
    takes_gain (innovation_variance p i (measured (prior_of t i) re im).r_effective)

abbrev pub NotLost : Corrected → Type 0
NotLost c = c.answer ≡ Lost → ⊥

-- it takes a gain and is not lost
pub record Moves (t : CarrierPllEkf) (p w : List Float) (band : Band) (re im : Float) : Type 0 where
  pub gain : T (takes_gain_of t p band re im)
  pub not_lost : NotLost (band_corrected t p w band re im).0

-- whatever the tracker, its covariance and its window hold
pub record PhaseInRange : Type 0 where
  -- a correction, of either channel
  pub after_correction : (t : CarrierPllEkf) (p w : List Float) (band : Band) (re im : Float) → Moves t p w band re im
      → InRange t.modulation (el (band_corrected t p w band re im).0.ekf.x (phase_of band))
  -- an update on one frequency, whose correction is the first channel's
  pub after_update : (t : CarrierPllEkf) (p w : List Float) (re im : Float) → Moves t p w First re im
      → InRange t.modulation (el (updated t p w re im).0.ekf.x (phase_of First))
  -- an update on two frequencies, whose second correction is the second channel's and starts from what the first one left
  pub after_dual : (t : CarrierPllEkf) (p w : List Float) (re1 im1 re2 im2 : Float) → NotLost (band_corrected t p w First re1 im1).0
      → Moves (band_corrected t p w First re1 im1).0.ekf (band_corrected t p w First re1 im1).0.p (band_corrected t p w First re1 im1).1 Second re2 im2
      → InRange t.modulation (el (updated_dual t p w re1 im1 re2 im2).0.ekf.x (phase_of Second))
