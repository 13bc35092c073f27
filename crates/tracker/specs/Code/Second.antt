-- The second channel's correction by what it uses of its sample (the scope, module 3): the in-phase value and the power pair are the first channel's
-- matter. Definitions only.
use Rattle.std.specs.Prelude.{ℕ, cond, List, Float}
use Rattle.tracker_covariance.specs.Correction.{innovation_variance, takes_gain, gain_of, corrected_state}
use Rattle.tracker_measurement.specs.Measurement.{measured}
use Rattle.tracker.specs.declared.state.CarrierPllEkf.{CarrierPllEkf}
use Rattle.tracker.specs.declared.correction.Correction.{Correction}
use Rattle.tracker.specs.declared.correction.Correction.TheVariants.{Kept}
use Rattle.tracker.specs.declared.correction.Corrected.{Corrected}
use Rattle.tracker.specs.State.{with_envelope}
use Rattle.tracker.specs.Correction.{prior_of, corrected_or_lost}

-- the tracker's `gained` at z and R, with the answer given for one that is not lost
unfoldable pub moved : CarrierPllEkf → List Float → ℕ → Float → Float → Correction → Corrected
moved t p i z noise kept =
    let s = innovation_variance p i noise in
    let k = gain_of p i s in
    cond (takes_gain s)
    (corrected_or_lost t p i noise k (corrected_state t.x k z) kept)
    (record { ekf = t; p = p; answer = kept })

-- the correction by a sample of the second channel, with the pair (in_phase, pr) as its answer where it is not lost
unfoldable pub second_moved : CarrierPllEkf → List Float → Float → Float → Float → Float → Corrected
second_moved t p in_phase pr re im =
    let m = measured (prior_of t 3) re im in
    moved (with_envelope t m.envelope_ema) p 3 m.z m.r_effective (Kept in_phase pr)
