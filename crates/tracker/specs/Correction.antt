-- Correction by one sample of one channel (the scope, module 3; the source's `update_channel`). Definitions only.
use Rattle.std.specs.Prelude.{ℕ, ◌+◌, Bool, cond, ◌||◌, List, set, Float}
use Rattle.std.proofs.Math.Option.{Option, none, some}
use Rattle.std.specs.Float.Ieee.{neg, is_nan}
use Rattle.ieee754.specs.Binary64 as float
use Rattle.ieee754.specs.Order.{clamped}
use Rattle.tracker_covariance.specs.declared.states.Band.{Band}
use Rattle.tracker_covariance.specs.declared.states.Band.TheVariants.{First, Second}
use Rattle.ieee754.specs.Binary64.{times, two_pi}
use Rattle.tracker_covariance.specs.Matrix.{el}
use Rattle.tracker_covariance.specs.States.{phase_of}
use Rattle.tracker_covariance.specs.Initial.{initial_covariance}
use Rattle.tracker_covariance.specs.Correction.{innovation_variance, takes_gain, gain_of, corrected_state, corrected}
use Rattle.tracker_measurement.specs.declared.modulation.Modulation.{Modulation}
use Rattle.tracker_measurement.specs.declared.measure.Prior.{Prior}
use Rattle.tracker_measurement.specs.declared.measure.Measured.{Measured}
use Rattle.tracker_measurement.specs.Phase.{wrapped}
use Rattle.tracker_measurement.specs.Measurement.{measured}
use Rattle.tracker_power_ratio.specs.PowerRatio.{pushed, ratio}
use Rattle.tracker.specs.declared.state.CarrierPllEkf.{CarrierPllEkf}
use Rattle.tracker.specs.declared.correction.Correction.{Correction}
use Rattle.tracker.specs.declared.correction.Correction.TheVariants.{Kept, Lost}
use Rattle.tracker.specs.declared.correction.Corrected.{Corrected}
use Rattle.tracker.specs.State.{with_state, with_envelope, with_power, lost_tracker}

-- the scope: a correction "answers either the pair of in-phase value and power ratio, or lost". The enum's first case is the pair, its second is lost
abbrev pub pair_or_lost : Correction → Option (Float × Float)
pair_or_lost (Kept in_phase pr) = some (in_phase, pr)
pair_or_lost Lost = none

-- what the tracker knows before the sample, of the channel whose phase is state i
abbrev pub prior_of : CarrierPllEkf → ℕ → Prior
prior_of t i =
    record {
      modulation = t.modulation;
      theta_pred = el t.x i;
      lock_metric = t.lock_metric;
      r_meas = t.tuning.r_meas;
      envelope_ema = t.envelope_ema;
    }

unfoldable pub any_nan : List Float → Bool
any_nan x =
    ((((is_nan (el x 0) || is_nan (el x 1)) || is_nan (el x 2)) || is_nan (el x 3)) || is_nan (el x 4)) || is_nan (el x 5)

-- state i wrapped
unfoldable pub wrapped_phase : List Float → ℕ → Modulation → List Float
wrapped_phase x i m = set x i (wrapped m (el x i))

-- 2π × 50,000 and 2π × 1,000
abbrev pub max_freq : Float
max_freq = times two_pi float.fifty_thousand

abbrev pub max_chirp : Float
max_chirp = times two_pi float.thousand

-- the frequency and the chirp after phase i within their limits
unfoldable pub limited : List Float → ℕ → List Float
limited x i =
    set (set x (i + 1) (clamped (el x (i + 1)) (neg max_freq) max_freq)) (i + 2) (clamped (el x (i + 2)) (neg max_chirp) max_chirp)

-- the end of a correction that took the gain k and moved the state to y: lost where a NaN is left after the wrap
unfoldable pub corrected_or_lost : CarrierPllEkf → List Float → ℕ → Float → List Float → List Float → Correction → Corrected
corrected_or_lost t p i noise k y kept =
    let v = wrapped_phase y i t.modulation in
    cond (any_nan v)
    (record { ekf = lost_tracker t; p = initial_covariance; answer = Lost })
    (record { ekf = with_state t (limited v i); p = corrected p i k noise; answer = kept })

-- s = P(i,i) + R; where it is not too small, K is column i over s, and otherwise nothing changes. Either way the answer is the pair
unfoldable pub gained : CarrierPllEkf → List Float → ℕ → Measured → Corrected
gained t p i m =
    let kept = Kept m.norm_re (ratio t.power.sum_abs_i t.power.sum_q_sq) in
    let s = innovation_variance p i m.r_effective in
    let k = gain_of p i s in
    cond (takes_gain s)
    (corrected_or_lost t p i m.r_effective k (corrected_state t.x k m.z) kept)
    (record { ekf = t; p = p; answer = kept })

-- only the first channel's pairs enter the window
abbrev pub windowed : Band → CarrierPllEkf → List Float → Float → Float → CarrierPllEkf × List Float
windowed First t w i q = let s = pushed t.power w i q in (with_power t s.0, s.1)
windowed Second t w i q = (t, w)

-- the envelope and the window take the sample in first, whatever becomes of the correction
unfoldable pub band_corrected : CarrierPllEkf → List Float → List Float → Band → Float → Float → Corrected × List Float
band_corrected t p w band re im =
    let i = phase_of band in
    let m = measured (prior_of t i) re im in
    let u = windowed band (with_envelope t m.envelope_ema) w m.abs_i m.q_sq in
    (gained u.0 p i m, u.1)
