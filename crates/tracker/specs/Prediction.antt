-- Prediction (the scope, module 3): x becomes F·x and P the mean of F·P·Fᵀ + Q and its transpose, over an interval dt. Definitions only.
use Rattle.std.specs.Prelude.{Bool, cond, List, Float}
use Rattle.ieee754.specs.Binary64 as float
use Rattle.ieee754.specs.Order.{clamped}
use Rattle.ieee754.specs.Binary64.{minus, times, zero, one}
use Rattle.tracker_covariance.specs.Transition.{predicted_state}
use Rattle.tracker_covariance.specs.Prediction.{predicted}
use Rattle.tracker_covariance.specs.declared.prediction.ProcessNoise.{ProcessNoise}
use Rattle.tracker.specs.declared.state.CarrierPllEkf.{CarrierPllEkf}
use Rattle.tracker.specs.declared.state.Tracked.{Tracked}
use Rattle.tracker.specs.State.{with_state}

-- 1 − 0.9 · metric, the metric within 0 to 1; 1 where the filter is not adaptive
unfoldable pub noise_scale : Bool → Float → Float
noise_scale adaptive metric = cond adaptive (minus one (times float.point9 (clamped metric zero one))) one

-- each noise figure times the scale times the interval
unfoldable pub process_noise : Float → CarrierPllEkf → ProcessNoise
process_noise dt t =
    let s = noise_scale t.tuning.adaptive_ekf t.lock_metric in
    record {
      q_p = times (times t.tuning.q_phase s) dt;
      q_f = times (times t.tuning.q_freq s) dt;
      q_c = times (times t.tuning.q_chirp s) dt;
      ratio = t.tuning.frequency_ratio;
    }

unfoldable pub predicted_over : Float → CarrierPllEkf → List Float → Tracked
predicted_over dt t p = record { ekf = with_state t (predicted_state dt t.x); p = predicted dt (process_noise dt t) p }
