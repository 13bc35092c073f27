-- What a line has of a tracker before a step (reference/README.md calls it *before*), and the samples after it. b is the line from there on:
-- modulation, locked, x (6), P (36), measurement noise, metric, envelope, both sums, pairs in the window, oldest pair (2), and then a sample or two,
-- each as a list: its count, which is 2, and two f32. Definitions only.
use Rattle.std.specs.Prelude.{List, Bool, true, cond, ℕ, ◌%◌, eqb, Float, replicate}
use Rattle.ieee754.specs.Binary64.{zero, one, thousand}
use Rattle.tracker_measurement.specs.Numbers.{numbered_modulation}
use Rattle.tracker_power_ratio.specs.declared.PowerSums.{PowerSums}
use Rattle.tracker_power_ratio.specs.Ring.{with_pair}
use Rattle.tracker.specs.declared.state.Tuning.{Tuning}
use Rattle.tracker.specs.declared.state.CarrierPllEkf.{CarrierPllEkf}
use Rattle.tracker.specs.State.{tracker_of, initial_tuning}
use Rattle.vectors.specs.Code.Lines.{number_at, mark_at, float64_at, float64s_at}

-- a new tracker's tuning, with the line's measurement noise and a switch
unfoldable pub tuning_from : Bool → List ℕ → Tuning
tuning_from dual b =
    let new = initial_tuning thousand true dual one in
    record {
      q_phase = new.q_phase;
      q_freq = new.q_freq;
      q_chirp = new.q_chirp;
      r_meas = float64_at 44 b;
      ts = new.ts;
      frequency_ratio = new.frequency_ratio;
      adaptive_ekf = new.adaptive_ekf;
      dual_lock = new.dual_lock;
    }

-- the pairs in the window and both sums
unfoldable pub power_from : List ℕ → PowerSums
power_from b = record { pushed = number_at 49 b; sum_abs_i = float64_at 47 b; sum_q_sq = float64_at 48 b }

-- the tracker; the switch `dual_lock` and the guard stand elsewhere in the line
unfoldable pub tracker_from : Bool → ℕ → List ℕ → CarrierPllEkf
tracker_from dual guard b =
    tracker_of (numbered_modulation (number_at 0 b)) (tuning_from dual b) (float64s_at 2 6 b) (float64_at 46 b) (power_from b) (float64_at 45 b) (mark_at 1 b) guard

unfoldable pub covariance_from : List ℕ → List Float
covariance_from b = float64s_at 8 36 b

-- a window of zeros
unfoldable pub no_pairs : List Float
no_pairs = replicate 2048 zero

-- the window: the oldest pair stands in slot 0, where the next one goes if the ring is full or empty; all else is 0
unfoldable pub window_from : List ℕ → List Float
window_from b = cond (eqb (number_at 49 b % 1024) 0) (with_pair no_pairs 0 (float64_at 50 b) (float64_at 51 b)) no_pairs
