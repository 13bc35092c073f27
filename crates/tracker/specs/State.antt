-- The tracker's value (the scope, module 3), what changes in it, and how it starts. Definitions only.
use Rattle.std.specs.Prelude.{ℕ, Bool, true, false, List, [], ◌∷◌, replicate, Float}
use Rattle.ieee754.specs.Binary64 as float
use Rattle.ieee754.specs.Binary64.{times, over, zero, one, half, two_pi}
use Rattle.tracker_covariance.specs.Initial.{initial_covariance}
use Rattle.tracker_measurement.specs.declared.modulation.Modulation.{Modulation}
use Rattle.tracker_power_ratio.specs.declared.PowerSums.{PowerSums}
use Rattle.tracker.specs.declared.state.Tuning.{Tuning}
use Rattle.tracker.specs.declared.state.CarrierPllEkf.{CarrierPllEkf}
use Rattle.tracker.specs.declared.state.Tracked.{Tracked}

-- a tracker of its parts: modulation, tuning, states, envelope, power sums, lock metric, lock mark and guard
abbrev pub tracker_of : Modulation → Tuning → List Float → Float → PowerSums → Float → Bool → ℕ → CarrierPllEkf
tracker_of m k x ema power metric locked guard =
    record { modulation = m; tuning = k; x = x; envelope_ema = ema; power = power; lock_metric = metric; is_locked = locked; convergence_guard = guard }

abbrev pub with_state : CarrierPllEkf → List Float → CarrierPllEkf
with_state t x = tracker_of t.modulation t.tuning x t.envelope_ema t.power t.lock_metric t.is_locked t.convergence_guard

abbrev pub with_envelope : CarrierPllEkf → Float → CarrierPllEkf
with_envelope t ema = tracker_of t.modulation t.tuning t.x ema t.power t.lock_metric t.is_locked t.convergence_guard

abbrev pub with_power : CarrierPllEkf → PowerSums → CarrierPllEkf
with_power t power = tracker_of t.modulation t.tuning t.x t.envelope_ema power t.lock_metric t.is_locked t.convergence_guard

abbrev pub with_lock : CarrierPllEkf → Float → Bool → ℕ → CarrierPllEkf
with_lock t metric locked guard = tracker_of t.modulation t.tuning t.x t.envelope_ema t.power metric locked guard

-- six zeros
abbrev pub zero_state : List Float
zero_state = replicate 6 zero

-- lost: the states and the metric 0, unlocked; envelope, window, sums and guard stay
abbrev pub lost_tracker : CarrierPllEkf → CarrierPllEkf
lost_tracker t = tracker_of t.modulation t.tuning zero_state t.envelope_ema t.power zero false t.convergence_guard

-- an empty window: nothing in it, and both sums 0
abbrev pub no_power : PowerSums
no_power = record { pushed = 0; sum_abs_i = zero; sum_q_sq = zero }

-- The source's noise figures: 0.1, 5,000, 10,000 and 10; the interval 1 / fs, the ratio and the switches as they are asked for
abbrev pub initial_tuning : Float → Bool → Bool → Float → Tuning
initial_tuning fs adaptive dual ratio =
    record {
      q_phase = float.point1;
      q_freq = float.five_thousand;
      q_chirp = float.ten_thousand;
      r_meas = float.ten;
      ts = over one fs;
      frequency_ratio = ratio;
      adaptive_ekf = adaptive;
      dual_lock = dual;
    }

-- a tracker as it is made
unfoldable pub initial_tracker : Float → Modulation → Bool → Bool → Float → Tracked
initial_tracker fs m adaptive dual ratio =
    record { ekf = tracker_of m (initial_tuning fs adaptive dual ratio) zero_state one no_power zero false 0; p = initial_covariance }

-- locked at a phase, a frequency and a chirp in hertz, the second channel's times the ratio; the window empty, the guard at 2,048
unfoldable pub reset_to : CarrierPllEkf → Float → Float → Float → Tracked
reset_to t phase hz rate =
    let f = times two_pi hz in
    let c = times two_pi rate in
    let r = t.tuning.frequency_ratio in
    let x = phase ∷ f ∷ c ∷ phase ∷ times f r ∷ times c r ∷ [] in
    record { ekf = tracker_of t.modulation t.tuning x one no_power half true 2048; p = initial_covariance }
