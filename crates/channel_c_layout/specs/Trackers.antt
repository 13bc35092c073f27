-- A tracker in C's layout, and back. The modulation goes by the scope's numbers. Definitions only.
use Rattle.tracker_measurement.specs.Numbers.{modulation_number}
use Rattle.tracker.specs.declared.state.Tracked.{Tracked}
use Rattle.tracker.specs.State.{tracker_of}
use Rattle.channel_model.specs.Opening.{modulation_of}
use Rattle.channel_c_layout.specs.declared.plain_tracker.PlainTracker.{PlainTracker}

unfoldable pub plain_tracker : Tracked → PlainTracker
plain_tracker h =
    let t = h.ekf in
    record {
      modulation = modulation_number t.modulation;
      tuning = t.tuning;
      x = t.x;
      p = h.p;
      envelope_ema = t.envelope_ema;
      power = t.power;
      lock_metric = t.lock_metric;
      is_locked = t.is_locked;
      convergence_guard = t.convergence_guard;
    }

-- a modulation of 3 or more counts as 2
unfoldable pub real_tracker : PlainTracker → Tracked
real_tracker t =
    let m = modulation_of t.modulation in
    let u = tracker_of m t.tuning t.x t.envelope_ema t.power t.lock_metric t.is_locked t.convergence_guard in
    record { ekf = u; p = t.p }
