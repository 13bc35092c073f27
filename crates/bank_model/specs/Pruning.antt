-- Pruning (the scope, module 7: "pruning beyond 150"): where the discrepancy is beyond 150 Hz, trackers that are more than 150 Hz off are dropped, and
-- the bank is marked as ended. The discrepancy is compared in binary32, the deviations in binary64. Definitions only.
use Rattle.std.specs.Prelude.{Bool, true, false, cond, not, ◌&&◌, Float}
use Rattle.std.specs.Float.Ieee.{lt}
use Rattle.ieee754.specs.Binary64 as float
use Rattle.ieee754.specs.Binary32 as float32
use Rattle.ieee754.specs.Sign.{absolute}
use Rattle.ieee754.specs.Binary64.{minus, zero}
use Rattle.tracker.specs.declared.state.CarrierPllEkf.{CarrierPllEkf}
use Rattle.tracker.specs.declared.state.Tracked.{Tracked}
use Rattle.tracker.specs.State.{with_lock}
use Rattle.bank_model.specs.declared.state.EkfTrackingBank.{EkfTrackingBank}
use Rattle.tracker_readings.specs.Readings.{hertz}
use Rattle.bank_model.specs.Values.{with_trackers}
use Rattle.bank_model.specs.Discrepancy.{discrepancy}

-- more than 150 Hz between two trackers
unfoldable pub far_apart : Float → CarrierPllEkf → CarrierPllEkf → Bool
far_apart k t u = lt float.hundred_fifty (absolute (minus (hertz k t 1) (hertz k u 1)))

-- a tracker that is dropped: unlocked, its metric 0
abbrev pub dropped : Tracked → Tracked
dropped h = record { ekf = with_lock h.ekf zero false h.ekf.convergence_guard; p = h.p }

-- trackers 1 and 2 that are both locked and too far apart
unfoldable pub disagree : Float → CarrierPllEkf → CarrierPllEkf → Bool
disagree k u v = (u.is_locked && v.is_locked) && far_apart k u v

-- Whether tracker 1 is dropped, and whether 2 is: against tracker 0 where that is locked; else of the two that with the lower metric, at equal
-- metrics 2.
unfoldable pub drops1 : Float → CarrierPllEkf → CarrierPllEkf → CarrierPllEkf → Bool
drops1 k t u v =
    cond t.is_locked (u.is_locked && far_apart k u t) (disagree k u v && lt u.lock_metric v.lock_metric)

unfoldable pub drops2 : Float → CarrierPllEkf → CarrierPllEkf → CarrierPllEkf → Bool
drops2 k t u v =
    cond t.is_locked (v.is_locked && far_apart k v t) (disagree k u v && not (lt u.lock_metric v.lock_metric))

unfoldable pub pruned : Float → EkfTrackingBank → EkfTrackingBank
pruned k b =
    let t = b.t0.ekf in
    let u = b.t1.ekf in
    let v = b.t2.ekf in
    cond (lt float32.hundred_fifty (discrepancy b))
    (with_trackers b b.t0 (cond (drops1 k t u v) (dropped b.t1) b.t1) (cond (drops2 k t u v) (dropped b.t2) b.t2) true)
    b
