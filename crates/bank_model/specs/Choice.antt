-- The choice of the tracker in use (the scope, module 7): of the locked trackers the one with the highest metric above -1, the lowest of equals; 3 where
-- there is none. Definitions only.
use Rattle.std.specs.Prelude.{ℕ, zero, suc, cond, ◌&&◌, Float}
use Rattle.std.specs.Float.Ieee.{lt, neg}
use Rattle.ieee754.specs.Binary64.{one}
use Rattle.tracker.specs.declared.state.CarrierPllEkf.{CarrierPllEkf}
use Rattle.tracker.specs.declared.state.Tracked.{Tracked}
use Rattle.bank_model.specs.declared.state.EkfTrackingBank.{EkfTrackingBank}

-- a tracker's number and its metric
abbrev pub Candidate : Type 0
Candidate = ℕ × Float

-- tracker i takes the best candidate's place where it is locked and its metric is higher
unfoldable pub better : Candidate → ℕ → CarrierPllEkf → Candidate
better best i t = cond (t.is_locked && lt best.1 t.lock_metric) (i, t.lock_metric) best

unfoldable pub chosen : EkfTrackingBank → ℕ
chosen b = (better (better (better (3, neg one) 0 b.t0.ekf) 1 b.t1.ekf) 2 b.t2.ekf).0

-- the tracker that a number names; all above 1 name the last
unfoldable pub numbered : ℕ → EkfTrackingBank → Tracked
numbered zero b = b.t0
numbered (suc zero) b = b.t1
numbered (suc (suc i)) b = b.t2
