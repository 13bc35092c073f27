-- `settle`, above guard 0 and at it, locked and not.
use Rattle.tracker.proofs.LockSteps.{guarded, when_locked, when_open}
use Rattle.tracker.proofs.lock.settle.Goals as goal
use Rattle.tracker.proofs.lock.settle.Goals.{then-t, else-t}

pub returns-then-guard-gt0 : goal.returns-then-guard-gt0
returns-then-guard-gt0 c = guarded _ _ _ c.if-guard-gt0.true

pub returns : goal.returns
returns c =
    elim c.if-t.branch [
      | then-t w ↦ when_locked _ _ _ _ _ c.if-guard-gt0.false w.if-t.true w.unlocks_at.ensures w.result-is
      | else-t w ↦ when_open _ _ _ _ c.if-guard-gt0.false w.if-t.false w.result-is
    ]
