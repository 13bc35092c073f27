-- `floor_diagonal` raises the six variances. The loop's invariant: those of the states below i are raised, and nothing else has changed.
use Prim.Native.Nat.{◌≤◌, ◌-◌}
use Rattle.tracker_covariance.proofs.Floor.{Raised}
use Rattle.tracker_covariance.proofs.correction.floor_diagonal.Given as goal

abbrev pub invariant-loop-i : goal.invariant-loop-i
invariant-loop-i l = (l.i ≤ 6) × Raised l.p l.out l.i

abbrev pub decreases-loop-i : goal.decreases-loop-i
decreases-loop-i l = 6 - l.i
