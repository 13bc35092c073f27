-- `mean` is the mean of P and its transpose. The invariants: the rows above r, and row r up to column c, are stored.
use Prim.Native.Nat.{◌≤◌, ◌<◌, ◌+◌, ◌-◌, ◌*◌}
use Rattle.tracker_covariance.proofs.Filling.{Rows}
use Rattle.tracker_covariance.specs.Code.Entries.{mean_at}
use Rattle.tracker_covariance.proofs.prediction.mean.Given as goal

abbrev pub invariant-loop-c : goal.invariant-loop-c
invariant-loop-c l = (l.r < 6) × (l.c ≤ 6) × Rows (mean_at l.p) l.out (6 * l.r + l.c)

abbrev pub decreases-loop-c : goal.decreases-loop-c
decreases-loop-c l = 6 - l.c

abbrev pub invariant-loop-r : goal.invariant-loop-r
invariant-loop-r l = (l.r ≤ 6) × Rows (mean_at l.p) l.out (6 * l.r + 0)

abbrev pub decreases-loop-r : goal.decreases-loop-r
decreases-loop-r l = 6 - l.r
