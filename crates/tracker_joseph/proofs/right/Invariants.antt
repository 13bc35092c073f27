-- `right` is T·(I − K·h)ᵀ + K·R·Kᵀ. The invariants: the rows above r, and row r up to column c, are stored.
use Prim.Native.Nat.{◌≤◌, ◌<◌, ◌+◌, ◌*◌}
use Rattle.tracker_covariance.specs.Code.Entries.{joseph_right_at}
use Rattle.tracker_covariance.proofs.Filling.{Rows}
use Rattle.tracker_joseph.proofs.right.Given as goal

abbrev pub invariant-loop-c : goal.invariant-loop-c
invariant-loop-c g l = (l.i ≤ 3) × (l.r < 6) × (l.c ≤ 6) × Rows (joseph_right_at l.t l.i l.k l.noise) l.out (6 * l.r + l.c)

abbrev pub invariant-loop-r : goal.invariant-loop-r
invariant-loop-r g l = (l.i ≤ 3) × (l.r ≤ 6) × Rows (joseph_right_at l.t l.i l.k l.noise) l.out (6 * l.r + 0)
