-- `complete`: the rows from i on are done, the ones before it are as they came.
use Rattle.std.proofs.Common.{◌≡◌, ℕ, ◌<◌, ◌≤◌, length}
use Rattle.std.specs.Float.{binary64}
use Rattle.sums.specs.Complex.{div_c}
use Rattle.sums.specs.Code.Numbers.{number}
use Rattle.estimate_correlation.specs.Code.RunningSums.{row_of, mirrored}
use Rattle.estimate_correlation.proofs.complete.Given as goal

abbrev pub invariant-loop-i : goal.invariant-loop-i
invariant-loop-i l =
    (length l.sums ≡ 10)
    × ((k : ℕ) → k < l.i → row_of l.sums k ≡ row_of l.initial.sums k)
    × ((k : ℕ) → l.i ≤ k → k < 10 → (j : ℕ) → j < 10 → number (row_of l.sums k) j ≡ div_c binary64 (mirrored l.initial.sums k j) l.n)
