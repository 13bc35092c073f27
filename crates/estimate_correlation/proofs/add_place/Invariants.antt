-- `add_place`: before turn i the first i rows are done, the others are as they came.
use Rattle.std.proofs.Common.{◌≡◌, ℕ, ◌<◌, ◌≤◌, length}
use Rattle.std.specs.Float.{binary64}
use Rattle.sums.specs.Complex.{add_c, mul_c, conj}
use Rattle.sums.specs.Code.Numbers.{number}
use Rattle.estimate_correlation.specs.Code.RunningSums.{row_of}
use Rattle.estimate_correlation.proofs.add_place.Given as goal

abbrev pub invariant-loop-i : goal.invariant-loop-i
invariant-loop-i l =
    (length l.sums ≡ 10)
    × ((i j : ℕ) → i < l.i → i ≤ j → j < 10 → number (row_of l.sums i) j ≡ add_c binary64 (number (row_of l.initial.sums i) j) (mul_c binary64 (number l.window i) (conj (number l.window j))))
    × ((i : ℕ) → l.i ≤ i → row_of l.sums i ≡ row_of l.initial.sums i)
