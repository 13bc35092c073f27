-- `add_to_row`: before turn j the numbers before j have their term, the others are as they came.
use Rattle.std.proofs.Common.{◌≡◌, ℕ, ◌<◌, ◌≤◌, length}
use Rattle.std.specs.Float.{binary64}
use Rattle.sums.specs.Complex.{add_c, mul_c, conj}
use Rattle.sums.specs.Code.Numbers.{number}
use Rattle.estimate_correlation.proofs.add_to_row.Given as goal

abbrev pub invariant-loop-j : goal.invariant-loop-j
invariant-loop-j l =
    (length l.row ≡ 10)
    × ((j : ℕ) → l.i ≤ j → j < l.j → number l.row j ≡ add_c binary64 (number l.initial.row j) (mul_c binary64 (number l.window l.i) (conj (number l.window j))))
    × ((j : ℕ) → l.j ≤ j → number l.row j ≡ number l.initial.row j)
