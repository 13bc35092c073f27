-- `numerator`: before turn k the sum has the first k terms.
use Rattle.std.proofs.Common.{◌≡◌, ◌+◌, length}
use Rattle.std.specs.Float.{binary64}
use Rattle.sums.specs.Ascending.{sum_from}
use Rattle.sums.specs.Complex.{zero_c, add_c, mul_c, conj}
use Rattle.sums.specs.Code.Numbers.{parts, number}
use Rattle.estimate_esprit.proofs.phase.numerator.Given as goal

abbrev pub invariant-loop-z : goal.invariant-loop-z
invariant-loop-z l = parts l.sum ≡ sum_from (add_c binary64) (zero_c binary64) (λ i. mul_c binary64 (conj (number l.u i)) (number l.u (i + 1))) (length l.yielded)
