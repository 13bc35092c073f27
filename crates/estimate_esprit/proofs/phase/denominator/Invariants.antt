-- `denominator`: before turn k the sum has the first k terms.
use Rattle.std.proofs.Common.{◌≡◌}
use Rattle.std.specs.Float.{binary64}
use Rattle.std.specs.Float.Ieee.{add}
use Rattle.ieee754.specs.Binary64.{zero}
use Rattle.sums.specs.Ascending.{sum_from}
use Rattle.sums.specs.Complex.{norm_sqr}
use Rattle.sums.specs.Code.Numbers.{number}
use Rattle.estimate_esprit.proofs.phase.denominator.Given as goal

abbrev pub invariant-loop-z : goal.invariant-loop-z
invariant-loop-z l = l.sum ≡ sum_from (add binary64) zero (λ i. norm_sqr binary64 (number l.u i)) l.z-index
