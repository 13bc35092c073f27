-- `norm_of`: before turn k the sum has the terms 0 to k.
use Rattle.std.proofs.Common.{◌≡◌}
use Rattle.std.specs.Float.{binary64}
use Rattle.std.specs.Float.Ieee.{add}
use Rattle.sums.specs.Ascending.{sum_to}
use Rattle.sums.specs.Complex.{norm_sqr}
use Rattle.sums.specs.Code.Numbers.{number}
use Rattle.estimate_esprit.proofs.power_iteration.norm_of.Given as goal

abbrev pub invariant-loop-z : goal.invariant-loop-z
invariant-loop-z l = l.sum ≡ sum_to (add binary64) (λ i. norm_sqr binary64 (number l.w i)) l.z-index
