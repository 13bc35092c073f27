-- `row_times`: before turn k the sum has the terms 0 to k.
use Rattle.std.proofs.Common.{◌≡◌, length}
use Rattle.std.specs.Float.{binary64}
use Rattle.sums.specs.Ascending.{sum_to}
use Rattle.sums.specs.Complex.{add_c, mul_c}
use Rattle.sums.specs.Code.Numbers.{parts, number}
use Rattle.estimate_esprit.proofs.power_iteration.row_times.Given as goal

abbrev pub invariant-loop-r : goal.invariant-loop-r
invariant-loop-r l = parts l.sum ≡ sum_to (add_c binary64) (λ j. mul_c binary64 (number l.row j) (number l.u j)) (length l.yielded)
