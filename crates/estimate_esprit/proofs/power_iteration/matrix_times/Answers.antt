-- `matrix_times`: each call makes one number.
use Rattle.std.proofs.Common.{◌≡◌, [], get_or, rules}
use lib.Ieee.{nan, binary64}
use Rattle.sums.specs.Ascending.{sum_to}
use Rattle.sums.specs.Complex.{add_c, mul_c}
use Rattle.sums.specs.Code.Numbers.{parts, number}
use Rattle.sums.proofs.Numbers.{made}
use Rattle.estimate_esprit.proofs.VectorLaws.{product_is}
use Rattle.estimate_esprit.proofs.power_iteration.matrix_times.Goals as goal

pub returns : goal.returns
returns c =
    let r = c.args.r.now in
    let u = c.args.u.now in
    product_is r u c.from_fn.result
    (made _ (λ i y. parts y ≡ sum_to (add_c binary64) (λ j. mul_c binary64 (number (get_or r i []) j) (number u j)) 9) _ 10 (λ i y q h k. search rules) c.from_fn.result (record { re = nan; im = nan }) c.from_fn.ensures.items.each)
