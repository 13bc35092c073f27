-- `divided`: each call makes one quotient.
use Rattle.std.proofs.Common.{◌≡◌, rules}
use lib.Ieee.{nan, binary64}
use Rattle.sums.specs.Complex.{div_c}
use Rattle.sums.specs.Code.Numbers.{parts, number}
use Rattle.sums.proofs.Numbers.{made}
use Rattle.estimate_esprit.proofs.VectorLaws.{quotient_is}
use Rattle.estimate_esprit.proofs.power_iteration.divided.Goals as goal

pub returns : goal.returns
returns c =
    let w = c.args.w.now in
    quotient_is w c.args.d c.from_fn.result
    (made _ (λ i y. parts y ≡ div_c binary64 (number w i) c.args.d) _ 10 (λ i y q h k. search rules) c.from_fn.result (record { re = nan; im = nan }) c.from_fn.ensures.items.each)
