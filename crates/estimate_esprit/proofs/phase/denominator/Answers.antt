-- `denominator`: the next term is that of number k.
use Rattle.std.proofs.Common.{◌∙◌, ap, arith, length-take-le}
use lib.Ieee.{binary64, add}
use Rattle.sums.specs.Complex.{norm_sqr}
use Rattle.sums.proofs.Adding.{sum_start, sum_next, sum_end}
use Rattle.estimate_esprit.proofs.VectorLaws.{number_take, energy_is}
use Rattle.estimate_esprit.proofs.phase.denominator.Goals as goal

pub loop-z-init : goal.loop-z-init
loop-z-init c = sum_start _ _ _

pub loop-z-preserved : goal.loop-z-preserved
loop-z-preserved c =
    let u = c.args.u.now in
    let k = c.loop-z.z-index in
    sum_next (add binary64) _ _ k c.loop-z.invariant (c.norm_sqr-sum.ensures ∙ ap (norm_sqr binary64) (number_take 9 u k (omega (arith, length-take-le 9 u (omega arith)))))

pub returns : goal.returns
returns c =
    let u = c.args.u.now in
    let l = length-take-le 9 u (omega arith) in
    sum_end (add binary64) _ _ c.loop-z.z-index 9 c.loop-z.invariant (omega (arith, l)) (omega (arith, l)) ∙ energy_is u
