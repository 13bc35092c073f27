-- `norm_of`: the next term is that of number k + 1.
use Rattle.std.proofs.Common.{◌<◌, ◌∙◌, ap, drop, length-drop, length-take-le, arith}
use lib.Ieee.{binary64, add}
use Rattle.ieee754.specs.SquareRoot.{sqrt}
use Rattle.sums.specs.Ascending.{sum_from}
use Rattle.sums.specs.Complex.{norm_sqr}
use Rattle.sums.proofs.Adding.{sum_next, sum_end}
use Rattle.estimate_esprit.proofs.VectorLaws.{number_later, norm_is}
use Rattle.estimate_esprit.proofs.power_iteration.norm_of.Goals as goal

pub loop-z-init : goal.loop-z-init
unfolding sum_from
loop-z-init c = c.norm_sqr-sum.ensures

pub loop-z-preserved : goal.loop-z-preserved
loop-z-preserved c =
    let w = c.args.w.now in
    let k = c.loop-z.z-index in
    let lt : k < 9 = omega (arith, length-take-le 9 (drop 1 w) (omega (arith, length-drop 1 w))) in
    sum_next (add binary64) _ _ k c.loop-z.invariant (c.norm_sqr-sum-in-loop-z.ensures ∙ ap (norm_sqr binary64) (number_later w k lt))

pub returns : goal.returns
returns c =
    let w = c.args.w.now in
    let l = length-take-le 9 (drop 1 w) (omega (arith, length-drop 1 w)) in
    c.sqrt.ensures ∙ ap (sqrt binary64) (sum_end (add binary64) _ _ c.loop-z.z-index 9 c.loop-z.invariant (omega (arith, l)) (omega (arith, l))) ∙ norm_is w
