-- `first_window`: the sample that came is the next of the prepared ones.
use Rattle.std.proofs.Common.{◌<◌, ◌∙◌, arith, length-take-le}
use Rattle.estimate_correlation.proofs.SampleLaws.{sample_next}
use Rattle.estimate_correlation.proofs.WindowLaws.{latest_next}
use Rattle.estimate_correlation.proofs.first_window.Goals as goal

pub loop-re-preserved : goal.loop-re-preserved
loop-re-preserved g c =
    let xs = c.args.x.now in
    let k = c.loop-re.re-index in
    let lt : k < 9 = omega (arith, length-take-le 9 c.as_chunks.result.0.now (omega arith)) in
    let next = c.sample.ensures ∙ sample_next g.P.Preparation.squared xs 9 0 k k c.as_chunks.ensures.front lt (omega arith) (omega arith) in
    latest_next _ k c.loop-re.window c.slid-window.result c.loop-re.invariant next c.slid-window.ensures.first c.slid-window.ensures.later
