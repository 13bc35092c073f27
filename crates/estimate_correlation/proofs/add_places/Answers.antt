-- `add_places`: the sample that came is the next of the prepared ones, and the window that it made is that of place k.
use Rattle.std.proofs.Common.{◌≡◌, ℕ, ◌+◌, ◌-◌, ◌<◌, ◌∙◌, subst, length-drop, drop, arith, length-take-le}
use Rattle.estimate_correlation.specs.Correlation.{prepared}
use Rattle.estimate_correlation.specs.Code.RunningSums.{Latest}
use Rattle.estimate_correlation.proofs.SampleLaws.{sample_next}
use Rattle.estimate_correlation.proofs.WindowLaws.{latest_next}
use Rattle.estimate_correlation.proofs.UpperLaws.{upper_next}
use Rattle.estimate_correlation.proofs.add_places.Goals as goal

pub loop-re-preserved : goal.loop-re-preserved
loop-re-preserved g c =
    let l = c.loop-re in
    let xs = prepared g.P.Preparation.squared c.args.x.now in
    let k = l.re-index in
    let n = c.args.l in
    let chunks = c.as_chunks.result.0.now in
    let lt : k < n + 9 - 9 = omega (arith, length-take-le (n + 9 - 9) (drop 9 chunks) (omega (arith, length-drop 9 chunks))) in
    let next = c.sample.ensures ∙ sample_next g.P.Preparation.squared c.args.x.now (n + 9 - 9) 9 k (k + 9) c.as_chunks.ensures.front lt (omega arith) (omega arith) in
    let latest : Latest xs (k + 9 + 1) c.slid-window.result = latest_next xs (k + 9) l.window c.slid-window.result l.invariant.1 next c.slid-window.ensures.first c.slid-window.ensures.later in
    let m : k + 9 + 1 ≡ k + 1 + 9 = omega arith in
    (upper_next xs k l.sums c.add_place.new.sums c.slid-window.result l.invariant.0 latest c.add_place.ensures, subst (λ (n : ℕ). Latest xs n c.slid-window.result) m latest)
