-- `correct_by_first`, from what its steps ensure.
use mathlib.Core.Path.{ap, ◌∙◌}
use lib.Ieee.{Float}
use Rattle.tracker_covariance.specs.declared.states.Band.TheVariants.{First}
use Rattle.tracker.specs.declared.correction.Correction.TheVariants.{Kept}
use Rattle.tracker.specs.Code.Second.{moved}
use Rattle.tracker.proofs.CorrectionSteps.{band_is}
use Rattle.tracker.proofs.SecondSteps.{gained_moved}
use Rattle.tracker.proofs.first.correct_by_first.Goals as goal

pub returns : goal.returns
returns c =
    let a = c.args in
    let m = c.measure-m.result in
    let t = c.enter-ekf.result in
    band_is a.h.ekf a.h.p a.w.now First a.re a.im _ m t _ c.apply.result c.prior_of.ensures c.measure-m.ensures c.enter-ekf.ensures
    (c.apply.ensures
    ∙ ap (λ (r : Float). moved t a.h.p 0 m.z m.r_effective (Kept m.norm_re r)) c.ratio-pr.ensures
    ∙ gained_moved t a.h.p 0 m)
