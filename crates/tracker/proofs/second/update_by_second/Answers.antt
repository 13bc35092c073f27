-- `update_by_second`, lost and kept.
use Rattle.tracker.proofs.SecondSteps.{after_lost, after_kept, second_is}
use Rattle.tracker.proofs.second.update_by_second.Goals as goal

pub returns-in_default : goal.returns-in_default
returns-in_default c =
    let a = c.args in
    let d = c.correct_by_second-answer in
    second_is a.h.ekf a.h.p a.norm_re a.pr a.re a.im d.result _ d.ensures
    (after_lost a.norm_re a.pr d.result c.in_default.is)

pub returns : goal.returns
returns c =
    let a = c.args in
    let d = c.correct_by_second-answer in
    second_is a.h.ekf a.h.p a.norm_re a.pr a.re a.im d.result _ d.ensures
    (after_kept a.norm_re a.pr _ _ d.result c.settle-ekf.result c.in-Kept.is c.settle-ekf.ensures)
