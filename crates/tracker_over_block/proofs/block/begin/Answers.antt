-- `begin`: two lists, one with the halves apart, and one without. Assumes nothing.
use mathlib.Core.Path.{◌∙◌}
use Rattle.tracker_model.specs.Code.OneList.{followed}
use Rattle.tracker_over_block.proofs.FollowingLaws.{of_one}
use Rattle.tracker_over_block.proofs.block.begin.Goals as goal

pub returns : goal.returns
returns c =
    let a = c.args in
    let u = c.follow_apart in
    let q = c.in-Some.ensures in
    λ fade.
    of_one a.lists.two a.dt fade a.lists.first.now u.result.1.now a.lists.second.now (a.h, a.w.now) _ c.if-lists.false
    ((λ j. followed a.dt fade u.result.1.now (record { ekf = u.result.0.ekf; p = c.join-p.ensures j }, u.new.w))
    ∙ u.ensures fade ∙ (λ j. followed a.dt fade a.lists.first.now (record { ekf = a.h.ekf; p = q j }, a.w.now)))
