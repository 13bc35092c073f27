-- `step_apart`, made and not made. Assumes nothing.
use mathlib.Core.Path.{ap}
use Rattle.tracker.specs.declared.state.Tracked.{Tracked}
use Rattle.tracker_one_frequency.specs.Code.Whole.{whole}
use Rattle.tracker_model.specs.Following.{corrected, follow}
use Rattle.tracker_over_block.proofs.FollowingLaws.{by_lock, each_some}
use Rattle.tracker_over_block.proofs.apart.step_apart.Goals as goal

pub returns-then-is_steady : goal.returns-then-is_steady
unfolding follow
returns-then-is_steady c = λ fade.
    let a = c.args in
    each_some _ _ _ c.update.result
    (λ s e. by_lock fade a.dt (corrected a.sample) (whole a.h, a.w.now) c.if-h.true (ap (λ (h : Tracked). (h, a.w.now)) c.predict.ensures) e)
    c.update.ensures
