-- `follow_apart`: what is left of the samples makes of the tracker what all of them make of the first. Assumes nothing.
use mathlib.Core.Path.{ap, ◌∙◌}
use mathlib.Core.List.{List}
use lib.Ieee.{Float}
use Rattle.std.proofs.lemmas.Option.{MatchOption-at_none}
use Rattle.tracker_one_frequency.specs.Code.Whole.{whole}
use Rattle.tracker_model.specs.Code.OneList.{followed}
use Rattle.tracker_over_block.proofs.FollowingLaws.{followed_next}
use Rattle.tracker_over_block.proofs.apart.follow_apart.Goals.{in_default, in-len2-up+in_default-step_apart}
use Rattle.tracker_over_block.proofs.apart.follow_apart.Goals as goal

pub loop-left-preserved : goal.loop-left-preserved
loop-left-preserved c =
    let l = c.loop-left in (
      λ fade. followed_next c.args.dt fade l.left.now (whole l.t, l.w) _ c.in-len2-up.len_at_least (c.in-Some.ensures fade) ∙ l.invariant.0 fade,
      c.step_apart.auto.w ∙ l.invariant.1,
    )

pub returns : goal.returns
returns c = λ fade.
    let l = c.loop-left in
    ap (λ (w : List Float). followed c.args.dt fade l.left.now (whole l.t, w))
    (elim c.if-left-lt2.branch [
      | in_default w ↦ w.w-is
      | in-len2-up+in_default-step_apart w ↦ w.w-is ∙ MatchOption-at_none _ _ w.in_default-step_apart.is (w.step_apart.ensures fade)
    ])
    ∙ l.invariant.0 fade
