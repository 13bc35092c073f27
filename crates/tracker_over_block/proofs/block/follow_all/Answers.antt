-- `follow_all`: what is left of the lists makes of the tracker what all of them make of the first. Assumes nothing.
use mathlib.Core.Path.{sym, ap, ◌∙◌}
use mathlib.Core.Logic.{inl, inr}
use mathlib.Core.List.{List}
use lib.Ieee.{Float}
use denote.Bor.{Bor}
use Rattle.tracker_over_block.proofs.FollowingLaws.{one_next, both_next, over_end}
use Rattle.tracker_over_block.proofs.block.follow_all.Goals.{then-not-lists, else-not-lists+in-len2-up-b}
use Rattle.tracker_over_block.proofs.block.follow_all.Goals as goal

pub loop-a-preserved : goal.loop-a-preserved
loop-a-preserved c =
    let s = c.args in
    let l = c.loop-a in
    let u = c.step-t in (
      elim c.if-not-lists.branch [
        | then-not-lists w ↦ one_next s.dt s.fade l.a.now l.b.now _ _ (l.t, l.w) _ c.in-len2-up.len_at_least s.lists.two w.if-not-lists.true (ap (λ (b : Bor (List Float)). b.now) w.b-is) w.other-is u.ensures
        | else-not-lists+in-len2-up-b w ↦ both_next s.dt s.fade l.a.now l.b.now _ _ (l.t, l.w) _ c.in-len2-up.len_at_least s.lists.two w.if-not-lists.false w.in-len2-up-b.len_at_least (ap (λ (b : Bor (List Float)). b.now) w.b-is) w.other-is u.ensures
      ] ∙ l.invariant.0,
      u.auto.w ∙ l.invariant.1,
    )

pub returns-in_default : goal.returns-in_default
returns-in_default c =
    let s = c.args in
    let l = c.loop-a in
    sym (over_end s.lists.two s.dt s.fade l.a.now l.b.now (l.t, l.w) (inl c.in_default.len_below)) ∙ l.invariant.0

pub returns-in_default-b : goal.returns-in_default-b
returns-in_default-b c =
    let s = c.args in
    let l = c.loop-a in
    sym (over_end s.lists.two s.dt s.fade l.a.now l.b.now (l.t, l.w) (inr (c.if-not-lists.false, c.in_default-b.len_below))) ∙ l.invariant.0
