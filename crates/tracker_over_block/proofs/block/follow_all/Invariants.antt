-- `follow_all`: what is left of the lists makes of the tracker what all of them make of the first. Assumes nothing.
use mathlib.Core.Path.{◌≡◌}
use lib.ListN.{length}
use Rattle.tracker_model.specs.Following.{over_lists}
use Rattle.tracker_over_block.proofs.block.follow_all.Given as goal

abbrev pub invariant-loop-a : goal.invariant-loop-a
invariant-loop-a l =
    (over_lists l.lists.two l.dt l.fade l.a l.b (l.t, l.w) ≡ over_lists l.lists.two l.dt l.fade l.lists.first.now l.lists.second.now (l.initial.t, l.initial.w))
    × (length l.w ≡ 2048)

abbrev pub decreases-loop-a : goal.decreases-loop-a
decreases-loop-a l = length l.a
