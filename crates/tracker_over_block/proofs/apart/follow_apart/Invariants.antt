-- `follow_apart`: what is left of the samples makes of the tracker what all of them make of the first. Assumes nothing.
use mathlib.Core.Path.{◌≡◌}
use mathlib.Core.Bool.{Bool}
use lib.ListN.{length}
use Rattle.tracker_one_frequency.specs.Code.Whole.{whole}
use Rattle.tracker_model.specs.Code.OneList.{followed}
use Rattle.tracker_over_block.proofs.apart.follow_apart.Given as goal

abbrev pub invariant-loop-left : goal.invariant-loop-left
invariant-loop-left l =
    ((fade : Bool) → followed l.dt fade l.left (whole l.t, l.w) ≡ followed l.dt fade l.samples (whole l.initial.t, l.initial.w))
    × (length l.w ≡ 2048)

abbrev pub decreases-loop-left : goal.decreases-loop-left
decreases-loop-left l = length l.left
