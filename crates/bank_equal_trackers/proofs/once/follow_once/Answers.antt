-- `follow_once`: what is done on stretch 1 and copied is what is done on each of the three.
use mathlib.Core.Path.{◌∙◌}
use Rattle.bank_equal_trackers.proofs.OneForThree.{one_for_three, pasted}
use Rattle.bank_equal_trackers.proofs.once.follow_once.Goals as goal

pub returns : goal.returns
returns c =
    one_for_three _ _ _ c.requires.0 (c.follow_on-r.auto.w ∙ c.requires.0) c.requires.1 c.follow_on-r.ensures
    (pasted _ _ _ c.copy_within.ensures.after) (pasted _ _ _ c.copy_within-2.ensures.after)
