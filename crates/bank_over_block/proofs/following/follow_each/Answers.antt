-- `follow_each`, from its three trackers, each on its stretch.
use Rattle.bank_over_block.proofs.FollowingCases.{followed_is}
use Rattle.bank_over_block.proofs.following.follow_each.Goals as goal

pub returns : goal.returns
returns c =
    followed_is _ _ _ _ c.is_fading.ensures c.is_fading-2.ensures c.is_fading-3.ensures
    c.follow_on-t0.ensures c.follow_on-t1.ensures c.follow_on-t2.ensures
