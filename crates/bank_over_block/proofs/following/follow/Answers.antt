-- `follow`: one run for the three where they move as one, else each by itself.
use Rattle.bank_over_block.proofs.FollowingCases.{followed_once, each_agrees}
use Rattle.bank_over_block.proofs.following.follow.Goals as goal

pub returns-then-moves_as_one : goal.returns-then-moves_as_one
returns-then-moves_as_one c =
    each_agrees _ _ _ _ c.requires (followed_once _ _ _ _ (c.moves_as_one.ensures c.if-moves_as_one.true) c.follow_once-h.ensures)

pub returns-else-moves_as_one : goal.returns-else-moves_as_one
returns-else-moves_as_one c = each_agrees _ _ _ _ c.requires c.follow_each.ensures
