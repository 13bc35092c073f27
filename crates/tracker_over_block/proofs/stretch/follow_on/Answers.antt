-- `follow_on`: what the call says of the stretch lent, said of the whole memory. Assumes nothing.
use mathlib.Core.Path.{refl}
use Prim.Native.Nat.{◌+◌, ◌*◌}
use Rattle.sequences.proofs.StretchLaws.{within_is}
use Rattle.tracker_model.specs.Following.{over_lists}
use Rattle.tracker_over_block.proofs.stretch.follow_on.Goals as goal

pub returns : goal.returns
returns c =
    let s = c.args in
    let a = 2048 * s.k in
    within_is a (a + 2048) 2048 (over_lists s.lists.two s.dt s.fade s.lists.first.now s.lists.second.now) s.h s.w.now refl c.follow_lists.ensures
