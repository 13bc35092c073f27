-- `part` takes the halves out, and looks at every number that the channels would share.
use Rattle.tracker_block_diagonal.specs.Code.Joined.{joined}
use Rattle.tracker_block_diagonal.proofs.Finite.{both_true}
use Rattle.tracker_block_diagonal.proofs.PartedHalves.{parted}
use borrow.Author.Rules.{rules}
use Rattle.tracker_block_diagonal.proofs.joining.part.Goals as goal

pub returns-then-r0-r1 : goal.returns-then-r0-r1
unfolding joined
returns-then-r0-r1 c =
    let b5 = both_true _ c.none_shared-r5.result c.if-r0-r1.true in
    let b4 = both_true _ c.none_shared-r4.result b5.0 in
    let b3 = both_true _ c.none_shared-r3.result b4.0 in
    let b2 = both_true _ c.none_shared-r2.result b3.0 in
    let b1 = both_true _ c.none_shared-r1.result b2.0 in
    parted c.args.p (search rules)
    (c.none_shared-r0.ensures b1.0)
    (c.none_shared-r1.ensures b1.1)
    (c.none_shared-r2.ensures b2.1)
    (c.none_shared-r3.ensures b3.1)
    (c.none_shared-r4.ensures b4.1)
    (c.none_shared-r5.ensures b5.1)
