-- `take_block`, where the line is in the form: a flag and samples for the channel.
use mathlib.Core.Path.{sym}
use lib.Seq.{length-take-le}
use Rattle.pass_session.proofs.BlockCases.{said_within, block-answered}
use Rattle.pass_session.proofs.block.take_block.Goals as goal

pub slice_bounds-samples-end : goal.slice_bounds-samples-end
slice_bounds-samples-end c = said_within c.args.line.now _ _ c.block_line.ensures _ _ c.in-Some.is

pub slice_bounds-block-end : goal.slice_bounds-block-end
slice_bounds-block-end c = sym (length-take-le _ _ (said_within c.args.line.now _ _ c.block_line.ensures _ _ c.in-Some.is))

pub returns : goal.returns
returns c =
    block-answered c.args.line.now _ _ c.block_line.ensures c.args.p c.args.windows.now c.args.out.now _ _
    c.block-b.result _ _ _ c.in-Some.is c.block-b.ensures c.take_answer.ensures
