-- `channel_script::block::first_list` meets its contract. Assumes nothing.
use Rattle.channel_script.specs.Code.Blocks.{first_memory}
use Rattle.channel_script.proofs.BlockLaws.{two_written}
use Rattle.channel_script.proofs.block.first_list.Goals as goal

pub returns-then-l : goal.returns-then-l
unfolding first_memory
returns-then-l c = rw c.if-l.true c.jumps.ensures

pub returns : goal.returns
unfolding first_memory
returns c =
    let l = c.args.l in
    rw c.if-l.false (two_written 8192 l.fill l.re l.im)
