-- `channel_script::block::run_block` meets its contract: a block on its three memories. Assumes nothing.
use lib.Ieee.{of_bits, of_int}
use Rattle.channel_script.proofs.PlayLaws.{left_is}
use Rattle.channel_script.proofs.block.run_block.Goals as goal

pub returns : goal.returns
unfolding of_int of_bits
returns c =
    let a = c.args in
    left_is a.c a.l c.lent-b.result _ _ _ _ _ c.first_list-first.ensures c.second_list-second.ensures c.lent-b.ensures c.is_touched.ensures
