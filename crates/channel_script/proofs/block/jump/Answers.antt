-- `jump` meets its contract. Assumes nothing.
use borrow.Author.Tests.{lt-ltb, le-ltb}
use lib.Ieee.{of_bits, neg}
use Rattle.channel_script.proofs.block.jump.Goals as goal

pub returns-then-k-lt8192 : goal.returns-then-k-lt8192
unfolding of_bits neg
returns-then-k-lt8192 c = rw (lt-ltb c.args.k 8192 c.if-k-lt8192.true)

pub returns-else-k-lt8192 : goal.returns-else-k-lt8192
unfolding of_bits
returns-else-k-lt8192 c = rw (le-ltb c.args.k 8192 c.if-k-lt8192.false)
