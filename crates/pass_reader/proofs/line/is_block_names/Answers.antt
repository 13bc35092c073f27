-- `pass_reader::line::is_block_names` meets its contract. Equality of bytes is the test.
use Rattle.pass_reader.proofs.ByteLaws.{same_is}
use Rattle.pass_reader.proofs.line.is_block_names.Goals as goal

pub returns : goal.returns
returns c = same_is _ _ _ _ c.as_slice.ensures c.eq.ensures
