-- `sixty_fourths` meets its contract. Assumes nothing.
use lib.Ieee.{of_bits, of_int}
use Rattle.channel_model.specs.Opening.{whole}
use Rattle.channel_vectors.proofs.MemoryLaws.{sixty_fourths_are}
use Rattle.channel_vectors.proofs.memory.sixty_fourths.Goals as goal

pub returns : goal.returns
unfolding whole of_bits of_int
returns c = sixty_fourths_are c.args.start c.args.i c.u64_to_f64.ensures
