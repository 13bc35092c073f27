-- `ieee754_roots::square_root::root_bits` meets its contract. Assumes nothing.
use Rattle.ieee754.proofs.SquareRootCases.{root_pattern, pattern_lt}
use Rattle.ieee754_roots.proofs.square_root.root_bits.Goals as goal

pub returns : goal.returns
returns c = (
  root_pattern c.args.m c.args.p c.requires.0 c.requires.1 c.requires.2 c.nearest_root.result c.nearest_root.ensures,
  pattern_lt c.args.m c.args.p c.requires.0 c.requires.1 c.requires.2 c.nearest_root.result c.nearest_root.ensures,
)
