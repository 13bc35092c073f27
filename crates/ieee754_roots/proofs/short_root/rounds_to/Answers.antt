-- `ieee754_roots::short_root::rounds_to` meets its contract: the two tests keep every nearest root between the halfway marks. Assumes nothing.
use Rattle.ieee754_roots.proofs.ShortRootCases.{settled, apart}
use Rattle.ieee754_roots.proofs.short_root.rounds_to.Goals as goal

pub returns : goal.returns
returns c h = settled c.args.m c.args.d c.requires.2 (apart c.args.m c.args.d h)
