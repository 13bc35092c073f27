-- `sine` meets its contract.
use Rattle.elementary_sincos_table.proofs.Digits.{sine_at}
use Rattle.elementary_sincos_table.proofs.sine.Goals as goal

pub returns : goal.returns
returns c = sine_at c.args.k _ c.requires
