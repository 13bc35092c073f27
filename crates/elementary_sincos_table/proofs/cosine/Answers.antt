-- `cosine` meets its contract.
use Rattle.elementary_sincos_table.proofs.Digits.{cosine_at}
use Rattle.elementary_sincos_table.proofs.cosine.Goals as goal

pub returns : goal.returns
returns c = cosine_at c.args.k _ c.requires
