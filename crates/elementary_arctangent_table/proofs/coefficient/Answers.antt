-- `coefficient` meets its contract.
use Rattle.elementary_arctangent_table.proofs.Digits.{coefficient_at}
use Rattle.elementary_arctangent_table.proofs.coefficient.Goals as goal

pub returns : goal.returns
returns c = coefficient_at c.args.degree c.args.k _ c.requires.0 c.requires.1
