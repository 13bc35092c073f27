-- `begin`: the line of names is to be written, and nothing else.
use mathlib.Core.Path.{refl}
use Rattle.pass_writer.proofs.WrittenLaws.{within}
use Rattle.pass_turn.proofs.begin.Goals as goal

pub returns-clause-left_value : goal.returns-clause-left_value
returns-clause-left_value c = (refl, within _ _ c.names_line-at.ensures, refl)
