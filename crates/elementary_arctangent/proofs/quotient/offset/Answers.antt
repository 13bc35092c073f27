-- `quotient::offset` meets its contract.
use mathlib.Core.Path.{sym, ap, ◌∙◌}
use mathlib.Core.Bool.{Bool, cond}
use Rattle.elementary_arctangent.specs.Steps.{angle_of_half}
use Rattle.elementary_arctangent.proofs.Tables.{angle_of_half_is}
use Rattle.elementary_arctangent.proofs.quotient.offset.Goals as goal

pub returns-else-a-b : goal.returns-else-a-b
returns-else-a-b c = sym (ap (λ (t : Bool). cond t 0 angle_of_half) c.if-a-b.false ∙ angle_of_half_is)
