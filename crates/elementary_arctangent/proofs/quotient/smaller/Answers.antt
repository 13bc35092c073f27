-- `quotient::smaller` meets its contract.
use mathlib.Core.Path.{sym, ap}
use mathlib.Core.Bool.{Bool, cond}
use Rattle.elementary_arctangent.proofs.AngleBound.{not_above, above}
use Rattle.elementary_arctangent.proofs.quotient.smaller.Goals as goal

pub returns-then-b-a : goal.returns-then-b-a
returns-then-b-a c = sym (ap (λ (t : Bool). cond t c.args.a c.args.b) (above c.args.a c.args.b c.requires.0 c.requires.1 c.if-b-a.true))

pub returns-else-b-a : goal.returns-else-b-a
returns-else-b-a c = sym (ap (λ (t : Bool). cond t c.args.a c.args.b) (not_above c.args.a c.args.b c.requires.0 c.requires.1 c.if-b-a.false))
