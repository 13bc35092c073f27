-- `no_number`, of a NaN and of an infinity.
use mathlib.Core.Path.{sym}
use Rattle.elementary_sincos.proofs.Cases.{of_nan, of_infinity}
use Rattle.elementary_sincos.proofs.no_number.Goals as goal

pub returns-then-is_nan : goal.returns-then-is_nan
returns-then-is_nan c = λ h. of_nan c.args.theta (sym c.if-is_nan.ensures.value)

pub returns-else-is_nan : goal.returns-else-is_nan
returns-else-is_nan c = of_infinity c.args.theta
