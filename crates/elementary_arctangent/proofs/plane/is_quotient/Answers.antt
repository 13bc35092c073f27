-- `plane::is_quotient` meets its contract.
use mathlib.Core.Path.{ap, ◌∙◌}
use lib.Ieee.{Float, binary64, mul, lt}
use Rattle.ieee754.specs.Binary64.{two_to_minus16}
use Rattle.elementary_arctangent.proofs.SignBits.{positive_no_nan}
use Rattle.elementary_arctangent.proofs.OppositeSign.{small_signed}
use Rattle.elementary_arctangent.proofs.plane.is_quotient.Goals as goal

pub magnitude-requires : goal.magnitude-requires
magnitude-requires c = positive_no_nan c.args.y c.requires.0

pub returns : goal.returns
returns c = ap (λ (z : Float). lt z (mul binary64 c.args.x two_to_minus16)) c.magnitude.ensures ∙ small_signed c.args.y c.args.x c.requires.0 c.requires.1
