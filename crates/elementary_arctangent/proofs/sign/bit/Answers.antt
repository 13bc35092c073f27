-- `sign::bit` meets its contract.
use mathlib.Core.Path.{sym, subst}
use lib.Dec.{T}
use Rattle.elementary_arctangent.proofs.SignBits.{sign_bit_lem}
use Rattle.elementary_arctangent.proofs.sign.bit.Goals as goal

pub returns : goal.returns
returns c = sign_bit_lem c.args.x (subst T (sym c.well_formed.0.1) tt) c.requires
