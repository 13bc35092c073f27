-- `sign::magnitude` meets its contract.
use mathlib.Core.Path.{sym, subst}
use lib.Dec.{T}
use Rattle.ieee754.proofs.SizeBits.{size_bits, size_no_nan}
use Rattle.elementary_arctangent.proofs.sign.magnitude.Goals as goal

pub float_from_bits-result : goal.float_from_bits-result
float_from_bits-result c = size_no_nan c.args.x (subst T (sym c.well_formed.0.1) tt) c.requires

pub returns : goal.returns
returns c = size_bits c.args.x (subst T (sym c.well_formed.0.1) tt)
