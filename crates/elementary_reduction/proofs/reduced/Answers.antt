-- `reduced` meets its contract.
use mathlib.Core.Path.{sym, subst}
use lib.Dec.{T}
use Rattle.elementary_reduction.proofs.Pattern.{far_no_nan, exponent, reduced_is}
use Rattle.elementary_reduction.proofs.reduced.Goals as goal

pub float_to_bits-b : goal.float_to_bits-b
float_to_bits-b c = far_no_nan c.args.theta c.requires

pub overflow_sub-e : goal.overflow_sub-e
overflow_sub-e c = exponent c.args.theta (subst T (sym c.well_formed.0.1) tt) c.requires

pub returns : goal.returns
returns c = reduced_is c.args.theta (subst T (sym c.well_formed.0.1) tt) c.requires c.shifted.result c.shifted.ensures
