-- `conversion::from_f64` meets its contract.
use Rattle.std.proofs.Common.{T, sym, subst}
use lib.Ieee.{of_bits}
use Rattle.elementary_fixed_point.specs.Conversion.{fixed}
use Rattle.elementary_fixed_point.proofs.FromFloat.{whole}
use Rattle.elementary_fixed_point.proofs.conversion.from_f64.Goals as goal

pub truncating_f64_to_u64-requires : goal.truncating_f64_to_u64-requires
unfolding of_bits
truncating_f64_to_u64-requires c = let w = whole c.args.r (subst T (sym c.well_formed.0.1) tt) c.requires in record { lower_bound = w.above; upper_bound = w.under }

pub returns : goal.returns
unfolding of_bits fixed
returns c = c.truncating_f64_to_u64.ensures
