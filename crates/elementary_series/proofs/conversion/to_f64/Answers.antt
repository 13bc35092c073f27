-- `conversion::to_f64` meets its contract: both crates define the same product.
use Rattle.elementary_fixed_point.specs.Conversion as FixedPoint
use Rattle.elementary_series.specs.Conversion.{scaled}
use Rattle.elementary_series.proofs.conversion.to_f64.Goals as goal

pub returns : goal.returns
unfolding scaled FixedPoint.scaled
returns c = c.to_f64.ensures
