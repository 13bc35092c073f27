-- `floor_variance` is Rust's `max` with the least variance: a comparison that is false for a NaN.
use Rattle.tracker_covariance.proofs.Floor.{kept, lifted}
use Rattle.tracker_covariance.proofs.correction.floor_variance.Goals as goal

pub returns-then-v : goal.returns-then-v
returns-then-v c = kept _ c.if-v.true

pub returns-else-v : goal.returns-else-v
returns-else-v c = lifted _ c.if-v.false
