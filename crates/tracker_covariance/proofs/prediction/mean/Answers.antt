-- `mean` is the mean of P and its transpose. The invariants: the rows above r, and row r up to column c, are stored.
use Rattle.tracker_covariance.proofs.Filling.{all_rows}
use Rattle.tracker_covariance.proofs.prediction.mean.Goals as goal

pub returns : goal.returns
returns c = all_rows _ _ _ c.loop-r-test.false c.loop-r.invariant.1
