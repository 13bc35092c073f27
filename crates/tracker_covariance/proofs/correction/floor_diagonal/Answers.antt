-- `floor_diagonal` raises the six variances. The loop's invariant: those of the states below i are raised, and nothing else has changed.
use Rattle.tracker_covariance.proofs.Floor.{done}
use Rattle.tracker_covariance.proofs.correction.floor_diagonal.Goals as goal

pub returns : goal.returns
returns c = done _ _ _ c.loop-i.invariant.0 c.loop-i-test.false c.loop-i.invariant.1
