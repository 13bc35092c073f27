-- `transition_transposed` is (F·P)ᵀ. The loop's invariant: the rows above r are stored.
use native.Mathlib.Omega.{arith}
use Rattle.tracker_covariance.proofs.Filling.{all_rows}
use Rattle.tracker_covariance.proofs.Transition.{turn}
use Rattle.tracker_covariance.proofs.prediction.transition_transposed.Goals as goal

pub loop-r-preserved : goal.loop-r-preserved
loop-r-preserved c =
    let l = c.loop-r in
    let a = c.args in
    (omega arith, turn a.dt a.p l.out l.r _ _ c.loop-r-test.true c.moved-a.ensures c.moved-b.ensures l.invariant.1)

pub returns : goal.returns
returns c = all_rows _ _ _ c.loop-r-test.false c.loop-r.invariant.1
