-- `first_window`: the window is that after the samples so far.
use Rattle.estimate_correlation.specs.Correlation.{prepared}
use Rattle.estimate_correlation.specs.Code.RunningSums.{Latest}
use Rattle.estimate_correlation.proofs.first_window.Given as goal

abbrev pub invariant-loop-re : goal.invariant-loop-re
invariant-loop-re g l = Latest (prepared g.P.Preparation.squared l.x) l.re-index l.window
