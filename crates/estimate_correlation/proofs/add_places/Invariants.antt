-- `add_places`: before turn k the sums are those over k places, and nine samples more were seen.
use Rattle.std.proofs.Common.{◌+◌}
use Rattle.estimate_correlation.specs.Correlation.{prepared}
use Rattle.estimate_correlation.specs.Code.RunningSums.{Latest, UpperSums}
use Rattle.estimate_correlation.proofs.add_places.Given as goal

abbrev pub invariant-loop-re : goal.invariant-loop-re
invariant-loop-re g l = let xs = prepared g.P.Preparation.squared l.x in UpperSums xs l.re-index l.sums × Latest xs (l.re-index + 9) l.window
