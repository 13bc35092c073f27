-- `correlation_matrix`: the sums begin at zero, and each mean is that of its lags.
use Rattle.std.proofs.Common.{rules}
use Rattle.estimate_correlation.specs.Correlation.{prepared}
use Rattle.estimate_correlation.specs.Code.RunningSums.{UpperSums}
use Rattle.estimate_correlation.proofs.UpperLaws.{upper_none, matrix_is}
use Rattle.estimate_correlation.proofs.correlation_matrix.Goals.{then-squared, else-squared}
use Rattle.estimate_correlation.proofs.correlation_matrix.Goals as goal

pub add_places-requires-clause-none : goal.add_places-requires-clause-none
add_places-requires-clause-none c = upper_none _

pub add_places-requires-else-squared-clause-none : goal.add_places-requires-else-squared-clause-none
add_places-requires-else-squared-clause-none c = upper_none _

pub returns : goal.returns
returns c =
    let a = c.args in
    let xs = prepared a.squared a.x.now in
    let sums : UpperSums xs a.l c.if-squared.r_xx = elim c.if-squared.branch [ then-squared w ↦ search rules | else-squared w ↦ search rules ] in
    matrix_is xs a.l c.if-squared.r_xx sums c.complete.new.sums c.u64_to_f64.ensures c.complete.ensures
