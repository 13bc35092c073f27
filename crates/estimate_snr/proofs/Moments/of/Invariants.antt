-- `Moments::of`: before turn k the two sums are those of the first k samples.
use Rattle.std.proofs.Common.{◌≡◌}
use lib.Ieee.{binary32, binary64, add}
use Rattle.ieee754.specs.Binary64.{square, zero}
use Rattle.sums.specs.Ascending.{sum_from}
use Rattle.sums.specs.Complex.{norm_sqr}
use Rattle.sums.specs.Interleaved.{at}
use Rattle.estimate_snr.proofs.Moments.of.Given as goal

abbrev pub invariant-loop-re : goal.invariant-loop-re
invariant-loop-re l =
    (l.m2 ≡ sum_from (add binary64) zero (λ k. norm_sqr binary32 (at l.samples k)) l.re-index)
    × (l.m4 ≡ sum_from (add binary64) zero (λ k. square (norm_sqr binary32 (at l.samples k))) l.re-index)
