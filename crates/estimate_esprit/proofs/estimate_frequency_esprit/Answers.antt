-- `estimate_esprit::estimate_frequency_esprit` meets its contract. Assumes nothing.
use mathlib.Core.Path.{ap, sym, ◌∙◌}
use Prim.Native.Nat.{ℕ, ◌-◌}
use native.Mathlib.Omega.{arith}
use Rattle.estimate_correlation.specs.Correlation.{prepared, correlation_matrix}
use Rattle.estimate_esprit.proofs.EstimateCases.{too_few, estimate_is}
use Rattle.estimate_correlation.proofs.SampleLaws.{prepared_count}
use Rattle.estimate_esprit.proofs.estimate_frequency_esprit.Goals as goal

pub returns-then-n-lt10 : goal.returns-then-n-lt10
returns-then-n-lt10 c = let s = c.args in too_few (prepared s.squared s.samples.now) _ (omega (arith, prepared_count s.squared s.samples.now))

pub returns : goal.returns
returns c =
    let s = c.args in
    let xs = prepared s.squared s.samples.now in
    let count = prepared_count s.squared s.samples.now in
    estimate_is xs _ (omega (arith, count)) (c.correlation_matrix-r_xx.ensures ∙ ap (λ (n : ℕ). correlation_matrix xs (n - 9)) (sym count))
    c.strongest_vector-u.ensures c.frequency_of.ensures
