-- `strongest_vector`: the steps still to go, from the vector reached, end where all of them do.
use Rattle.std.proofs.Common.{◌≡◌, ◌-◌}
use Rattle.estimate_correlation.specs.Code.Matrices.{matrix}
use Rattle.estimate_esprit.specs.Esprit.{power_iteration, ones}
use Rattle.estimate_esprit.specs.Code.Vectors.{vector}
use Rattle.estimate_esprit.proofs.power_iteration.strongest_vector.Given as goal

abbrev pub invariant-loop-step : goal.invariant-loop-step
invariant-loop-step l = power_iteration (l.n - l._step) (matrix l.r) (vector l.u) ≡ power_iteration l.n (matrix l.r) ones
