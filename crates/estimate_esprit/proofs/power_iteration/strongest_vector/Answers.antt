-- `strongest_vector`: the steps still to go, from the vector reached, end where all of them do.
use Rattle.std.proofs.Common.{◌≡◌, ℕ, ◌+◌, ◌∙◌, ◌-◌, ap, arith}
use Rattle.estimate_correlation.specs.Code.Matrices.{matrix}
use Rattle.estimate_esprit.specs.Esprit.{power_iteration}
use Rattle.estimate_esprit.specs.Code.Vectors.{vector}
use Rattle.estimate_esprit.proofs.EstimateCases.{power_stops, power_goes, power_ends}
use Rattle.estimate_esprit.proofs.VectorLaws.{ones_are}
use Rattle.estimate_esprit.proofs.power_iteration.strongest_vector.Goals as goal

pub loop-step-init : goal.loop-step-init
loop-step-init c =
    let e : c.args.n - 0 ≡ c.args.n = omega arith in
    ap (λ (k : ℕ). power_iteration k (matrix c.args.r.now) _) e ∙ ap (power_iteration c.args.n (matrix c.args.r.now)) ones_are

pub returns-then-not-norm : goal.returns-then-not-norm
returns-then-not-norm c =
    let l = c.loop-step in
    power_stops _ (c.args.n - l._step) (vector l.u) (omega arith) c.matrix_times-w.ensures c.norm_of-norm.ensures c.if-not-norm.true ∙ l.invariant

pub loop-step-preserved : goal.loop-step-preserved
loop-step-preserved c =
    let l = c.loop-step in
    let e : c.args.n - (l._step + 1) ≡ c.args.n - l._step - 1 = omega arith in
    ap (λ (k : ℕ). power_iteration k (matrix c.args.r.now) (vector c.divided-u.result)) e
    ∙ power_goes _ (c.args.n - l._step) (vector l.u) (omega arith) c.matrix_times-w.ensures c.norm_of-norm.ensures c.if-not-norm.false c.divided-u.ensures
    ∙ l.invariant

pub returns : goal.returns
returns c = power_ends _ _ (c.args.n - c.loop-step._step) (omega arith) ∙ c.loop-step.invariant
