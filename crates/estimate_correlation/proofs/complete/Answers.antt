-- `complete`: row i - 1 is done now, and no other row changed.
use Rattle.std.proofs.Common.{◌-◌, List, [], ap, ◌∙◌, length-set, arith, get_or-set_same, get_or-set_other}
use native.Mathlib.Decide.{ℕ_discrete}
use Rattle.std.specs.Float.{binary64}
use Rattle.sums.specs.declared.complex.Complex.{Complex}
use Rattle.sums.specs.Complex.{Cx, div_c}
use Rattle.sums.specs.Code.Numbers.{number}
use Rattle.estimate_correlation.proofs.UpperLaws.{mirrored_same}
use Rattle.estimate_correlation.proofs.complete.Goals as goal

pub loop-i-preserved : goal.loop-i-preserved
loop-i-preserved c =
    let l = c.loop-i in
    let n = c.args.n in
    let i = l.i - 1 in (
      simp length-set l.invariant.0,
      λ k h. get_or-set_other l.sums i k _ [] (λ e. omega arith) ∙ l.invariant.1 k (omega arith),
      λ k h lt j ltj. elim (ℕ_discrete k i) [
        | yes e ↦
            rw e
            (ap (λ (r : List Complex). number r j) (get_or-set_same l.sums i _ [] (omega arith))
            ∙ c.mean_row.ensures j ltj
            ∙ ap (λ (z : Cx). div_c binary64 z n) (mirrored_same l.sums c.args.sums.now i j (λ m le. l.invariant.1 m (omega arith))))
        | no ne ↦ ap (λ (r : List Complex). number r j) (get_or-set_other l.sums i k _ [] ne) ∙ l.invariant.2 k (omega arith) lt j ltj
      ],
    )
