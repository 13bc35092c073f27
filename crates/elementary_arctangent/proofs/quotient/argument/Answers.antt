-- `quotient::argument` meets its contract.
use mathlib.Core.Path.{◌≡◌, sym, ap, ◌∙◌, subst}
use mathlib.Core.Bool.{Bool, true, false, not, cond}
use Prim.Native.Nat.{ℕ, ◌^◌, ◌≤◌}
use native.Mathlib.Nat.{le_trans, le_of_eq}
use lib.Dec.{T}
use lib.Ieee.{Float, binary64, fits}
use Rattle.elementary_fixed_point.specs.Ratio.{ratio}
use Rattle.elementary_fixed_point.specs.Code.Bounds.{Proper}
use Rattle.elementary_fixed_point.proofs.RatioBound.{ratio_upto}
use Rattle.elementary_arctangent.specs.Steps.{second}
use Rattle.elementary_arctangent.specs.Code.Tests.{upto_half}
use Rattle.elementary_arctangent.proofs.AngleBound.{ratio_half, second_half}
use Rattle.elementary_arctangent.proofs.quotient.argument.Goals.{Start}
use Rattle.elementary_arctangent.proofs.quotient.argument.Goals as goal

held_a : (c : Start) → T (fits binary64 c.args.a)
held_a c = subst T (sym c.well_formed.0.1) tt

held_b : (c : Start) → T (fits binary64 c.args.b)
held_b c = subst T (sym c.well_formed.1.0.1) tt

module _ (a b : Float) (h : Proper a b) (fa : T (fits binary64 a)) (fb : T (fits binary64 b)) {q : ℕ} (e : q ≡ ratio a b) where
  abbrev Meets : ℕ → Type 0
  Meets r = (r ≡ cond (upto_half a b) (ratio a b) (second (ratio a b))) × (r ≤ 2 ^ 60)

  first : upto_half a b ≡ true → Meets q
  first t = (e ∙ sym (ap (λ (c : Bool). cond c (ratio a b) (second (ratio a b))) t), le_trans (le_of_eq e) (ratio_half a b h fa fb (subst T (sym t) tt)))

  later : {r : ℕ} → upto_half a b ≡ false → r ≡ second q → Meets r
  later t f =
      let is = f ∙ ap second e in
      (is ∙ sym (ap (λ (c : Bool). cond c (ratio a b) (second (ratio a b))) t), le_trans (le_of_eq is) (second_half a b h fa fb (subst (λ (c : Bool). T (not c)) (sym t) tt)))

pub returns-then-a-b : goal.returns-then-a-b
returns-then-a-b c = first c.args.a c.args.b c.requires (held_a (goal.at.returns-then-a-b c).Start) (held_b (goal.at.returns-then-a-b c).Start) c.ratio-q.ensures.bits c.if-a-b.true

pub second_quotient-requires : goal.second_quotient-requires
second_quotient-requires c = le_trans (le_of_eq c.ratio-q.ensures.bits) (ratio_upto c.args.a c.args.b c.requires)

pub returns : goal.returns
returns c = later c.args.a c.args.b c.requires (held_a (goal.at.returns c).Start) (held_b (goal.at.returns c).Start) c.ratio-q.ensures.bits c.if-a-b.false c.second_quotient.ensures
