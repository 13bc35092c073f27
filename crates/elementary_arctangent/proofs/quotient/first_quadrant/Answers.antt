-- `quotient::first_quadrant` meets its contract.
use mathlib.Core.Path.{◌≡◌, sym, ap, ◌∙◌, subst}
use mathlib.Core.Bool.{Bool, true, false, not, cond}
use Prim.Native.Nat.{ℕ, ◌-◌, ◌≤◌}
use native.Mathlib.Nat.{le_trans, le_of_eq}
use native.Mathlib.Omega.{arith}
use lib.Dec.{T}
use lib.Ieee.{Float, le}
use lib.Ieee.Positive.{positive}
use Rattle.elementary_fixed_point.specs.Code.Bounds.{Proper}
use Rattle.elementary_arctangent.specs.Steps.{right_angle, first_octant, first_quadrant}
use Rattle.elementary_arctangent.proofs.Tables.{right_angle_is}
use Rattle.elementary_arctangent.proofs.AngleBound.{proper_yes, proper_no}
use Rattle.elementary_arctangent.proofs.quotient.first_quadrant.Goals as goal

-- the smaller and the larger of the two
ordered : (a b : Float) {l h : Float} → T (positive a) → T (positive b) → l ≡ cond (le a b) a b → h ≡ cond (le a b) b a → Proper l h
ordered a b {l} {h} pa pb el eh =
    subst (λ (z : Float). Proper z h) (sym el) (subst (λ (z : Float). Proper (cond (le a b) a b) z) (sym eh) (go (le a b) (proper_yes a b pa pb) (proper_no a b pa pb)))
  where
    go : (c : Bool) → (T c → Proper a b) → (T (not c) → Proper b a) → Proper (cond c a b) (cond c b a)
    go true f g = f tt
    go false f g = g tt

module _ (a b : Float) {l h : Float} {d : ℕ} (el : l ≡ cond (le a b) a b) (eh : h ≡ cond (le a b) b a) (ed : d ≡ first_octant l h) where
  part : d ≡ first_octant (cond (le a b) a b) (cond (le a b) b a)
  part = ed ∙ ap (λ (z : Float). first_octant z h) el ∙ ap (first_octant (cond (le a b) a b)) eh

  flat_is : le a b ≡ true → d ≡ first_quadrant a b
  unfolding first_quadrant
  flat_is t = part ∙ ap (λ (c : Bool). first_octant (cond c a b) (cond c b a)) t ∙ sym (ap (λ (c : Bool). cond c (first_octant a b) (right_angle - first_octant b a)) t)

  steep_is : le a b ≡ false → 7244019458077122842 - d ≡ first_quadrant a b
  unfolding first_quadrant
  steep_is t = ap (λ (z : ℕ). z - d) (sym right_angle_is) ∙ ap (λ (z : ℕ). right_angle - z) (part ∙ ap (λ (c : Bool). first_octant (cond c a b) (cond c b a)) t) ∙ sym (ap (λ (c : Bool). cond c (first_octant a b) (right_angle - first_octant b a)) t)

less : (d r : ℕ) → r ≡ 7244019458077122842 → 7244019458077122842 - d ≤ r
less d r h = omega arith

pub first_octant-d-requires : goal.first_octant-d-requires
first_octant-d-requires c = ordered c.args.a c.args.b c.requires.0 c.requires.1 c.smaller-low.ensures c.larger-high.ensures

pub overflow_sub-result : goal.overflow_sub-result
overflow_sub-result c = le_trans c.first_octant-d.ensures.1 (le_of_eq right_angle_is)

pub returns-then-a-b : goal.returns-then-a-b
returns-then-a-b c =
    (flat_is c.args.a c.args.b c.smaller-low.ensures c.larger-high.ensures c.first_octant-d.ensures.0 c.if-a-b.true, c.first_octant-d.ensures.1)

pub returns-else-a-b : goal.returns-else-a-b
returns-else-a-b c =
    (steep_is c.args.a c.args.b c.smaller-low.ensures c.larger-high.ensures c.first_octant-d.ensures.0 c.if-a-b.false, less c.first_octant-d.result right_angle right_angle_is)
