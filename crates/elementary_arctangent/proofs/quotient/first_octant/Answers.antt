-- `quotient::first_octant` meets its contract.
use mathlib.Core.Path.{◌≡◌, refl, sym, ap, ◌∙◌, subst}
use mathlib.Core.Bool.{Bool, true, false, cond}
use Prim.Native.Nat.{ℕ, ◌+◌, ◌*◌, ◌≤◌}
use native.Mathlib.Nat.{le_trans, le_of_eq, lt_of_le_of_lt, zero-add}
use lib.Dec.{T, lit<}
use lib.Ieee.{Float, binary64, fits}
use Rattle.elementary_fixed_point.specs.Ratio.{ratio}
use Rattle.elementary_fixed_point.specs.Code.Bounds.{Proper}
use Rattle.elementary_arctangent.specs.Steps.{series, second, angle_of_half, right_angle, first_octant}
use Rattle.elementary_arctangent.specs.Code.Tests.{upto_half}
use Rattle.elementary_arctangent.proofs.Tables.{right_angle_is}
use Rattle.elementary_arctangent.proofs.AngleBound.{octant_le}
use Rattle.elementary_arctangent.proofs.quotient.first_octant.Goals.{After-arctangent, Start}
use Rattle.elementary_arctangent.proofs.quotient.first_octant.Goals as goal

held_a : (c : Start) → T (fits binary64 c.args.a)
held_a c = subst T (sym c.well_formed.0.1) tt

held_b : (c : Start) → T (fits binary64 c.args.b)
held_b c = subst T (sym c.well_formed.1.0.1) tt

module _ (a b : Float) {x k r : ℕ} (ex : x ≡ cond (upto_half a b) (ratio a b) (second (ratio a b))) (ek : k ≡ cond (upto_half a b) 0 angle_of_half) (er : r ≡ series (x * 8)) where
  sum_is : k + r ≡ first_octant a b
  unfolding first_octant
  sum_is = ap (λ (z : ℕ). z + r) ek ∙ ap (λ (z : ℕ). cond (upto_half a b) 0 angle_of_half + z) (er ∙ ap (λ (z : ℕ). series (z * 8)) ex) ∙ go (upto_half a b)
    where
      go : (c : Bool) → cond c 0 angle_of_half + series (cond c (ratio a b) (second (ratio a b)) * 8) ≡ cond c (series (ratio a b * 8)) (angle_of_half + series (second (ratio a b) * 8))
      go true = zero-add (series (ratio a b * 8))
      go false = refl

  sum_le : Proper a b → T (fits binary64 a) → T (fits binary64 b) → k + r ≤ right_angle
  sum_le h fa fb = le_trans (le_of_eq sum_is) (octant_le a b h fa fb)

below : (c : After-arctangent) → c.offset.result + c.arctangent.result ≤ right_angle
below c = let s = c.before.before.before in sum_le s.args.a s.args.b c.argument-x.ensures.0 c.offset.ensures c.arctangent.ensures s.requires (held_a s) (held_b s)

pub overflow_add-result : goal.overflow_add-result
overflow_add-result c = record { fits = lt_of_le_of_lt (le_trans (below (goal.at.overflow_add-result c).After-arctangent) (le_of_eq right_angle_is)) (lit< tt) }

pub returns : goal.returns
returns c = (sum_is c.args.a c.args.b c.argument-x.ensures.0 c.offset.ensures c.arctangent.ensures, below (goal.at.returns c).After-arctangent)
