-- `plane::regular_angle` meets its contract.
use mathlib.Core.Path.{◌≡◌, refl, sym, ap, ◌∙◌, subst}
use mathlib.Core.Bool.{Bool, true, false, not, cond, ◌&&◌, true≢false}
use Prim.Native.Nat.{ℕ, ◌-◌}
use lib.IntN.{negsuc}
use lib.Dec.{T}
use lib.Ieee.{Float, binary64, div, neg, of_bits}
use lib.Ieee.Positive.{positive}
use Rattle.ieee754.specs.Sign.{absolute, sign_bit, signed}
use Rattle.ieee754.specs.Binary64.{two_to_minus62}
use Rattle.elementary_fixed_point.specs.Conversion.{scaled}
use Rattle.elementary_arctangent.specs.Steps.{straight_angle, first_quadrant, regular_angle}
use Rattle.elementary_arctangent.specs.Code.Tests.{is_small}
use Rattle.elementary_arctangent.proofs.SignBits.{positive_no_nan}
use Rattle.elementary_arctangent.proofs.OppositeSign.{scaled_signed, signed_div}
use Rattle.elementary_arctangent.proofs.plane.regular_angle.Goals as goal

module _ (y x : Float) where
  abbrev a : Float
  a = absolute y

  abbrev b : Float
  b = absolute x

  abbrev left : Bool
  left = sign_bit x

  abbrev angle_units : ℕ
  angle_units = cond left (straight_angle - first_quadrant a b) (first_quadrant a b)

  module _ {c : Bool} (ec : c ≡ (is_small a b && not left)) where
    regular-is : {t : Bool} → c ≡ t → cond t (div binary64 a b) (scaled angle_units two_to_minus62) ≡ regular_angle left a b
    unfolding regular_angle
    regular-is h = ap (λ (t : Bool). cond t (div binary64 a b) (scaled angle_units two_to_minus62)) (sym h ∙ ec)

    quotient_is : T (positive a) → T (positive b) → c ≡ true → div binary64 y x ≡ signed (sign_bit y) (regular_angle left a b)
    quotient_is pa pb t = signed_div y x pa pb (right (is_small a b) left (sym ec ∙ t)) ∙ ap (signed (sign_bit y)) (regular-is t)
      where
        right : (p l : Bool) → (p && not l) ≡ true → l ≡ false
        right true true h = sym h
        right true false h = refl
        right false l h = absurd (true≢false (sym h))

    angle-is : {d k : ℕ} {m n u r : Float} {l : Bool} → c ≡ false → m ≡ a → n ≡ b → d ≡ first_quadrant m n → l ≡ left → k ≡ cond l (straight_angle - d) d → u ≡ signed (sign_bit y) two_to_minus62 → r ≡ scaled k u → r ≡ signed (sign_bit y) (regular_angle left a b)
    unfolding of_bits neg
    angle-is {d} {k} {m} {n} {u} {r} {l} t em en ed el ek eu er =
        er ∙ ap (scaled k) eu
        ∙ ap (λ (z : ℕ). scaled z (signed (sign_bit y) two_to_minus62)) (ek ∙ ap (λ (z : Bool). cond z (straight_angle - d) d) el ∙ ap (λ (z : ℕ). cond left (straight_angle - z) z) (ed ∙ ap (λ (z : Float). first_quadrant z n) em ∙ ap (first_quadrant a) en))
        ∙ scaled_signed (sign_bit y) angle_units 0 (negsuc 61) ∙ ap (signed (sign_bit y)) (regular-is t)

pub returns-then-is_quotient : goal.returns-then-is_quotient
returns-then-is_quotient c = quotient_is c.args.y c.args.x c.is_quotient.ensures c.requires.0 c.requires.1 c.if-is_quotient.true

pub magnitude-requires : goal.magnitude-requires
magnitude-requires c = positive_no_nan c.args.y c.requires.0

pub magnitude-requires-2 : goal.magnitude-requires-2
magnitude-requires-2 c = positive_no_nan c.args.x c.requires.1

pub first_quadrant-d-requires : goal.first_quadrant-d-requires
first_quadrant-d-requires c = (subst (λ (z : Float). T (positive z)) (sym c.magnitude.ensures) c.requires.0, subst (λ (z : Float). T (positive z)) (sym c.magnitude-2.ensures) c.requires.1)

pub negative-requires : goal.negative-requires
negative-requires c = positive_no_nan c.args.x c.requires.1

pub signed_unit-requires : goal.signed_unit-requires
signed_unit-requires c = positive_no_nan c.args.y c.requires.0

pub returns : goal.returns
returns c =
    angle-is c.args.y c.args.x c.is_quotient.ensures c.if-is_quotient.false c.magnitude.ensures c.magnitude-2.ensures c.first_quadrant-d.ensures.0 c.negative.ensures c.turned-k.ensures c.signed_unit.ensures c.to_f64.ensures
