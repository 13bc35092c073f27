-- Small angles keep their accuracy in proportion: where |y| is below 2 ^ -16 of x, atan2(y, x) is y / x, rounded once.
use mathlib.Core.Path.{◌≡◌, refl, sym, ap, ◌∙◌}
use mathlib.Core.Bool.{Bool, true, false, not, cond, ◌&&◌}
use Prim.Native.Nat.{zero, suc, ◌-◌}
use lib.Dec.{T}
use lib.Ieee.{Float, nan, inf, fin, binary64, div}
use lib.Ieee.Bits.{is_true}
use lib.Ieee.Positive.{positive}
use Rattle.ieee754.specs.Sign.{absolute, signed}
use Rattle.ieee754.specs.Binary64.{two_to_minus62}
use Rattle.elementary_fixed_point.specs.Conversion.{scaled}
use Rattle.elementary_arctangent.specs.SpecialCases.{special}
use Rattle.elementary_arctangent.specs.Steps.{straight_angle, first_quadrant, regular_angle, atan2_of}
use Rattle.elementary_arctangent.specs.Code.Tests.{is_small}
use Rattle.elementary_arctangent.proofs.OppositeSign.{signed_div}

regular_small : (a b : Float) → T (is_small a b) → regular_angle false a b ≡ div binary64 a b
unfolding regular_angle
regular_small a b t = ap (λ (c : Bool). cond (c && not false) (div binary64 a b) (scaled (cond false (straight_angle - first_quadrant a b) (first_quadrant a b)) two_to_minus62)) (is_true (is_small a b) t)

pub small_quotient : (y x : Float) → T (positive (absolute y)) → T (positive x) → T (is_small (absolute y) x) → atan2_of y x ≡ div binary64 y x
unfolding atan2_of special absolute
small_quotient nan x py px t = absurd py
small_quotient (inf s) x py px t = absurd py
small_quotient (fin s zero e) x py px t = absurd py
small_quotient (fin s (suc m) e) nan py px t = absurd px
small_quotient (fin s (suc m) e) (inf u) py px t = absurd px
small_quotient (fin s (suc m) e) (fin true n d) py px t = absurd px
small_quotient (fin s (suc m) e) (fin false zero d) py px t = absurd px
small_quotient (fin s (suc m) e) (fin false (suc n) d) py px t =
    ap (signed s) (regular_small (fin false (suc m) e) (fin false (suc n) d) t) ∙ sym (signed_div (fin s (suc m) e) (fin false (suc n) d) py px refl)
