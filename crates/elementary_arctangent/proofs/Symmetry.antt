-- atan2 is odd in y: atan2(-y, x) is -atan2(y, x), bit for bit.
use mathlib.Core.Path.{◌≡◌, refl, sym, ap, ◌∙◌}
use mathlib.Core.Bool.{Bool, true, false, not, cond}
use lib.Ieee.{Float, nan, inf, fin, neg, is_nan}
use Rattle.ieee754.specs.Sign.{absolute, sign_bit, signed}
use Rattle.elementary_arctangent.specs.Steps.{atan2_of}
use Rattle.elementary_arctangent.specs.Code.Tests.{upper_angle, atan2_by_tests}
use Rattle.elementary_arctangent.proofs.Cases.{by_tests}

twice : (w : Float) → neg (neg w) ≡ w
unfolding neg
twice nan = refl
twice (inf true) = refl
twice (inf false) = refl
twice (fin true m e) = refl
twice (fin false m e) = refl

other : (s : Bool) (w : Float) → signed (not s) w ≡ neg (signed s w)
other true w = sym (twice w)
other false w = refl

-- a NaN stays one
apart : (b s : Bool) (w : Float) → cond b nan (signed (not s) w) ≡ neg (cond b nan (signed s w))
unfolding neg
apart true s w = refl
apart false s w = other s w

tests_odd : (y x : Float) → atan2_by_tests (neg y) x ≡ neg (atan2_by_tests y x)
unfolding atan2_by_tests neg is_nan absolute
tests_odd nan x = refl
tests_odd (inf s) x = apart (is_nan x) s (upper_angle (sign_bit x) (inf false) (absolute x))
tests_odd (fin s m e) x = apart (is_nan x) s (upper_angle (sign_bit x) (fin false m e) (absolute x))

pub odd_in_y : (y x : Float) → atan2_of (neg y) x ≡ neg (atan2_of y x)
odd_in_y y x = by_tests (neg y) x ∙ tests_odd y x ∙ ap neg (sym (by_tests y x))
