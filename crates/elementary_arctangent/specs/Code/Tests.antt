-- Module 2: atan2 by the tests that the code makes, one after the other. Definitions only.
use Rattle.std.specs.Prelude.{Bool, false, cond, ◌||◌, Float}
use Rattle.std.specs.Float.{nan, inf, binary64}
use Rattle.std.specs.Float.Ieee.{mul, lt, le, eq, is_nan}
use Rattle.ieee754.specs.Binary64.{two, two_to_minus16, pi, three_quarters_pi, half_pi, quarter_pi}
use Rattle.ieee754.specs.Sign.{absolute, plus_zero, sign_bit, signed}
use Rattle.elementary_arctangent.specs.Steps.{regular_angle}

-- whether a / b is at most 1/2, and whether it is below 2 ^ -16
abbrev pub upto_half : Float → Float → Bool
upto_half a b = le (mul binary64 a two) b

abbrev pub is_small : Float → Float → Bool
is_small a b = lt a (mul binary64 b two_to_minus16)

-- in the upper half of the plane, of the sizes of y and x; left says that x is negative
unfoldable pub upper_angle : Bool → Float → Float → Float
upper_angle left a b =
    cond (eq a plus_zero) (cond left pi plus_zero)
    (cond (eq b (inf false)) (cond (eq a (inf false)) (cond left three_quarters_pi quarter_pi) (cond left pi plus_zero))
    (cond (eq a (inf false) || eq b plus_zero) half_pi
    (regular_angle left a b)))

unfoldable pub atan2_by_tests : Float → Float → Float
atan2_by_tests y x = cond (is_nan y || is_nan x) nan (signed (sign_bit y) (upper_angle (sign_bit x) (absolute y) (absolute x)))
