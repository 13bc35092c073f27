-- Module 2: the steps that settle the bits of atan2, on whole numbers below 2 ^ 64. A quotient is in units of 2 ^ -61, the argument x of the
-- series in units of 2 ^ -64, an angle in units of 2 ^ -62. Definitions only.
use Rattle.std.specs.Prelude.{ℕ, ◌+◌, ◌-◌, ◌*◌, ◌/◌, ◌^◌, Bool, not, cond, ◌&&◌, List, Float}
use Rattle.std.specs.Float.{binary64}
use Rattle.std.specs.Float.Ieee.{mul, div, lt, le}
use Rattle.ieee754.specs.Binary64.{two, two_to_minus16, two_to_minus61, two_to_minus62}
use Rattle.ieee754.specs.Sign.{absolute, sign_bit, signed}
use Rattle.elementary_fixed_point.specs.Fraction.{Fraction, times}
use Rattle.elementary_fixed_point.specs.Product.{hi, horner, tabulate}
use Rattle.elementary_fixed_point.specs.Conversion.{scaled}
use Rattle.elementary_fixed_point.specs.Ratio.{ratio}
use Rattle.elementary_arctangent.specs.Angle.{taylor, eighth_turn}
use Rattle.elementary_arctangent.specs.SpecialCases.{special}

-- ---- the series at an x up to 1/2, as two polynomials in x^4 of nine terms each. What is left out, from degree 37 on, is below 2 ^ -42.

-- the coefficients 1 / (j + 4 i) of the terms of degree j, j + 4, .., in units of 2 ^ -62, rounded down
unfoldable pub coefficients : ℕ → List ℕ
coefficients j = tabulate 9 0 (λ (i : ℕ). 2 ^ 62 / (j + 4 * i))

unfoldable pub series : ℕ → ℕ
series x = let x2 = hi x x in let x4 = hi x2 x2 in hi x (horner x4 (coefficients 1)) - hi (hi x x2) (horner x4 (coefficients 3))

-- ---- the angle of a quotient

-- a fraction in units of 2 ^ -62, rounded down
abbrev pub in_units : Fraction → ℕ
in_units f = (f.plus - f.minus) * 2 ^ 62 / f.over

-- A(1/2), π / 2 and π
unfoldable pub angle_of_half : ℕ
angle_of_half = in_units (taylor 1 2)

unfoldable pub right_angle : ℕ
right_angle = in_units (times 2 eighth_turn)

unfoldable pub straight_angle : ℕ
straight_angle = in_units (times 4 eighth_turn)

-- (2 q - 1) / (2 + q), less what its roundings can have added
unfoldable pub second : ℕ → ℕ
second q = ratio (scaled (2 * q - 2 ^ 61) two_to_minus61) (scaled (2 ^ 62 + q) two_to_minus61) - 2 ^ 10

-- the angle of a / b up to 1, by whether it is at most 1/2: a * 2.0 is exact, or an infinity, which is above b
unfoldable pub first_octant : Float → Float → ℕ
first_octant a b = cond (le (mul binary64 a two) b) (series (ratio a b * 8)) (angle_of_half + series (second (ratio a b) * 8))

-- the angle of a / b, both above 0
unfoldable pub first_quadrant : Float → Float → ℕ
first_quadrant a b = cond (le a b) (first_octant a b) (right_angle - first_octant b a)

-- ---- the angle of a point

-- In the upper half of the plane: a and b are the sizes of y and x, both finite and not 0, left says that x is negative. A quotient below
-- 2 ^ -16 on the right is its own arctangent, which is nearer in proportion.
unfoldable pub regular_angle : Bool → Float → Float → Float
regular_angle left a b =
    cond (lt a (mul binary64 b two_to_minus16) && not left) (div binary64 a b)
    (scaled (cond left (straight_angle - first_quadrant a b) (first_quadrant a b)) two_to_minus62)

-- with y's sign, but for the special cases
unfoldable pub atan2_of : Float → Float → Float
atan2_of y x = special y x (signed (sign_bit y) (regular_angle (sign_bit x) (absolute y) (absolute x)))
