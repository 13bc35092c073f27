-- Module 2: the steps that settle the bits of the common logarithm, on whole numbers below 2 ^ 64. The argument is m * 2 ^ (p - 1074) with
-- m = s / 2 ^ 52 from 1 to below 2. Logarithms are in units of 2 ^ -54, and near 1 in units of 2 ^ -81. Definitions only.
use Rattle.std.specs.Prelude.{ℕ, ◌+◌, ◌-◌, ◌*◌, ◌/◌, ◌%◌, ◌^◌, true, false, cond, ◌&&◌, List, pos, ltb, eqb, Float}
use Rattle.std.specs.Int.Count.{count_leading_zeros}
use Rattle.std.specs.Float.{nan, inf, binary64}
use Rattle.std.specs.Float.Ieee.{neg, lt, eq, is_nan, of_int, to_bits}
use Rattle.ieee754.specs.Binary64.{two_to_minus54, two_to_minus81}
use Rattle.ieee754.specs.Sign.{plus_zero}
use Rattle.elementary_fixed_point.specs.Product.{hi, horner, tabulate}
use Rattle.elementary_fixed_point.specs.Conversion.{scaled}
use Rattle.elementary_fixed_point.specs.Ratio.{ratio}
use Rattle.elementary_logarithm.specs.Series.{L, ten}

-- ---- the natural logarithm of m

-- w = (m - 1) / (m + 1) in units of 2 ^ -64, from below. The quotient of s - 2 ^ 52 and half of s + 2 ^ 52, rounded up, is 2 w; it comes in
-- units of 2 ^ -61.
unfoldable pub argument : ℕ → ℕ
argument s = ratio (of_int binary64 (pos (s - 2 ^ 52))) (of_int binary64 (pos ((s + 2 ^ 52 + 1) / 2))) * 4

-- 1 / (1 + 2 i) in units of 2 ^ -62. Ten terms are the fewest that the bound allows: what is left out, w^21 / 21 and less, makes up to
-- 2 ^ -37 of a common logarithm.
unfoldable pub table : List ℕ
table = tabulate 10 0 (λ (i : ℕ). 2 ^ 62 / (1 + 2 * i))

-- 2 (w + w^3 / 3 + ..) in units of 2 ^ -54
unfoldable pub natural_at : ℕ → ℕ
natural_at x = hi x (horner (hi x x) table) / 2 ^ 7

unfoldable pub natural : ℕ → ℕ
natural s = natural_at (argument s)

-- L(2) in units of 2 ^ -54, rounded down
unfoldable pub log_two : ℕ
log_two = (L 2 1).plus * 2 ^ 54 / (L 2 1).over

-- the same by the table, at w = 1 / 3
unfoldable pub table_two : ℕ
table_two = natural_at (2 ^ 64 / 3)

-- ---- the common logarithm

-- 1 / (3 L(2) + L(5/4)) in units of 2 ^ -64, rounded down
unfoldable pub reciprocal_ten : ℕ
reciprocal_ten = 2 ^ 64 * ten.over / ten.plus

-- from the natural to the common one
abbrev pub common : ℕ → ℕ
common d = hi d reciprocal_ten

-- 1 at least, so that the sign is right whatever the error
abbrev pub at_least_one : ℕ → ℕ
at_least_one g = cond (eqb g 0) 1 g

-- The logarithm of m * 2 ^ (p - 1074). From 1 on the natural one is p - 1074 times that of 2, and that of m. Below 1, with the sign changed, it
-- is 1074 - p times that of 2, less that of m. One of these is by the table: where m is near 2, what the table leaves out of it and of m's
-- cancels, and so the small difference for an x near 1 is right in proportion.
unfoldable pub log_at : ℕ → ℕ → Float
log_at s p =
    cond (ltb p 1074) (neg (scaled (at_least_one (common ((1073 - p) * log_two + (table_two - natural s)))) two_to_minus54))
    (scaled (at_least_one (common ((p - 1074) * log_two + natural s))) two_to_minus54)

-- ---- near 1, by the first two terms, in units of 2 ^ -81

-- d - d^2 / 2 at 1 + d, d = u / 2 ^ 52
unfoldable pub past_one : ℕ → ℕ
past_one u = u * 2 ^ 29 - hi (u * 2 ^ 29) (u * 2 ^ 29) / 2 ^ 18

-- d + d^2 / 2 at 1 - d, d = u / 2 ^ 53
unfoldable pub before_one : ℕ → ℕ
before_one u = u * 2 ^ 28 + hi (u * 2 ^ 28) (u * 2 ^ 28) / 2 ^ 18

-- the pattern of 1
abbrev pub one_bits : ℕ
one_bits = 0x3ff0_0000_0000_0000

unfoldable pub near_one : ℕ → Float
near_one b =
    cond (ltb b one_bits) (neg (scaled (common (before_one (one_bits - b))) two_to_minus81)) (scaled (common (past_one (b - one_bits))) two_to_minus81)

-- ---- the argument by its bit pattern

-- a subnormal's significand is shifted up past its leading zeros
unfoldable pub far_from_one : ℕ → Float
far_from_one b =
    cond (ltb b (2 ^ 52)) (log_at (b * 2 ^ (count_leading_zeros 64 b - 11)) (52 - (count_leading_zeros 64 b - 11))) (log_at (b % 2 ^ 52 + 2 ^ 52) (b / 2 ^ 52 + 51))

-- near 1 are fewer than 2 ^ 34 patterns on either side
unfoldable pub log_of_bits : ℕ → Float
log_of_bits b = cond (ltb (one_bits - 2 ^ 34) b && ltb b (one_bits + 2 ^ 34)) (near_one b) (far_from_one b)

unfoldable pub log10_of : Float → Float
log10_of x =
    cond (is_nan x) nan
    (cond (eq x plus_zero) (inf true)
    (cond (lt x plus_zero) nan
    (cond (eq x (inf false)) (inf false) (log_of_bits (to_bits binary64 x)))))
