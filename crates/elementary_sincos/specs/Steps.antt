-- Module 2: the steps that settle the bits of sine and cosine, on whole numbers below 2 ^ 64. An angle x is in units of 2 ^ -61, its powers
-- x^2, x^3 and x^4 in units of 2 ^ -58, 2 ^ -55 and 2 ^ -52, a result in units of 2 ^ -53. The added and the subtracted terms of a Taylor sum
-- are two polynomials in x^4, of nine terms each: what is left out is below 2 ^ -42. Definitions only.
use Rattle.std.specs.Prelude.{ℕ, ◌+◌, ◌-◌, ◌*◌, ◌/◌, ◌^◌, cond, List, leb, Float}
use Rattle.std.specs.Float.{nan}
use Rattle.std.specs.Float.Ieee.{neg, lt}
use Rattle.std.specs.Float.Ieee.Scale.{finite}
use Rattle.ieee754.specs.Binary64.{two_to_minus16, two_to_minus53}
use Rattle.ieee754.specs.Sign.{absolute, sign_bit, signed}
use Rattle.elementary_fixed_point.specs.Series.{factorial}
use Rattle.elementary_fixed_point.specs.Product.{hi, horner, tabulate}
use Rattle.elementary_fixed_point.specs.Conversion.{scaled}
use Rattle.elementary_reduction.specs.Reduction.{reduced}

-- The coefficients 1 / (j + 4 i)! of the terms of degree j, j + 4, .., in units of 2 ^ -u, rounded down. The polynomials' argument is
-- x^4 / 4096, which stays below 1, so each coefficient is times 4096 ^ i.
unfoldable pub coefficients : ℕ → ℕ → List ℕ
coefficients u j = tabulate 9 0 (λ (i : ℕ). 2 ^ u * 4096 ^ i / factorial (j + 4 * i))

-- p - n in units of 2 ^ -53
unfoldable pub difference : ℕ → ℕ → Float
difference p n = cond (leb n p) (scaled (p - n) two_to_minus53) (neg (scaled (n - p) two_to_minus53))

-- the Taylor sums at x: the added terms and the subtracted ones, both in units of 2 ^ -53
unfoldable pub sine_series : ℕ → Float
sine_series x = let x2 = hi x x in let x4 = hi x2 x2 in difference (hi x (horner x4 (coefficients 56 1))) (hi (hi x x2) (horner x4 (coefficients 62 3)))

unfoldable pub cosine_series : ℕ → Float
cosine_series x = let x2 = hi x x in let x4 = hi x2 x2 in difference (horner x4 (coefficients 53 0)) (hi x2 (horner x4 (coefficients 59 2)))

-- The sine of an angle: of its remainder, with its sign. Below 2 ^ -16 it is θ itself, which is nearer in proportion. (A remainder below 2 ^ -16 of a larger
-- angle is no float, and takes the series.)
unfoldable pub sine : Float → Float
sine θ = cond (finite θ) (cond (lt (absolute θ) two_to_minus16) θ (signed (sign_bit θ) (sine_series (reduced θ)))) nan

unfoldable pub cosine : Float → Float
cosine θ = cond (finite θ) (cosine_series (reduced θ)) nan
