-- Module 2: the series of sine and cosine in the parts in which the code has them, from powers that both share. Definitions only.
use Rattle.std.specs.Prelude.{ℕ, List, Float}
use Rattle.elementary_fixed_point.specs.Product.{hi, horner}
use Rattle.elementary_sincos.specs.Steps.{coefficients, difference}

-- the tables: sine's added and subtracted terms, and cosine's
abbrev pub sine_plus : List ℕ
sine_plus = coefficients 56 1

abbrev pub sine_minus : List ℕ
sine_minus = coefficients 62 3

abbrev pub cosine_plus : List ℕ
cosine_plus = coefficients 53 0

abbrev pub cosine_minus : List ℕ
cosine_minus = coefficients 59 2

-- the series from x, x^2 and x^4
unfoldable pub sine_from : ℕ → ℕ → ℕ → Float
sine_from x x2 x4 = difference (hi x (horner x4 sine_plus)) (hi (hi x x2) (horner x4 sine_minus))

unfoldable pub cosine_from : ℕ → ℕ → Float
cosine_from x2 x4 = difference (horner x4 cosine_plus) (hi x2 (horner x4 cosine_minus))
