-- Module 2: the Taylor sum of the arctangent at a quotient n / d, over whole numbers. Definitions only.
use Rattle.std.specs.Prelude.{ℕ, ◌*◌, ◌^◌}
use Rattle.elementary_series.specs.Series.{factorial, terms, reciprocal}
use Rattle.elementary_series.specs.Fraction.{Fraction}

-- q - q^3/3 + q^5/5 - .. + q^81/81 at q = n / d: the terms of degree 1, 5, .., 81 less those of degree 3, 7, .., 79, all over 81! * d ^ 81
abbrev pub taylor : ℕ → ℕ → Fraction
taylor n d = record { plus = terms (reciprocal 81) 81 4 n d 21 1; minus = terms (reciprocal 81) 81 4 n d 20 3; over = factorial 81 * d ^ 81 }
