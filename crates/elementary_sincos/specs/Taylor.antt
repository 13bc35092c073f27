-- Module 2: the Taylor sums of sine and cosine to degree 42 at a fraction n / d, over whole numbers. Definitions only.
use Rattle.std.specs.Prelude.{ℕ, ◌*◌, ◌^◌}
use Rattle.elementary_fixed_point.specs.Series.{factorial, terms, inverse_factorial}
use Rattle.elementary_fixed_point.specs.Fraction.{Fraction}

-- the terms of degree j, j + 4, .., i of them, of the sum of (n / d) ^ j / j!, over 42! * d ^ 42
abbrev pub fourth_terms : ℕ → ℕ → ℕ → ℕ → ℕ
fourth_terms n d i j = terms (inverse_factorial 42) 42 4 n d i j

-- r - r^3/3! + r^5/5! - .. + r^41/41! at r = n / d
abbrev pub sine_sum : ℕ → ℕ → Fraction
sine_sum n d = record { plus = fourth_terms n d 11 1; minus = fourth_terms n d 10 3; over = factorial 42 * d ^ 42 }

-- 1 - r^2/2! + r^4/4! - .. - r^42/42! at r = n / d
abbrev pub cosine_sum : ℕ → ℕ → Fraction
cosine_sum n d = record { plus = fourth_terms n d 11 0; minus = fourth_terms n d 11 2; over = factorial 42 * d ^ 42 }
