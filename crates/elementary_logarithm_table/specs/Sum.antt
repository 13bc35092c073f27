-- Module 2: the scope's L, over whole numbers. Definitions only.
use Rattle.std.specs.Prelude.{ℕ, ◌+◌, ◌-◌, ◌*◌, ◌^◌}
use Rattle.elementary_series.specs.Series.{factorial, terms, reciprocal}
use Rattle.elementary_series.specs.Fraction.{Fraction, sum, times}

-- L(n / d): twice the sum of w^k / k over k = 1, 3, .., 41, w = (n - d) / (n + d)
abbrev pub L : ℕ → ℕ → Fraction
L n d = record { plus = 2 * terms (reciprocal 41) 41 2 (n - d) (n + d) 21 1; minus = 0; over = factorial 41 * (n + d) ^ 41 }

-- 3 L(2) + L(5/4), which stands for the natural logarithm of 10
abbrev pub ten : Fraction
ten = sum (times 3 (L 2 1)) (L 5 4)

-- f over 3 L(2) + L(5/4), from the natural to the common logarithm. The divisor is plus / over: L takes nothing off.
abbrev pub over_ten : Fraction → Fraction
over_ten f = record { plus = f.plus * ten.over; minus = f.minus * ten.over; over = f.over * ten.plus }
