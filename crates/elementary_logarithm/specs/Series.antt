-- Module 2: the scope's L, and its quotient for the common logarithm, over whole numbers. Definitions only.
use Rattle.std.specs.Prelude.{ℕ, suc, ◌+◌, ◌-◌, ◌*◌, ◌^◌, ℤ, pos, negsuc}
use Rattle.elementary_fixed_point.specs.Series.{factorial, terms, reciprocal}
use Rattle.elementary_fixed_point.specs.Fraction.{Fraction, sum, negated, times}

-- L(n / d): twice the sum of w^k / k over k = 1, 3, .., 41, w = (n - d) / (n + d)
abbrev pub L : ℕ → ℕ → Fraction
L n d = record { plus = 2 * terms (reciprocal 41) 41 2 (n - d) (n + d) 21 1; minus = 0; over = factorial 41 * (n + d) ^ 41 }

-- 3 L(2) + L(5/4), which stands for the natural logarithm of 10
abbrev pub ten : Fraction
ten = sum (times 3 (L 2 1)) (L 5 4)

-- e times f
abbrev pub multiple : ℤ → Fraction → Fraction
multiple (pos k) f = times k f
multiple (negsuc k) f = negated (times (suc k) f)

-- (e L(2) + L(m)) / (3 L(2) + L(5/4)) at m = n / d. The divisor is plus / over: L takes nothing off.
unfoldable pub quotient : ℤ → ℕ → ℕ → Fraction
quotient e n d =
    let f = sum (multiple e (L 2 1)) (L n d) in
    record { plus = f.plus * ten.over; minus = f.minus * ten.over; over = f.over * ten.plus }
