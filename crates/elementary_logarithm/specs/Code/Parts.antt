-- Module 2: parts of the common logarithm, of its quotient and of its steps, that proofs go by. Definitions only.
use Rattle.std.specs.Prelude.{ℕ, ◌+◌, ◌-◌, ◌*◌, ◌^◌, Bool, ◌&&◌, ltb}
use Rattle.elementary_fixed_point.specs.Series.{terms, reciprocal}
use Rattle.elementary_fixed_point.specs.Fraction.{Fraction}
use Rattle.elementary_logarithm.specs.Series.{ten}
use Rattle.elementary_logarithm.specs.Steps.{natural, log_two, table_two, one_bits}

-- the terms w^k / k of degree k = 1, 3, .., i of them, at w = a / b, over 41! * b ^ 41
abbrev pub odd_terms : ℕ → ℕ → ℕ → ℕ
odd_terms a b i = terms (reciprocal 41) 41 2 a b i 1

-- f over 3 L(2) + L(5/4)
abbrev pub over_ten : Fraction → Fraction
over_ten f = record { plus = f.plus * ten.over; minus = f.minus * ten.over; over = f.over * ten.plus }

-- the natural logarithm of s / 2 ^ 52 times 2 ^ (p - 1074), from 1 on, and below 1 with the sign changed
abbrev pub sum_from : ℕ → ℕ → ℕ
sum_from s p = (p - 1074) * log_two + natural s

abbrev pub sum_under : ℕ → ℕ → ℕ
sum_under s p = (1073 - p) * log_two + (table_two - natural s)

-- fewer than 2 ^ 34 patterns from 1
abbrev pub is_near_one : ℕ → Bool
is_near_one b = ltb (one_bits - 2 ^ 34) b && ltb b (one_bits + 2 ^ 34)
