-- Module 2: A(q) and π as the scope writes them, and the angle that they give by quadrant, at a quotient n / d over whole numbers. Definitions only.
use Rattle.std.specs.Prelude.{ℕ, ◌+◌, ◌-◌, ◌*◌, ◌^◌, Bool, cond, leb}
use Rattle.elementary_fixed_point.specs.Series.{factorial, terms, reciprocal}
use Rattle.elementary_fixed_point.specs.Fraction.{Fraction, sum, negated, times}

-- q - q^3/3 + q^5/5 - .. + q^81/81 at q = n / d: the terms of degree 1, 5, .., 81 less those of degree 3, 7, .., 79, all over 81! * d ^ 81
abbrev pub taylor : ℕ → ℕ → Fraction
taylor n d = record { plus = terms (reciprocal 81) 81 4 n d 21 1; minus = terms (reciprocal 81) 81 4 n d 20 3; over = factorial 81 * d ^ 81 }

-- A(q) up to q = 1: the Taylor sum up to 1/2, then A(1/2) + A((2 q - 1) / (2 + q)), whose second argument is at most 1/3
unfoldable pub upto_one : ℕ → ℕ → Fraction
upto_one n d = cond (leb (2 * n) d) (taylor n d) (sum (taylor 1 2) (taylor (2 * n - d) (2 * d + n)))

-- A(1/2) + A(1/3)
abbrev pub eighth_turn : Fraction
eighth_turn = sum (taylor 1 2) (taylor 1 3)

-- A(q): above 1, 2 (A(1/2) + A(1/3)) - A(1 / q)
unfoldable pub A : ℕ → ℕ → Fraction
A n d = cond (leb n d) (upto_one n d) (sum (times 2 eighth_turn) (negated (upto_one d n)))

-- the angle in the upper half of the plane: A(q) on its right side, π - A(q) on its left, where x is negative; π is 4 (A(1/2) + A(1/3))
unfoldable pub upper_half : Bool → ℕ → ℕ → Fraction
upper_half left n d = cond left (sum (times 4 eighth_turn) (negated (A n d))) (A n d)

-- and in the lower half, where y is negative, its opposite
unfoldable pub quadrant : Bool → Bool → ℕ → ℕ → Fraction
quadrant below left n d = cond below (negated (upper_half left n d)) (upper_half left n d)
