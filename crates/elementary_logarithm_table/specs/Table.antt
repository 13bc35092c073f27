-- Module 2: the tables of the common logarithm. In w = (m - 1) / (m + 1) there are 64 cells to 1; around the middle k / 64 of a cell, L is another polynomial of w, of
-- which the coefficients of degree 0 to 5 are used, over 3 L(2) + L(5/4). An entry is the f64 nearest to such a coefficient. Definitions only.
use Rattle.std.specs.Prelude.{ℕ, zero, suc, ◌+◌, ◌*◌, ◌^◌, List, [], ◌∷◌, get_or, Float}
use Rattle.elementary_series.specs.Series.{factorial, reciprocal}
use Rattle.elementary_series.specs.Fraction.{Fraction}
use Rattle.elementary_cells.specs.Polynomials.{Signed, at, shift, scale}
use Rattle.elementary_cells.specs.Cells.{nearest_to}
use Rattle.elementary_logarithm_table.specs.Sum.{L, over_ten}

-- 2/j, 0, 2/(j + 2), 0, ..: n times two, then 2/j, over 41!
unfoldable pub odd_terms : ℕ → ℕ → List Signed
odd_terms zero j = at (2 * reciprocal 41 j) 0 ∷ []
odd_terms (suc n) j = at (2 * reciprocal 41 j) 0 ∷ at 0 0 ∷ odd_terms n (2 + j)

-- the coefficients of L as a polynomial of w: 0, 2, 0, 2/3, 0, 2/5, .., 2/41, over 41!
unfoldable pub log_coefficients : List Signed
log_coefficients = at 0 0 ∷ odd_terms 20 1

-- the coefficient of degree j of the polynomial of h whose value is L at w = k / 64 + h
unfoldable pub around : ℕ → ℕ → Fraction
around k j =
    let c = get_or (shift k (scale 64 42 log_coefficients)) j (at 0 0) in
    record { plus = c.plus * 64 ^ j; minus = c.minus * 64 ^ j; over = factorial 41 * 64 ^ 41 }

unfoldable pub log_entry : ℕ → ℕ → Float
log_entry j k = nearest_to (over_ten (around k j))

-- the common logarithm of 2
unfoldable pub common_two : Float
common_two = nearest_to (over_ten (L 2 1))
