-- Module 2: the tables of the arctangent. There are 64 cells to 1; around the middle k / 64 of a cell the Taylor sum is another polynomial, of which the
-- coefficients of degree 0 to 5 are used. An entry is the f64 nearest to such a coefficient. Definitions only.
use Rattle.std.specs.Prelude.{ℕ, ◌*◌, ◌^◌, List, [], ◌∷◌, get_or, Float}
use Rattle.elementary_series.specs.Series.{factorial, reciprocal}
use Rattle.elementary_series.specs.Fraction.{Fraction}
use Rattle.elementary_cells.specs.Polynomials.{Signed, at, shift, scale, alternating}
use Rattle.elementary_cells.specs.Cells.{nearest_to}

-- 0, 1, 0, -1/3, 0, 1/5, .., 1/81: the coefficients of the Taylor sum, over 81!
unfoldable pub arc_coefficients : List Signed
arc_coefficients = at 0 0 ∷ alternating (reciprocal 81) 20 1 (λ (j : ℕ). at (reciprocal 81 j) 0 ∷ [])

-- the coefficient of degree j of the polynomial of h whose value is the sum at k / 64 + h
unfoldable pub around : ℕ → ℕ → Fraction
around k j =
    let c = get_or (shift k (scale 64 82 arc_coefficients)) j (at 0 0) in
    record { plus = c.plus * 64 ^ j; minus = c.minus * 64 ^ j; over = factorial 81 * 64 ^ 81 }

unfoldable pub arc_entry : ℕ → ℕ → Float
arc_entry j k = nearest_to (around k j)
