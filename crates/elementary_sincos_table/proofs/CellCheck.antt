-- In each cell the Taylor sums and the short polynomials are 2 ^ -51 apart at most, by one computed test.
use mathlib.Core.Bool.{Bool, ◌&&◌}
use mathlib.Core.List.{List, [], ◌∷◌}
use Prim.Native.Nat.{ℕ, ◌*◌, ◌^◌, ◌≤◌, ◌<◌}
use lib.Count.{count_trailing_zeros}
use lib.Dec.{T, leb, leb→le}
use lib.Ieee.Fits.{and_l, and_r}
use lib.Ieee.{Float, round, size, span, climb, units, odd}
use Rattle.elementary_series.specs.Series.{factorial, terms, inverse_factorial}
use Rattle.elementary_cells.specs.Polynomials.{Signed, shift, scale, alternating}
use Rattle.elementary_cells.proofs.Ring.{stretched, turned}
use Rattle.elementary_cells.proofs.Norm.{difference, norm}
use Rattle.elementary_cells.proofs.Entries.{entry, proper, all, each}
use Rattle.elementary_sincos_table.specs.Table.{sine_entry, cosine_entry}
use Rattle.elementary_sincos_table.proofs.Taylor.{sine_coefficients, cosine_coefficients}

-- 2 ^ 72 units to 1
abbrev pub one : ℕ
one = 2 ^ 72

-- 1 / n! as f64, in the same units
abbrev pub by2 : ℕ
by2 = 1 * 2 ^ 71

abbrev pub by3 : ℕ
by3 = 6004799503160661 * 2 ^ 17

abbrev pub by4 : ℕ
by4 = 6004799503160661 * 2 ^ 15

abbrev pub by5 : ℕ
by5 = 4803839602528529 * 2 ^ 13

abbrev pub by6 : ℕ
by6 = 6405119470038039 * 2 ^ 10

abbrev pub by7 : ℕ
by7 = 3660068268593165 * 2 ^ 8

abbrev pub by8 : ℕ
by8 = 3660068268593165 * 2 ^ 5

abbrev pub by9 : ℕ
by9 = 1626697008263629 * 2 ^ 3

-- a cos h + b sin h with the series to h ^ 8 and h ^ 9, by powers of h, over one * one
unfoldable pub short : Signed → Signed → List Signed
unfolding stretched turned
short a b =
    stretched one a ∷ stretched one b ∷ stretched by2 (turned a) ∷ stretched by3 (turned b) ∷ stretched by4 a ∷ stretched by5 b ∷ stretched by6 (turned a) ∷ stretched by7 (turned b)
    ∷ stretched by8 a ∷ stretched by9 b ∷ []

-- the cell k of one function: its Taylor coefficients shifted to k, and the short polynomial
unfoldable pub off : List Signed → ℕ → Signed → Signed → ℕ
unfolding shift scale difference norm short factorial
off t k a b = norm 128 65 43 (difference (one * one) (factorial 42) (shift k (scale 4 43 t)) (scale 4 43 (short a b)))

-- the test's bound, 2 ^ -51, in the same units, 2 ^ 60 times
unfoldable pub most : ℕ
unfolding factorial
most = 2 ^ 9 * (factorial 42 * (one * one) * 4 ^ 42 * 128 ^ 42)

-- both entries of the cell k are proper, and both functions' short polynomials near enough
unfoldable pub within : ℕ → Bool
unfolding off most entry proper turned sine_coefficients cosine_coefficients alternating sine_entry cosine_entry round size units odd span climb count_trailing_zeros terms inverse_factorial
within k =
    let s = entry one (sine_entry k) in
    let c = entry one (cosine_entry k) in
    proper one 64 (sine_entry k) && (proper one 64 (cosine_entry k) && (leb (off sine_coefficients k s c * 2 ^ 60) most && leb (off cosine_coefficients k c (turned s) * 2 ^ 60) most))

every : T (all within 26)
unfolding all within
every = tt

pub record Good (s c : Float) (k : ℕ) : Type 0 where
  pub sine_proper : T (proper one 64 s)
  pub cosine_proper : T (proper one 64 c)
  pub sine_off : off sine_coefficients k (entry one s) (entry one c) * 2 ^ 60 ≤ most
  pub cosine_off : off cosine_coefficients k (entry one c) (turned (entry one s)) * 2 ^ 60 ≤ most

pub every_cell : (k : ℕ) → k < 26 → Good (sine_entry k) (cosine_entry k) k
unfolding within
every_cell k h =
    let a = proper one 64 (sine_entry k) in
    let b = proper one 64 (cosine_entry k) in
    let s = entry one (sine_entry k) in
    let c = entry one (cosine_entry k) in
    let x = leb (off sine_coefficients k s c * 2 ^ 60) most in
    let y = leb (off cosine_coefficients k c (turned s) * 2 ^ 60) most in
    let t : T (a && (b && (x && y))) = each within 26 k every h in
    record {
      sine_proper = and_l a (b && (x && y)) t;
      cosine_proper = and_l b (x && y) (and_r a (b && (x && y)) t);
      sine_off = leb→le (off sine_coefficients k s c * 2 ^ 60) most (and_l x y (and_r b (x && y) (and_r a (b && (x && y)) t)));
      cosine_off = leb→le (off cosine_coefficients k c (turned s) * 2 ^ 60) most (and_r x y (and_r b (x && y) (and_r a (b && (x && y)) t)));
    }
