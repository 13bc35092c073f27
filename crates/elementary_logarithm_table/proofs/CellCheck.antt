-- One computed test over all cells: what the six entries of a cell's polynomial are, and how near it is to L over 3 L(2) + L(5/4).
use mathlib.Core.Bool.{Bool, ◌&&◌}
use mathlib.Core.List.{List, [], ◌∷◌}
use Prim.Native.Nat.{ℕ, ◌*◌, ◌^◌, ◌≤◌, ◌<◌}
use lib.Count.{count_trailing_zeros}
use lib.Dec.{T, leb, leb→le}
use lib.Ieee.Fits.{and_l, and_r}
use lib.Ieee.{round, size, span, climb, units, odd}
use Rattle.elementary_series.specs.Series.{factorial, terms, reciprocal}
use Rattle.elementary_cells.specs.Polynomials.{Signed, lin, shift, scale}
use Rattle.elementary_cells.proofs.Norm.{difference, norm}
use Rattle.elementary_cells.proofs.Entries.{entry, proper, all, each}
use Rattle.elementary_logarithm_table.specs.Sum.{ten}
use Rattle.elementary_logarithm_table.specs.Table.{odd_terms, log_coefficients, around, log_entry}
use Rattle.elementary_logarithm_table.proofs.Odd.{multiplied, common_coefficients}

-- 2 ^ 64 units to 1
abbrev pub one : ℕ
one = 2 ^ 64

-- the six entries of the cell k, over one
unfoldable pub short : ℕ → List Signed
unfolding entry
short k = entry one (log_entry 0 k) ∷ entry one (log_entry 1 k) ∷ entry one (log_entry 2 k) ∷ entry one (log_entry 3 k) ∷ entry one (log_entry 4 k) ∷ entry one (log_entry 5 k) ∷ []

-- what the coefficients of L over 3 L(2) + L(5/4) are over
unfoldable pub whole : ℕ
whole = factorial 41 * ten.plus

-- how far the two can be apart within 65 / 128 of a cell's width from its middle: at most 2 ^ -42
unfoldable pub off : ℕ → ℕ
unfolding shift scale difference norm short common_coefficients whole
off k = norm 128 65 42 (difference one whole (shift k (scale 64 42 common_coefficients)) (scale 64 42 (short k)))

unfoldable pub most : ℕ
unfolding whole
most = 2 ^ 18 * (whole * one * 64 ^ 41 * 128 ^ 41)

within : ℕ → Bool
unfolding off most proper all
within k = all (λ (j : ℕ). proper one 64 (log_entry j k)) 6 && leb (off k * 2 ^ 60) most

every : T (all within 22)
unfolding all within off most proper short entry whole common_coefficients multiplied log_entry around log_coefficients odd_terms shift lin scale difference norm round size units odd span climb count_trailing_zeros terms reciprocal factorial
every = tt

pub entry_proper : (k j : ℕ) → k < 22 → j < 6 → T (proper one 64 (log_entry j k))
unfolding within
entry_proper k j h i = let f : ℕ → Bool = λ (j : ℕ). proper one 64 (log_entry j k) in each f 6 j (and_l (all f 6) (leb (off k * 2 ^ 60) most) (each within 22 k every h)) i

pub cell_off : (k : ℕ) → k < 22 → off k * 2 ^ 60 ≤ most
unfolding within
cell_off k h = leb→le (off k * 2 ^ 60) most (and_r (all (λ (j : ℕ). proper one 64 (log_entry j k)) 6) (leb (off k * 2 ^ 60) most) (each within 22 k every h))
