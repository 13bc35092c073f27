-- One computed test over all cells: the entries are proper, and the short polynomial is within 2 ^ -44 of the sum.
use mathlib.Core.Path.{◌≡◌, refl}
use mathlib.Core.Bool.{Bool, true, false, ◌&&◌}
use mathlib.Core.List.{List, [], ◌∷◌}
use Prim.Native.Nat.{ℕ, zero, suc, ◌+◌, ◌*◌, ◌^◌, ◌≤◌, ◌<◌}
use lib.IntN.{pos}
use lib.Count.{count_trailing_zeros}
use lib.Dec.{T, leb, leb→le}
use lib.Ieee.Fits.{and_l, and_r}
use lib.Ieee.{fin, round, size, span, climb, units, odd}
use Rattle.elementary_series.specs.Series.{factorial, reciprocal}
use Rattle.elementary_cells.specs.Polynomials.{Signed, lin, shift, scale, alternating}
use Rattle.elementary_cells.proofs.Norm.{difference, norm}
use Rattle.elementary_cells.proofs.Entries.{entry, proper, all, each}
use Rattle.elementary_arctangent_table.specs.Table.{arc_coefficients, around, arc_entry}

-- 2 ^ 64 units to 1
abbrev pub one : ℕ
one = 2 ^ 64

-- the coefficients of the short polynomial of a cell, over one
unfoldable pub short : ℕ → List Signed
short k = entry one (arc_entry 0 k) ∷ entry one (arc_entry 1 k) ∷ entry one (arc_entry 2 k) ∷ entry one (arc_entry 3 k) ∷ entry one (arc_entry 4 k) ∷ entry one (arc_entry 5 k) ∷ []

-- how far the sum and the short polynomial can be apart in the cell k and 1 / 128 of its width beyond
unfoldable pub off : ℕ → ℕ
unfolding shift scale difference norm short factorial
off k = norm 128 65 82 (difference one (factorial 81) (shift k (scale 64 82 arc_coefficients)) (scale 64 82 (short k)))

-- the test's bound
unfoldable pub most : ℕ
unfolding factorial
most = 2 ^ 16 * (factorial 81 * one * 64 ^ 81 * 128 ^ 81)

-- the value's own coefficient is 250/256 of a cell's width at least, but for the first cell, and the slope 51/64 at least: so the value is not negative
unfoldable pub rising : ℕ → Bool
rising zero = true
rising (suc k) = leb (16384 * (entry one (arc_entry 0 (suc k))).minus + 250 * one) (16384 * (entry one (arc_entry 0 (suc k))).plus)

unfoldable pub steep : ℕ → Bool
steep k = leb (64 * (entry one (arc_entry 1 k)).minus + 51 * one) (64 * (entry one (arc_entry 1 k)).plus)

unfoldable pub within : ℕ → Bool
unfolding off most all proper rising steep entry arc_coefficients
within k = all (λ (j : ℕ). proper one 64 (arc_entry j k)) 6 && (leb (off k * 2 ^ 60) most && (rising k && steep k))

every : T (all within 33)
unfolding all within proper off most rising steep short entry shift lin scale difference norm arc_coefficients alternating reciprocal factorial around arc_entry round size units odd span climb count_trailing_zeros
every = tt

-- ---- what it says of one cell
pub entry_proper : (k j : ℕ) → k < 33 → j < 6 → T (proper one 64 (arc_entry j k))
unfolding within
entry_proper k j h i = let f : ℕ → Bool = λ (j : ℕ). proper one 64 (arc_entry j k) in each f 6 j (and_l (all f 6) (leb (off k * 2 ^ 60) most && (rising k && steep k)) (each within 33 k every h)) i

others : (k : ℕ) → k < 33 → T (leb (off k * 2 ^ 60) most && (rising k && steep k))
unfolding within
others k h = and_r (all (λ (j : ℕ). proper one 64 (arc_entry j k)) 6) (leb (off k * 2 ^ 60) most && (rising k && steep k)) (each within 33 k every h)

pub cell_off : (k : ℕ) → k < 33 → off k * 2 ^ 60 ≤ most
cell_off k h = leb→le (off k * 2 ^ 60) most (and_l (leb (off k * 2 ^ 60) most) (rising k && steep k) (others k h))

pub value_least : (k : ℕ) → suc k < 33 → 16384 * (entry one (arc_entry 0 (suc k))).minus + 250 * one ≤ 16384 * (entry one (arc_entry 0 (suc k))).plus
unfolding rising
value_least k h = leb→le (16384 * (entry one (arc_entry 0 (suc k))).minus + 250 * one) (16384 * (entry one (arc_entry 0 (suc k))).plus) (and_l (rising (suc k)) (steep (suc k)) (and_r (leb (off (suc k) * 2 ^ 60) most) (rising (suc k) && steep (suc k)) (others (suc k) h)))

pub slope_least : (k : ℕ) → k < 33 → 64 * (entry one (arc_entry 1 k)).minus + 51 * one ≤ 64 * (entry one (arc_entry 1 k)).plus
unfolding steep
slope_least k h = leb→le (64 * (entry one (arc_entry 1 k)).minus + 51 * one) (64 * (entry one (arc_entry 1 k)).plus) (and_r (rising k) (steep k) (and_r (leb (off k * 2 ^ 60) most) (rising k && steep k) (others k h)))

-- the first entry of all is 0
pub first_zero : arc_entry 0 0 ≡ fin false 0 (pos 0)
unfolding arc_entry around shift lin scale arc_coefficients alternating reciprocal factorial round size units odd span climb count_trailing_zeros
first_zero = refl
