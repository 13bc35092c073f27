-- The constants are what their rules say: the logarithm of 2, the reciprocal of that of 10, and the table's own logarithm of 2.
use mathlib.Core.Path.{◌≡◌, refl, sym, ap, ◌∙◌}
use Prim.Native.Nat.{ℕ, ◌+◌, ◌*◌, ◌^◌, ◌≤◌, ◌<◌}
use native.Mathlib.Nat.{le_trans, le_of_eq, le_of_lt, one-mul, add-mul, add-zero, zero-add, le-add_right, div-mul-le_self, lt-div-mul-add}
use lib.Dec.{lit<, lit≤}
use Rattle.elementary_fixed_point.specs.Series.{factorial, terms, reciprocal}
use Rattle.elementary_fixed_point.specs.Product.{horner, tabulate}
use Rattle.elementary_fixed_point.specs.Code.Bounds.{Approximates}
use Rattle.elementary_logarithm.specs.Series.{L, ten}
use Rattle.elementary_logarithm.specs.Steps.{log_two, table, natural_at, table_two, reciprocal_ten}

pub log_two_is : log_two ≡ 12486629536330718
unfolding log_two terms reciprocal factorial
log_two_is = refl

pub table_two_is : table_two ≡ 12486629536148167
unfolding table_two natural_at table horner tabulate
table_two_is = refl

pub reciprocal_ten_is : reciprocal_ten ≡ 8011319160293570762
unfolding reciprocal_ten terms reciprocal factorial
reciprocal_ten_is = refl

-- ---- each is its quotient rounded down

over_pos : 0 < (L 2 1).over
unfolding factorial
over_pos = lit< tt

pub log_two_near : Approximates (2 ^ 54) log_two 1 (L 2 1)
unfolding log_two
log_two_near = record {
  low = le_trans (le_of_eq (add-zero (log_two * (L 2 1).over))) (le_trans (div-mul-le_self ((L 2 1).plus * 2 ^ 54) (L 2 1).over) (le-add_right ((L 2 1).plus * 2 ^ 54) (1 * (L 2 1).over)));
  high = le_trans (le_of_lt (lt-div-mul-add {a = (L 2 1).plus * 2 ^ 54} {b = (L 2 1).over} over_pos)) (le_of_eq (next log_two (L 2 1).over));
}
  where
    next : (x o : ℕ) → x * o + o ≡ 0 + (x + 1) * o
    next x o = ap (λ (z : ℕ). x * o + z) (sym (one-mul o)) ∙ sym (add-mul x 1 o) ∙ sym (zero-add ((x + 1) * o))

ten_pos : 0 < ten.plus
unfolding terms reciprocal factorial
ten_pos = lit< tt

pub ten_low : reciprocal_ten * ten.plus ≤ 2 ^ 64 * ten.over
unfolding reciprocal_ten
ten_low = div-mul-le_self (2 ^ 64 * ten.over) ten.plus

pub ten_high : 2 ^ 64 * ten.over ≤ (reciprocal_ten + 1) * ten.plus
unfolding reciprocal_ten
ten_high = le_trans (le_of_lt (lt-div-mul-add {a = 2 ^ 64 * ten.over} {b = ten.plus} ten_pos)) (le_of_eq (next reciprocal_ten ten.plus))
  where
    next : (x o : ℕ) → x * o + o ≡ (x + 1) * o
    next x o = ap (λ (z : ℕ). x * o + z) (sym (one-mul o)) ∙ sym (add-mul x 1 o)

-- the natural logarithm of 10 is above 1
pub ten_large : ten.over ≤ ten.plus
unfolding terms reciprocal factorial
ten_large = lit≤ tt
