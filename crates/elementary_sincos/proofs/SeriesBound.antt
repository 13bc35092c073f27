-- The series of sine and cosine at x units of 2 ^ -61, which enclose a fraction n / d from 0 to 44 / 7 (2π is below that): within 2 ^ -40 of
-- the Taylor sums at n / d. How n / d came about is of no account here.
use mathlib.Core.Path.{refl, sym, ap}
use mathlib.Core.Bool.{Bool, true, false, not, cond}
use Prim.Native.Nat.{ℕ, ◌+◌, ◌-◌, ◌*◌, ◌/◌, ◌^◌, ◌≤◌, ◌<◌}
use native.Mathlib.Nat.{le_trans, le_of_eq, le_of_lt, lt_of_le_of_lt, mul_assoc, mul_right_comm, mul-le-mul_right, le_of_mul-le-mul_right}
use native.Mathlib.Omega.{arith}
use lib.Dec.{T, leb, leb→le, nleb→lt, lit<, lit≤}
use lib.Ieee.{neg, of_bits}
use Rattle.elementary_fixed_point.specs.Series.{factorial, terms, inverse_factorial}
use Rattle.elementary_fixed_point.specs.Fraction.{Fraction, negated, Near}
use Rattle.elementary_fixed_point.specs.Product.{hi, horner, tabulate}
use Rattle.elementary_fixed_point.specs.Conversion.{scaled}
use Rattle.elementary_fixed_point.specs.Code.Bounds.{below, Enclosure}
use Rattle.elementary_fixed_point.proofs.Enclosures.{enclosure_times, enclosure_is, enclosure_widen, enclosure_power, hi_le, hi_mono}
use Rattle.elementary_fixed_point.proofs.Chains.{rounded, horner_lt}
use Rattle.elementary_fixed_point.proofs.PowerSums.{pow_one, enclosure-terms, enclosure-terms₀}
use Rattle.elementary_fixed_point.proofs.Tails.{enclosure-longer}
use Rattle.elementary_fixed_point.proofs.Approximations.{enclosures_approximate}
use Rattle.elementary_fixed_point.proofs.ToFloat.{scaled_near, near_scaled, near_neg}
use Rattle.elementary_sincos.specs.Taylor.{fourth_terms, sine_sum, cosine_sum}
use Rattle.elementary_sincos.specs.Steps.{coefficients, difference, sine_series, cosine_series}
use Rattle.elementary_sincos.specs.Code.Parts.{sine_plus, sine_minus, cosine_plus, cosine_minus}
use Rattle.ieee754.specs.Binary64.{two_to_minus53}

-- ---- the tables, by one computed test for each

sine_plus_rounded : T (rounded (inverse_factorial 42) (factorial 42) 4 4096 (2 ^ 56) 1 sine_plus)
unfolding rounded inverse_factorial coefficients tabulate factorial
sine_plus_rounded = tt

sine_minus_rounded : T (rounded (inverse_factorial 42) (factorial 42) 4 4096 (2 ^ 62) 3 sine_minus)
unfolding rounded inverse_factorial coefficients tabulate factorial
sine_minus_rounded = tt

cosine_plus_rounded : T (rounded (inverse_factorial 42) (factorial 42) 4 4096 (2 ^ 53) 0 cosine_plus)
unfolding rounded inverse_factorial coefficients tabulate factorial
cosine_plus_rounded = tt

cosine_minus_rounded : T (rounded (inverse_factorial 42) (factorial 42) 4 4096 (2 ^ 59) 2 cosine_minus)
unfolding rounded inverse_factorial coefficients tabulate factorial
cosine_minus_rounded = tt

pub sine_plus_below : T (below (2 ^ 63) sine_plus)
unfolding below coefficients tabulate factorial
sine_plus_below = tt

pub sine_minus_below : T (below (2 ^ 63) sine_minus)
unfolding below coefficients tabulate factorial
sine_minus_below = tt

pub cosine_plus_below : T (below (2 ^ 63) cosine_plus)
unfolding below coefficients tabulate factorial
cosine_plus_below = tt

pub cosine_minus_below : T (below (2 ^ 63) cosine_minus)
unfolding below coefficients tabulate factorial
cosine_minus_below = tt

-- ---- an angle up to 44 / 7

abbrev top : ℕ
top = 44 * 2 ^ 61 / 7

pub fourth_lt : (x : ℕ) → x * 7 ≤ 44 * 2 ^ 61 → hi (hi x x) (hi x x) < 2 ^ 63
fourth_lt x h = lt_of_le_of_lt (hi_mono (hi x x) (hi x x) (hi top top) (hi top top) (hi_mono x x top top (most x h) (most x h)) (hi_mono x x top top (most x h) (most x h))) (lit< tt)
  where
    most : (x : ℕ) → x * 7 ≤ 44 * 2 ^ 61 → x ≤ 44 * 2 ^ 61 / 7
    most x h = omega arith

-- the two sums' difference as a float
module _ (P N E : ℕ) (f : Fraction) (room : (E + 1024) * 2 ^ 40 ≤ 2 ^ 53) (pl : P < 2 ^ 64) (nl : N < 2 ^ 64) (p : Enclosure P (P + E) (f.plus * 2 ^ 53) f.over) (n : Enclosure N (N + E) (f.minus * 2 ^ 53) f.over) where
  difference_near : Near 40 (difference P N) f
  unfolding difference of_bits
  difference_near = go (leb N P) (leb→le N P) (nleb→lt N P)
    where
      less : (P N k : ℕ) → P < k → P - N < k
      less P N k h = omega arith

      go : (b : Bool) → (T b → N ≤ P) → (T (not b) → P < N) → Near 40 (cond b (scaled (P - N) two_to_minus53) (neg (scaled (N - P) two_to_minus53))) f
      go true g h = near_scaled 40 53 (P - N) E f (scaled (P - N) two_to_minus53) room (scaled_near 52 (P - N) (lit≤ tt) (less P N (2 ^ 64) pl)) (enclosures_approximate (2 ^ 53) P N E f (g tt) p n)
      go false g h =
          near_neg 40 (scaled (N - P) two_to_minus53) (negated f)
          (near_scaled 40 53 (N - P) E (negated f) (scaled (N - P) two_to_minus53) room (scaled_near 52 (N - P) (lit≤ tt) (less N P (2 ^ 64) nl)) (enclosures_approximate (2 ^ 53) N P E (negated f) (le_of_lt (h tt)) n p))

module _ (n d x : ℕ) (dp : 0 < d) (bound : n * 7 ≤ 44 * d) (ex : Enclosure x (x + 1) (n * 2 ^ 61) d) where
  pub units_upto : x * 7 ≤ 44 * 2 ^ 61
  units_upto =
      le_of_mul-le-mul_right {m = x * 7} {n = 44 * 2 ^ 61} {k = d}
      (le_trans (le_of_eq (mul_right_comm x 7 d)) (le_trans (mul-le-mul_right 7 ex.low) (le_trans (le_of_eq (mul_right_comm n (2 ^ 61) 7)) (le_trans (mul-le-mul_right (2 ^ 61) bound) (le_of_eq (mul_right_comm 44 d (2 ^ 61))))))) dp

  xl : x < 2 ^ 64
  xl = go x units_upto
    where
      go : (x : ℕ) → x * 7 ≤ 44 * 2 ^ 61 → x < 2 ^ 64
      go x h = omega arith

  x2l : hi x x < 2 ^ 64
  x2l = lt_of_le_of_lt (hi_le x x xl) xl

  x3l : hi x (hi x x) < 2 ^ 64
  x3l = lt_of_le_of_lt (hi_le x (hi x x) xl) x2l

  e1 : Enclosure x (x + 1) (n ^ 1 * 2 ^ 61) (d ^ 1)
  e1 = enclosure_is (n ^ 1 * 2 ^ 61) (d ^ 1) (ap (λ (z : ℕ). z * 2 ^ 61) (sym (pow_one n))) (sym (pow_one d)) ex

  e2 : Enclosure (hi x x) (hi x x + 4) (n ^ 2 * 2 ^ 58) (d ^ 2)
  e2 = enclosure_power n d 1 1 1 1 61 61 58 refl xl xl (lit≤ tt) e1 e1

  e3 : Enclosure (hi x (hi x x)) (hi x (hi x x) + 7) (n ^ 3 * 2 ^ 55) (d ^ 3)
  e3 = enclosure_power n d 1 4 1 2 61 58 55 refl xl x2l (lit≤ tt) e1 e2

  abbrev x4 : ℕ
  x4 = hi (hi x x) (hi x x)

  e4 : Enclosure x4 (x4 + 10) (n ^ 4 * 2 ^ 64) (d ^ 4 * 4096)
  e4 = enclosure_is (n ^ 4 * 2 ^ 64) (d ^ 4 * 4096) (mul_assoc (n ^ 4) (2 ^ 52) 4096) refl (enclosure_times 4096 (enclosure_power n d 4 4 2 2 58 58 52 refl x2l x2l (lit≤ tt) e2 e2))

  x4l : x4 < 2 ^ 63
  x4l = fourth_lt x units_upto

  -- nine terms of each, and the two left out, which are at most 227, 7, 1334 and 38 units at 44 / 7
  plus₁ : Enclosure (hi x (horner x4 sine_plus)) (hi x (horner x4 sine_plus) + (120 + 227)) (fourth_terms n d 11 1 * 2 ^ 53) (factorial 42 * d ^ 42)
  unfolding coefficients tabulate factorial terms inverse_factorial
  plus₁ =
      enclosure-longer (inverse_factorial 42) 42 4 n d 44 7 bound (factorial 42) 120 (2 ^ 53) 227 9 2 1 (lit< tt) (lit≤ tt) (lit≤ tt)
      (enclosure-terms (inverse_factorial 42) (factorial 42) 42 4 n d 4096 x4 10 (lit< tt) x4l e4 dp 1 1 61 56 53 sine_plus xl (lit≤ tt) (lit≤ tt) refl (lit≤ tt) sine_plus_below sine_plus_rounded e1)

  minus₁ : Enclosure (hi (hi x (hi x x)) (horner x4 sine_minus)) (hi (hi x (hi x x)) (horner x4 sine_minus) + (126 + 7)) (fourth_terms n d 10 3 * 2 ^ 53) (factorial 42 * d ^ 42)
  unfolding coefficients tabulate factorial terms inverse_factorial
  minus₁ =
      enclosure-longer (inverse_factorial 42) 42 4 n d 44 7 bound (factorial 42) 126 (2 ^ 53) 7 9 1 3 (lit< tt) (lit≤ tt) (lit≤ tt)
      (enclosure-terms (inverse_factorial 42) (factorial 42) 42 4 n d 4096 x4 10 (lit< tt) x4l e4 dp 7 3 55 62 53 sine_minus x3l (lit≤ tt) (lit≤ tt) refl (lit≤ tt) sine_minus_below sine_minus_rounded e3)

  plus₀ : Enclosure (horner x4 cosine_plus) (horner x4 cosine_plus + (117 + 1334)) (fourth_terms n d 11 0 * 2 ^ 53) (factorial 42 * d ^ 42)
  unfolding coefficients tabulate factorial terms inverse_factorial
  plus₀ =
      enclosure-longer (inverse_factorial 42) 42 4 n d 44 7 bound (factorial 42) 117 (2 ^ 53) 1334 9 2 0 (lit< tt) (lit≤ tt) (lit≤ tt)
      (enclosure-terms₀ (inverse_factorial 42) (factorial 42) 42 4 n d 4096 x4 10 (lit< tt) x4l e4 dp 53 cosine_plus (lit≤ tt) (lit≤ tt) cosine_plus_below cosine_plus_rounded)

  minus₀ : Enclosure (hi (hi x x) (horner x4 cosine_minus)) (hi (hi x x) (horner x4 cosine_minus) + (123 + 38)) (fourth_terms n d 11 2 * 2 ^ 53) (factorial 42 * d ^ 42)
  unfolding coefficients tabulate factorial terms inverse_factorial
  minus₀ =
      enclosure-longer (inverse_factorial 42) 42 4 n d 44 7 bound (factorial 42) 123 (2 ^ 53) 38 9 2 2 (lit< tt) (lit≤ tt) (lit≤ tt)
      (enclosure-terms (inverse_factorial 42) (factorial 42) 42 4 n d 4096 x4 10 (lit< tt) x4l e4 dp 4 2 58 59 53 cosine_minus x2l (lit≤ tt) (lit≤ tt) refl (lit≤ tt) cosine_minus_below cosine_minus_rounded e2)

  pub sine_series_near : Near 40 (sine_series x) (sine_sum n d)
  unfolding sine_series
  sine_series_near =
      difference_near (hi x (horner x4 sine_plus)) (hi (hi x (hi x x)) (horner x4 sine_minus)) 347 (sine_sum n d) (lit≤ tt)
      (lt_of_le_of_lt (hi_le x (horner x4 sine_plus) xl) (horner_lt x4 sine_plus x4l sine_plus_below))
      (lt_of_le_of_lt (hi_le (hi x (hi x x)) (horner x4 sine_minus) x3l) (horner_lt x4 sine_minus x4l sine_minus_below))
      plus₁ (enclosure_widen 133 347 (lit≤ tt) minus₁)

  pub cosine_series_near : Near 40 (cosine_series x) (cosine_sum n d)
  unfolding cosine_series
  cosine_series_near =
      difference_near (horner x4 cosine_plus) (hi (hi x x) (horner x4 cosine_minus)) 1451 (cosine_sum n d) (lit≤ tt)
      (horner_lt x4 cosine_plus x4l cosine_plus_below) (lt_of_le_of_lt (hi_le (hi x x) (horner x4 cosine_minus) x2l) (horner_lt x4 cosine_minus x4l cosine_minus_below))
      plus₀ (enclosure_widen 161 1451 (lit≤ tt) minus₀)
