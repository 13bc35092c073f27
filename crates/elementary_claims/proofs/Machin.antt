-- The turn is 2π in units of 2 ^ -160: a computed test at 36 terms of each arctangent, and since the terms become smaller, every longer sum lies between.
use mathlib.Core.Path.{sym, subst}
use Prim.Native.Nat.{ℕ, zero, suc, ◌+◌, ◌*◌, ◌^◌, ◌≤◌, ◌<◌}
use native.Mathlib.Nat.{add-suc, mul-le-mul_right, mul-le-mul, mul-pos, pow-le-pow_right}
use native.Mathlib.Omega.{arith}
use lib.Dec.{lit≤, lit<}
use Rattle.elementary_fixed_point.specs.Fraction.{Fraction, sum, negated, times}
use Rattle.elementary_fixed_point.proofs.PowerSums.{pos_pow}
use Rattle.elementary_reduction.specs.Reduction.{turn}
use Rattle.elementary_claims.specs.Machin.{ratio, AtMost, atan_below, atan_above, pi_below, pi_above, low, high, TurnIsTwoPi}
use Rattle.elementary_claims.proofs.FractionOrder.{at_most_trans, sum_most, times_most, negated_most}

-- ---- a part added and a smaller one subtracted, or the other way round
more : (c : Fraction) (x y : ℕ) → x ≤ y → AtMost c (sum (sum c (ratio 1 x)) (negated (ratio 1 y)))
more c x y h = record { is = lin c.plus c.minus c.over x y (mul-le-mul_right (c.over * c.over) h) }
  where
    lin : (p m o x y : ℕ) → x * (o * o) ≤ y * (o * o) → p * (o * x * y) + ((m * x + 0 * o) * y + 1 * (o * x)) * o ≤ ((p * x + 1 * o) * y + 0 * (o * x)) * o + m * (o * x * y)
    lin p m o x y h = omega arith

less : (c : Fraction) (y z : ℕ) → y ≤ z → AtMost (sum (sum c (negated (ratio 1 y))) (ratio 1 z)) c
less c y z h = record { is = lin c.plus c.minus c.over y z (mul-le-mul_right (c.over * c.over) h) }
  where
    lin : (p m o y z : ℕ) → y * (o * o) ≤ z * (o * o) → ((p * y + 0 * o) * z + 1 * (o * y)) * o + m * (o * y * z) ≤ p * (o * y * z) + ((m * y + 1 * o) * z + 0 * (o * y)) * o
    lin p m o y z h = omega arith

-- ---- the arctangent's sums, for a q from 1 on
module _ (q : ℕ) (qp : 0 < q) where
  grows : (i j : ℕ) → i ≤ j → i * q ^ i ≤ j * q ^ j
  grows i j h = mul-le-mul h (pow-le-pow_right qp h)

  term_pos : (j : ℕ) → 0 < j → 0 < j * q ^ j
  term_pos j h = mul-pos h (pos_pow q j qp)

  place : (i n : ℕ) → 0 < i → 0 < i + 4 * n
  place i n h = omega arith

  below_pos : (n : ℕ) → 0 < (atan_below q n).over
  unfolding atan_below
  below_pos zero = lit< tt
  below_pos (suc n) = mul-pos (mul-pos (below_pos n) (term_pos (1 + 4 * n) (place 1 n (lit< tt)))) (term_pos (3 + 4 * n) (place 3 n (lit< tt)))

  above_pos : (n : ℕ) → 0 < (atan_above q n).over
  unfolding atan_above
  above_pos n = mul-pos (below_pos n) (term_pos (1 + 4 * n) (place 1 n (lit< tt)))

  below_next : (n : ℕ) → AtMost (atan_below q n) (atan_below q (suc n))
  unfolding atan_below
  below_next n = more (atan_below q n) ((1 + 4 * n) * q ^ (1 + 4 * n)) ((3 + 4 * n) * q ^ (3 + 4 * n)) (grows (1 + 4 * n) (3 + 4 * n) (later n))
    where
      later : (n : ℕ) → 1 + 4 * n ≤ 3 + 4 * n
      later n = omega arith

  above_next : (n : ℕ) → AtMost (atan_above q (suc n)) (atan_above q n)
  unfolding atan_above atan_below
  above_next n = less (atan_above q n) ((3 + 4 * n) * q ^ (3 + 4 * n)) ((1 + 4 * suc n) * q ^ (1 + 4 * suc n)) (grows (3 + 4 * n) (1 + 4 * suc n) (later n))
    where
      later : (n : ℕ) → 3 + 4 * n ≤ 1 + 4 * suc n
      later n = omega arith

-- ---- twice π
five : 0 < 5
five = lit< tt

big : 0 < 239
big = lit< tt

below_rises : (n : ℕ) → AtMost (times 2 (pi_below n)) (times 2 (pi_below (suc n)))
unfolding pi_below
below_rises n =
    times_most 2 (pi_below n) (pi_below (suc n))
    (sum_most (times 16 (atan_below 5 n)) (negated (times 4 (atan_above 239 n))) (times 16 (atan_below 5 (suc n))) (negated (times 4 (atan_above 239 (suc n))))
    (times_most 16 (atan_below 5 n) (atan_below 5 (suc n)) (below_next 5 five n))
    (negated_most (times 4 (atan_above 239 (suc n))) (times 4 (atan_above 239 n)) (times_most 4 (atan_above 239 (suc n)) (atan_above 239 n) (above_next 239 big n))))

above_falls : (n : ℕ) → AtMost (times 2 (pi_above (suc n))) (times 2 (pi_above n))
unfolding pi_above
above_falls n =
    times_most 2 (pi_above (suc n)) (pi_above n)
    (sum_most (times 16 (atan_above 5 (suc n))) (negated (times 4 (atan_below 239 (suc n)))) (times 16 (atan_above 5 n)) (negated (times 4 (atan_below 239 n)))
    (times_most 16 (atan_above 5 (suc n)) (atan_above 5 n) (above_next 5 five n))
    (negated_most (times 4 (atan_below 239 n)) (times 4 (atan_below 239 (suc n))) (times_most 4 (atan_below 239 n) (atan_below 239 (suc n)) (below_next 239 big n))))

pi_below_pos : (n : ℕ) → 0 < (pi_below n).over
unfolding pi_below
pi_below_pos n = mul-pos (below_pos 5 five n) (above_pos 239 big n)

pi_above_pos : (n : ℕ) → 0 < (pi_above n).over
unfolding pi_above
pi_above_pos n = mul-pos (above_pos 5 five n) (below_pos 239 big n)

-- the two tests
from_18 : AtMost low (times 2 (pi_below 18))
unfolding turn pi_below atan_below atan_above
from_18 = record { is = lit≤ tt }

upto_18 : AtMost (times 2 (pi_above 18)) high
unfolding turn pi_above atan_below atan_above
upto_18 = record { is = lit≤ tt }

pub turn_is_two_pi : TurnIsTwoPi
turn_is_two_pi = record { from = from; upto = upto }
  where
    from : (n : ℕ) → AtMost low (times 2 (pi_below (18 + n)))
    from zero = from_18
    from (suc n) = subst (λ (i : ℕ). AtMost low (times 2 (pi_below i))) (sym (add-suc 18 n)) (at_most_trans low (times 2 (pi_below (18 + n))) (times 2 (pi_below (suc (18 + n)))) (pi_below_pos (18 + n)) (from n) (below_rises (18 + n)))

    upto : (n : ℕ) → AtMost (times 2 (pi_above (18 + n))) high
    upto zero = upto_18
    upto (suc n) = subst (λ (i : ℕ). AtMost (times 2 (pi_above i)) high) (sym (add-suc 18 n)) (at_most_trans (times 2 (pi_above (suc (18 + n)))) (times 2 (pi_above (18 + n))) high (pi_above_pos (18 + n)) (above_falls (18 + n)) (upto n))
