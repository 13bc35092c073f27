-- Every argument: the special cases, and what is promised of the rest.
use mathlib.Core.Path.{◌≡◌, refl, sym, ap, ◌∙◌, subst}
use mathlib.Core.Bool.{Bool, true, false, not, ◌&&◌, true≢false}
use Prim.Native.Nat.{ℕ, zero, suc, ◌+◌, ◌*◌, ◌^◌, ◌≤◌, ◌<◌}
use native.Mathlib.Nat.{le_trans, le_of_eq, lt_irrefl, lt_of_not-le, not-le_of_lt, zero-lt-suc, mul_comm, mul-one, one-mul, zero-mul, mul-pos, mul-le-mul_right, le_of_mul-le-mul_right, eq_of_mul-eq-mul_right}
use native.Mathlib.Omega.{arith}
use lib.IntN.{ℤ, pos}
use lib.Dec.{T, ltb, eqb, ltb→lt, lt→ltb, eqb→eq, not_T, T_not}
use lib.Pow.{pow_pos}
use lib.Ieee.{Float, nan, inf, fin, binary64, up, down, lt, eq, is_nan, fits, to_bits, minus, of_bits}
use lib.Ieee.Bits.{is_true, is_false}
use lib.Ieee.Fits.{up_pos, down_pos, and_l, and_r, and_i, eq→eqb}
use lib.Ieee.Positive.{num, den, positive}
use Rattle.ieee754.specs.Sign.{plus_zero}
use Rattle.ieee754.specs.Binary64.{one}
use Rattle.elementary_logarithm.specs.Promise.{NearQuotient, CommonLogarithm}
use Rattle.elementary_logarithm.specs.Steps.{log_of_bits, log10_of}
use Rattle.elementary_logarithm.proofs.Normal.{biased}
use Rattle.elementary_logarithm.proofs.Pattern.{Found, found, bits_pos, bits_finite}

-- ---- the tests against 0 and infinity
module _ (m : ℕ) (e : ℤ) where
  pos_num : 0 < suc m * up e
  pos_num = mul-pos (zero-lt-suc m) (up_pos e)

  plus_not_less : lt (fin false (suc m) e) plus_zero ≡ false
  unfolding lt
  plus_not_less = is_false (ltb (suc m * up e * 1) (0 * 1 * down e)) (not_T (ltb (suc m * up e * 1) (0 * 1 * down e)) (λ t. none (suc m * up e * 1) (down e) (ltb→lt (suc m * up e * 1) (0 * 1 * down e) t)))
    where
      none : (n k : ℕ) → n < 0 * 1 * k → ⊥
      none n k h = omega arith

  minus_less : lt (fin true (suc m) e) plus_zero ≡ true
  unfolding lt
  minus_less = is_true (ltb 0 (suc m * up e * 1 + 0 * 1 * down e)) (lt→ltb 0 (suc m * up e * 1 + 0 * 1 * down e) (more (suc m * up e) (down e) pos_num))
    where
      more : (x k : ℕ) → 0 < x → 0 < x * 1 + 0 * 1 * k
      more x k h = omega arith

  none : (s : Bool) → suc m * up e * 1 ≡ 0 → ⊥
  none s h = lt_irrefl 0 (subst (λ (z : ℕ). 0 < z) (sym (mul-one (suc m * up e)) ∙ h) pos_num)

  minus_not_zero : eq (fin true (suc m) e) plus_zero ≡ false
  unfolding eq
  minus_not_zero = is_false (eqb (suc m * up e * 1) (0 * 1 * down e) && eqb (suc m * up e * 1) 0) (not_T (eqb (suc m * up e * 1) (0 * 1 * down e) && eqb (suc m * up e * 1) 0) (λ t. none true (eqb→eq (suc m * up e * 1) 0 (and_r (eqb (suc m * up e * 1) (0 * 1 * down e)) (eqb (suc m * up e * 1) 0) t))))

  plus_not_zero : eq (fin false (suc m) e) plus_zero ≡ false
  unfolding eq
  plus_not_zero = is_false (eqb (suc m * up e * 1) (0 * 1 * down e) && true) (not_T (eqb (suc m * up e * 1) (0 * 1 * down e) && true) (λ t. none false (eqb→eq (suc m * up e * 1) (0 * 1 * down e) (and_l (eqb (suc m * up e * 1) (0 * 1 * down e)) true t) ∙ zero-mul (down e))))

zero_yes : (s : Bool) (e : ℤ) → eq (fin s 0 e) plus_zero ≡ true
unfolding eq
zero_yes true e = is_true (eqb (0 * up e * 1) (0 * 1 * down e) && eqb (0 * up e * 1) 0) (and_i (eqb (0 * up e * 1) (0 * 1 * down e)) (eqb (0 * up e * 1) 0) (eq→eqb (ap (λ (z : ℕ). z * 1) (zero-mul (up e)) ∙ sym (zero-mul (down e)))) (eq→eqb (ap (λ (z : ℕ). z * 1) (zero-mul (up e)))))
zero_yes false e = is_true (eqb (0 * up e * 1) (0 * 1 * down e) && true) (and_i (eqb (0 * up e * 1) (0 * 1 * down e)) true (eq→eqb (ap (λ (z : ℕ). z * 1) (zero-mul (up e)) ∙ sym (zero-mul (down e)))) tt)

zero_not_less : (s : Bool) (e : ℤ) → T (lt (fin s 0 e) plus_zero) → ⊥
unfolding lt
zero_not_less true e t = lt_irrefl 0 (subst (λ (z : ℕ). 0 < z) (zeros (up e) (down e)) (ltb→lt 0 (0 * up e * 1 + 0 * 1 * down e) t))
  where
    zeros : (u d : ℕ) → 0 * u * 1 + 0 * 1 * d ≡ 0
    zeros u d = omega arith
zero_not_less false e t = none' (0 * up e * 1) (down e) (ltb→lt (0 * up e * 1) (0 * 1 * down e) t)
  where
    none' : (n k : ℕ) → n < 0 * 1 * k → ⊥
    none' n k h = omega arith

zero_not_above : (s : Bool) (e : ℤ) → T (lt one (fin s 0 e)) → ⊥
unfolding lt of_bits
zero_not_above true e t = t
zero_not_above false e t = none' (1 * 1 * down e) (up e) (ltb→lt (1 * 1 * down e) (0 * up e * 1) t)
  where
    none' : (n k : ℕ) → n < 0 * k * 1 → ⊥
    none' n k h = omega arith

minus_not_above : (m : ℕ) (e : ℤ) → T (lt one (fin true m e)) → ⊥
unfolding lt of_bits
minus_not_above m e t = t

not_infinite : (s : Bool) (m : ℕ) (e : ℤ) → eq (fin s m e) (inf false) ≡ false
unfolding eq
not_infinite s m e = refl

-- ---- the definition's cases, by the tests
module _ (x : Float) where
  pub nan_is : x ≡ nan → x ≡ log10_of x
  unfolding log10_of is_nan
  nan_is e = rw e

  pub zero_is : is_nan x ≡ false → eq x plus_zero ≡ true → inf true ≡ log10_of x
  unfolding log10_of
  zero_is p q = rw (p, q)

  pub negative_is : is_nan x ≡ false → eq x plus_zero ≡ false → lt x plus_zero ≡ true → nan ≡ log10_of x
  unfolding log10_of
  negative_is p q r = rw (p, q, r)

  pub infinity_is : is_nan x ≡ false → eq x plus_zero ≡ false → lt x plus_zero ≡ false → eq x (inf false) ≡ true → inf false ≡ log10_of x
  unfolding log10_of
  infinity_is p q r k = rw (p, q, r, k)

  pub other_is : {v : Float} → is_nan x ≡ false → eq x plus_zero ≡ false → lt x plus_zero ≡ false → eq x (inf false) ≡ false → v ≡ log_of_bits (to_bits binary64 x) → v ≡ log10_of x
  unfolding log10_of
  other_is p q r k e = rw (p, q, r, k) e

-- ---- what is promised
at_infinity : log10_of (inf false) ≡ inf false
unfolding log10_of is_nan eq lt
at_infinity = refl

at_zero : (x : Float) → T (eq x plus_zero) → log10_of x ≡ inf true
unfolding eq is_nan
at_zero nan t = absurd t
at_zero (inf s) t = absurd t
at_zero (fin s m e) t = sym (zero_is (fin s m e) refl (is_true (eq (fin s m e) plus_zero) t))

at_negative : (x : Float) → T (lt x plus_zero) → log10_of x ≡ nan
unfolding lt is_nan eq
at_negative nan t = absurd t
at_negative (inf true) t = sym (negative_is (inf true) refl refl refl)
at_negative (inf false) t = absurd t
at_negative (fin s zero e) t = absurd (zero_not_less s e t)
at_negative (fin true (suc m) e) t = sym (negative_is (fin true (suc m) e) refl (minus_not_zero m e) (minus_less m e))
at_negative (fin false (suc m) e) t = absurd (true≢false (sym (is_true (lt (fin false (suc m) e) plus_zero) t) ∙ plus_not_less m e))

at_positive : (m : ℕ) (e : ℤ) → log10_of (fin false (suc m) e) ≡ log_of_bits (to_bits binary64 (fin false (suc m) e))
unfolding is_nan
at_positive m e = sym (other_is (fin false (suc m) e) refl (plus_not_zero m e) (plus_not_less m e) (not_infinite false (suc m) e) refl)

-- a finite x above 0, by its significand and exponent
module _ (m : ℕ) (e : ℤ) (F : T (fits binary64 (fin false (suc m) e))) where
  abbrev x : Float
  x = fin false (suc m) e

  abbrev v : Float
  v = log10_of x

  f : Found (suc m) e v
  f = subst (λ (z : Float). Found (suc m) e z) (sym (at_positive m e)) (found m e F)

  abbrev n : ℕ
  n = suc m * up e

  positive_near : NearQuotient x v
  positive_near = record {
    s = f.s;
    e = minus f.p 1074;
    normal = record { from = f.from; below = f.below; is = biased x f.s f.p f.is };
    near = f.logarithm.near;
  }

  small_of : n < down e → f.s * 2 ^ f.p < 2 ^ 1126
  small_of h = lt_of_not-le (λ (g : 2 ^ 1126 ≤ f.s * 2 ^ f.p). not-le_of_lt h (le_of_mul-le-mul_right {m = down e} {n = n} {k = 2 ^ 1126} (le_trans (le_of_eq (mul_comm (down e) (2 ^ 1126))) (le_trans (mul-le-mul_right (down e) g) (le_of_eq (sym f.is)))) (pow_pos 1126)))

  large_of : down e < n → 2 ^ 1126 < f.s * 2 ^ f.p
  large_of h = lt_of_not-le (λ (g : f.s * 2 ^ f.p ≤ 2 ^ 1126). not-le_of_lt h (le_of_mul-le-mul_right {m = n} {n = down e} {k = 2 ^ 1126} (le_trans (le_of_eq f.is) (le_trans (mul-le-mul_right (down e) g) (le_of_eq (mul_comm (2 ^ 1126) (down e))))) (pow_pos 1126)))

  same_of : n ≡ down e → f.s * 2 ^ f.p ≡ 2 ^ 1126
  same_of h = eq_of_mul-eq-mul_right (down e) (down_pos e) (f.s * 2 ^ f.p) (2 ^ 1126) (sym f.is ∙ ap (λ (z : ℕ). z * 2 ^ 1126) h ∙ mul_comm (down e) (2 ^ 1126))

  one_of : f.s * 2 ^ f.p ≡ 2 ^ 1126 → n ≡ down e
  one_of h = eq_of_mul-eq-mul_right (2 ^ 1126) (pow_pos 1126) n (down e) (f.is ∙ ap (λ (z : ℕ). z * down e) h ∙ mul_comm (2 ^ 1126) (down e))

  positive_below : T (lt x one) → T (lt v plus_zero)
  unfolding lt of_bits
  positive_below t = f.logarithm.below (small_of (subst (λ (z : ℕ). z < down e) (mul-one n) (subst (λ (z : ℕ). n * 1 < z) (one-mul (down e)) (ltb→lt (n * 1) (1 * 1 * down e) t))))

  positive_above : T (lt one x) → T (lt plus_zero v)
  unfolding lt of_bits
  positive_above t = f.logarithm.above (large_of (subst (λ (z : ℕ). z < n) (one-mul (down e)) (subst (λ (z : ℕ). 1 * 1 * down e < z) (mul-one n) (ltb→lt (1 * 1 * down e) (n * 1) t))))

  positive_size : T (not (eq x one)) → den v ≤ num v * 2 ^ 55
  unfolding eq of_bits
  positive_size t = f.logarithm.size (λ (h : f.s * 2 ^ f.p ≡ 2 ^ 1126). T_not (eqb (n * 1) (1 * 1 * down e) && true) t (and_i (eqb (n * 1) (1 * 1 * down e)) true (eq→eqb (mul-one n ∙ one_of h ∙ sym (one-mul (down e)))) tt))

at_one : log10_of one ≡ plus_zero
unfolding fits of_bits
at_one = (f 0 (pos 0) tt).logarithm.at (same_of 0 (pos 0) tt refl)

below_one : (x : Float) → T (fits binary64 x) → T (positive x) → T (lt x one) → T (lt (log10_of x) plus_zero)
below_one nan F p t = absurd p
below_one (inf s) F p t = absurd p
below_one (fin true m e) F p t = absurd p
below_one (fin false zero e) F p t = absurd p
below_one (fin false (suc m) e) F p t = positive_below m e F t

above_one : (x : Float) → T (fits binary64 x) → T (lt one x) → T (lt plus_zero (log10_of x))
unfolding lt of_bits
above_one nan F t = absurd t
above_one (inf true) F t = absurd t
above_one (inf false) F t = subst (λ (z : Float). T (lt plus_zero z)) (sym at_infinity) tt
above_one (fin true m e) F t = absurd (minus_not_above m e t)
above_one (fin false zero e) F t = absurd (zero_not_above false e t)
above_one (fin false (suc m) e) F t = positive_above m e F t

near_quotient : (x : Float) → T (fits binary64 x) → T (positive x) → NearQuotient x (log10_of x)
near_quotient nan F p = absurd p
near_quotient (inf s) F p = absurd p
near_quotient (fin true m e) F p = absurd p
near_quotient (fin false zero e) F p = absurd p
near_quotient (fin false (suc m) e) F p = positive_near m e F

pub promised : (x : Float) → T (fits binary64 x) → CommonLogarithm x (log10_of x)
promised x F = record {
  not_a_number = λ (h : x ≡ nan). sym (nan_is x h) ∙ h;
  zero = at_zero x;
  negative = at_negative x;
  infinity = λ (h : x ≡ inf false). ap log10_of h ∙ at_infinity;
  below = below_one x F;
  at = λ (h : x ≡ one). ap log10_of h ∙ at_one;
  above = above_one x F;
  near = near_quotient x F;
}

-- ---- Away from 1 no logarithm is below 2 ^ -55 in size: no format's rounding makes it 0.
pub log10_size : (x : Float) → T (fits binary64 x) → T (positive x) → T (not (eq x one)) → den (log10_of x) ≤ num (log10_of x) * 2 ^ 55
log10_size nan F p t = absurd p
log10_size (inf s) F p t = absurd p
log10_size (fin true m e) F p t = absurd p
log10_size (fin false zero e) F p t = absurd p
log10_size (fin false (suc m) e) F p t = positive_size m e F t

-- ---- what the code asks of a pattern
pub asked : (x : Float) → T (fits binary64 x) → is_nan x ≡ false → eq x plus_zero ≡ false → lt x plus_zero ≡ false → eq x (inf false) ≡ false → (0 < to_bits binary64 x) × (to_bits binary64 x < 0x7ff0_0000_0000_0000)
unfolding is_nan lt eq
asked nan F n z l i = absurd (true≢false n)
asked (inf true) F n z l i = absurd (true≢false l)
asked (inf false) F n z l i = absurd (true≢false i)
asked (fin s zero e) F n z l i = absurd (true≢false (sym (zero_yes s e) ∙ z))
asked (fin true (suc m) e) F n z l i = absurd (true≢false (sym (minus_less m e) ∙ l))
asked (fin false (suc m) e) F n z l i = (bits_pos m e F, bits_finite m e F)
