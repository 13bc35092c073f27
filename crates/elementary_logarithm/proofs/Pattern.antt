-- A finite x above 0 by its bit pattern: the significand and the exponent that the steps take from it, and the logarithm by them.
use mathlib.Core.Path.{◌≡◌, refl, sym, ap, ◌∙◌, subst}
use mathlib.Core.Bool.{Bool, true, false, not, cond}
use Prim.Native.Nat.{ℕ, suc, ◌+◌, ◌-◌, ◌*◌, ◌/◌, ◌%◌, ◌^◌, ◌≤◌, ◌<◌}
use native.Mathlib.Nat.{lt_of_le_of_lt, lt_irrefl, zero-lt-suc, mul_assoc, mul_right_comm, mul-one, zero-mul, mul-pos, mod-eq_of_lt}
use native.Mathlib.Omega.{arith}
use lib.IntN.{ℤ}
use lib.Dec.{T, ltb, ltb→lt, nltb→le, T_not, lit<, lit≤}
use lib.Pow.{pow_pos, pow-add}
use lib.Count.{count_leading_zeros}
use lib.Ieee.{Float, fin, binary64, up, down, neg, fits, to_bits}
use lib.Ieee.Fits.{up_pos, and_l, and_r}
use Rattle.ieee754.specs.Binary64.{two_to_minus81}
use Rattle.ieee754.proofs.Fields.{below-infinity, size_low, size-normal, unsigned}
use Rattle.ieee754.proofs.LeadingZeros.{zeros, up_lo, up_hi}
use Rattle.elementary_fixed_point.specs.Conversion.{scaled}
use Rattle.elementary_logarithm.specs.Steps.{one_bits, log_at, near_one, far_from_one, log_of_bits, common, past_one, before_one}
use Rattle.elementary_logarithm.specs.Code.Parts.{is_near_one}
use Rattle.elementary_logarithm.proofs.Normal.{one_form}
use Rattle.elementary_logarithm.proofs.Sign.{LogarithmAt}
use Rattle.elementary_logarithm.proofs.FarBound.{log_at_lem}
use Rattle.elementary_logarithm.proofs.NearBound.{past_one_lem, before_one_lem}

pub is_near : (b : ℕ) → T (is_near_one b) → (one_bits - 2 ^ 34 < b) × (b < one_bits + 2 ^ 34)
is_near b t = (ltb→lt (one_bits - 2 ^ 34) b (and_l (ltb (one_bits - 2 ^ 34) b) (ltb b (one_bits + 2 ^ 34)) t), ltb→lt b (one_bits + 2 ^ 34) (and_r (ltb (one_bits - 2 ^ 34) b) (ltb b (one_bits + 2 ^ 34)) t))

-- ---- x and its pattern
pub record Found (m : ℕ) (e : ℤ) (v : Float) : Type 0 where
  pub s : ℕ
  pub p : ℕ
  pub from : 2 ^ 52 ≤ s
  pub below : s < 2 ^ 53
  pub is : m * up e * 2 ^ 1126 ≡ s * 2 ^ p * down e
  pub logarithm : LogarithmAt s p v

module _ (m : ℕ) (e : ℤ) (F : T (fits binary64 (fin false (suc m) e))) where
  abbrev x : Float
  x = fin false (suc m) e

  abbrev b : ℕ
  b = to_bits binary64 x

  positive_bits : b < 2 ^ 63
  positive_bits = unsigned binary64 x F tt refl

  own : b % 2 ^ 63 ≡ b
  own = mod-eq_of_lt positive_bits

  low_value : b < 2 ^ 52 → suc m * up e * 2 ^ 1074 ≡ b * 2 ^ 0 * down e
  low_value h = subst (λ (z : ℕ). suc m * up e * 2 ^ 1074 ≡ z * 2 ^ 0 * down e) own (size_low binary64 x F tt (subst (λ (z : ℕ). z < 2 ^ 52) (sym own) h))

  pub bits_pos : 0 < b
  bits_pos = go (ltb 0 b) (ltb→lt 0 b) (nltb→le 0 b)
    where
      none : (n : ℕ) → n ≤ 0 → n ≡ 0
      none n h = omega arith

      go : (c : Bool) → (T c → 0 < b) → (T (not c) → b ≤ 0) → 0 < b
      go true f g = f tt
      go false f g =
          let v = low_value (lt_of_le_of_lt (g tt) (lit< tt)) in
          absurd (lt_irrefl 0 (subst (λ (k : ℕ). 0 < k) (v ∙ ap (λ (k : ℕ). k * 2 ^ 0 * down e) (none b (g tt)) ∙ zero-mul (down e)) (mul-pos (mul-pos (zero-lt-suc m) (up_pos e)) (pow_pos 1074))))

  pub bits_finite : b < 0x7ff0_0000_0000_0000
  bits_finite = subst (λ (z : ℕ). z < 0x7ff0_0000_0000_0000) own (below-infinity binary64 x F tt)

  -- N of the smallest values
  lifted : (N : ℕ) → suc m * up e * 2 ^ 1074 ≡ N * down e → suc m * up e * 2 ^ 1126 ≡ N * 2 ^ 52 * down e
  lifted N v = sym (mul_assoc (suc m * up e) (2 ^ 1074) (2 ^ 52)) ∙ ap (λ (z : ℕ). z * 2 ^ 52) v ∙ mul_right_comm N (down e) (2 ^ 52)

  -- ---- a normal number
  abbrev s : ℕ
  s = b % 2 ^ 52 + 2 ^ 52

  abbrev p : ℕ
  p = b / 2 ^ 52 + 51

  s_from : 2 ^ 52 ≤ s
  s_from = go (b % 2 ^ 52)
    where
      go : (n : ℕ) → 2 ^ 52 ≤ n + 2 ^ 52
      go n = omega arith

  s_below : s < 2 ^ 53
  s_below = go b
    where
      go : (b : ℕ) → b % 2 ^ 52 + 2 ^ 52 < 2 ^ 53
      go b = omega arith

  p_upto : p ≤ 2097
  p_upto = go b bits_finite
    where
      go : (b : ℕ) → b < 0x7ff0_0000_0000_0000 → b / 2 ^ 52 + 51 ≤ 2097
      go b h = omega arith

  normal_is : 2 ^ 52 ≤ b → suc m * up e * 2 ^ 1126 ≡ s * 2 ^ p * down e
  normal_is l =
      lifted ((2 ^ 52 + b % 2 ^ 52) * 2 ^ (b / 2 ^ 52 - 1)) (subst (λ (z : ℕ). suc m * up e * 2 ^ 1074 ≡ (2 ^ 52 + z % 2 ^ 52) * 2 ^ (z / 2 ^ 52 - 1) * down e) own (size-normal binary64 x F tt (subst (λ (z : ℕ). 2 ^ 52 ≤ z) (sym own) l)))
      ∙ ap (λ (k : ℕ). k * down e) (mul_assoc (2 ^ 52 + b % 2 ^ 52) (2 ^ (b / 2 ^ 52 - 1)) (2 ^ 52) ∙ ap (λ (k : ℕ). k * (2 ^ (b / 2 ^ 52 - 1) * 2 ^ 52)) (swap (b % 2 ^ 52)) ∙ ap (λ (k : ℕ). s * k) (sym (pow-add 2 (b / 2 ^ 52 - 1) 52) ∙ ap (λ (k : ℕ). 2 ^ k) (step b l)))
    where
      swap : (n : ℕ) → 2 ^ 52 + n ≡ n + 2 ^ 52
      swap n = omega arith

      step : (b : ℕ) → 2 ^ 52 ≤ b → b / 2 ^ 52 - 1 + 52 ≡ b / 2 ^ 52 + 51
      step b h = omega arith

  normal_found : (v : Float) → 2 ^ 52 ≤ b → LogarithmAt s p v → Found (suc m) e v
  normal_found v l a = record { s = s; p = p; from = s_from; below = s_below; is = normal_is l; logarithm = a }

  -- ---- near 1
  near_found : one_bits - 2 ^ 34 < b → b < one_bits + 2 ^ 34 → Found (suc m) e (near_one b)
  unfolding near_one
  near_found h k = normal_found (cond (ltb b one_bits) (neg (scaled (common (before_one (one_bits - b))) two_to_minus81)) (scaled (common (past_one (b - one_bits))) two_to_minus81)) (large b h) (go (ltb b one_bits) (ltb→lt b one_bits) (nltb→le b one_bits))
    where
      large : (b : ℕ) → one_bits - 2 ^ 34 < b → 2 ^ 52 ≤ b
      large b h = omega arith

      before : (b : ℕ) → one_bits - 2 ^ 34 < b → b < one_bits → (2 ^ 53 - (one_bits - b) ≡ b % 2 ^ 52 + 2 ^ 52) × (1073 ≡ b / 2 ^ 52 + 51) × (0 < one_bits - b) × (one_bits - b < 2 ^ 34)
      before b h k = (omega arith, omega arith, omega arith, omega arith)

      past : (b : ℕ) → one_bits ≤ b → b < one_bits + 2 ^ 34 → (b - one_bits + 2 ^ 52 ≡ b % 2 ^ 52 + 2 ^ 52) × (1074 ≡ b / 2 ^ 52 + 51) × (b - one_bits < 2 ^ 34)
      past b h k = (omega arith, omega arith, omega arith)

      go : (c : Bool) → (T c → b < one_bits) → (T (not c) → one_bits ≤ b) → LogarithmAt s p (cond c (neg (scaled (common (before_one (one_bits - b))) two_to_minus81)) (scaled (common (past_one (b - one_bits))) two_to_minus81))
      go true f g =
          let w = before b h (f tt) in
          let v : Float = neg (scaled (common (before_one (one_bits - b))) two_to_minus81) in
          subst (λ (z : ℕ). LogarithmAt z p v) w.0 (subst (λ (z : ℕ). LogarithmAt (2 ^ 53 - (one_bits - b)) z v) w.1 (before_one_lem (one_bits - b) w.2 w.3))
      go false f g =
          let w = past b (g tt) k in
          let v : Float = scaled (common (past_one (b - one_bits))) two_to_minus81 in
          subst (λ (z : ℕ). LogarithmAt z p v) w.0 (subst (λ (z : ℕ). LogarithmAt (b - one_bits + 2 ^ 52) z v) w.1 (past_one_lem (b - one_bits) w.2))

  -- ---- away from 1
  far_found : (b ≡ one_bits → ⊥) → Found (suc m) e (far_from_one b)
  unfolding far_from_one
  far_found ne = go (ltb b (2 ^ 52)) (ltb→lt b (2 ^ 52)) (nltb→le b (2 ^ 52))
    where
      z : ℕ
      z = count_leading_zeros 64 b

      few : (n : ℕ) → 52 - (n - 11) ≤ 2097
      few n = omega arith

      back : (n : ℕ) → n ≤ 63 → n - 11 + (52 - (n - 11)) ≡ 52
      back n h = omega arith

      low : b < 2 ^ 52 → Found (suc m) e (log_at (b * 2 ^ (z - 11)) (52 - (z - 11)))
      low l =
          let from : 2 ^ 52 ≤ b * 2 ^ (z - 11) = up_lo b bits_pos l in
          let below : b * 2 ^ (z - 11) < 2 ^ 53 = up_hi b bits_pos l in
          record {
            s = b * 2 ^ (z - 11);
            p = 52 - (z - 11);
            from = from;
            below = below;
            is = lifted (b * 2 ^ 0) (low_value l) ∙ ap (λ (k : ℕ). k * down e) (ap (λ (k : ℕ). k * 2 ^ 52) (mul-one b) ∙ ap (λ (k : ℕ). b * 2 ^ k) (sym (back z (zeros b bits_pos l).1)) ∙ ap (λ (k : ℕ). b * k) (pow-add 2 (z - 11) (52 - (z - 11))) ∙ sym (mul_assoc b (2 ^ (z - 11)) (2 ^ (52 - (z - 11)))));
            logarithm = log_at_lem (b * 2 ^ (z - 11)) (52 - (z - 11)) from below (few z) (λ (h : b * 2 ^ (z - 11) * 2 ^ (52 - (z - 11)) ≡ 2 ^ 1126). other z (one_form (b * 2 ^ (z - 11)) (52 - (z - 11)) (2 ^ 52) 1074 from below (lit≤ tt) (lit< tt) (h ∙ pow-add 2 52 1074)).0);
          }
        where
          other : (n : ℕ) → 52 - (n - 11) ≡ 1074 → ⊥
          other n h = omega arith

      is_one : (b : ℕ) → b / 2 ^ 52 + 51 ≡ 1074 → b % 2 ^ 52 + 2 ^ 52 ≡ 2 ^ 52 → b ≡ one_bits
      is_one b h k = omega arith

      high : 2 ^ 52 ≤ b → Found (suc m) e (log_at s p)
      high l = normal_found (log_at s p) l (log_at_lem s p s_from s_below p_upto (λ (h : s * 2 ^ p ≡ 2 ^ 1126). let w = one_form s p (2 ^ 52) 1074 s_from s_below (lit≤ tt) (lit< tt) (h ∙ pow-add 2 52 1074) in ne (is_one b w.0 w.1)))

      go : (c : Bool) → (T c → b < 2 ^ 52) → (T (not c) → 2 ^ 52 ≤ b) → Found (suc m) e (cond c (log_at (b * 2 ^ (z - 11)) (52 - (z - 11))) (log_at s p))
      go true f g = low (f tt)
      go false f g = high (g tt)

  pub found : Found (suc m) e (log_of_bits b)
  unfolding log_of_bits
  found = go (is_near_one b) (λ t. t) (λ t. t)
    where
      go : (c : Bool) → (T c → T (is_near_one b)) → (T (not c) → T (not (is_near_one b))) → Found (suc m) e (cond c (near_one b) (far_from_one b))
      go true f g = let w = is_near b (f tt) in near_found w.0 w.1
      go false f g = far_found (λ (h : b ≡ one_bits). T_not (is_near_one b) (g tt) (subst (λ (z : ℕ). T (is_near_one z)) (sym h) tt))
