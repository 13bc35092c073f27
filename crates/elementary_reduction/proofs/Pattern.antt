-- An angle from 4 on by its bit pattern: significand and exponent, and what is reduced of it by them.
use mathlib.Core.Path.{◌≡◌, sym, ap, ◌∙◌}
use mathlib.Core.Bool.{Bool, true, false, not}
use Prim.Native.Nat.{ℕ, ◌+◌, ◌-◌, ◌*◌, ◌/◌, ◌%◌, ◌^◌, ◌≤◌, ◌<◌}
use native.Mathlib.Nat.{le_of_eq, lt_of_le_of_lt, lt_of_lt_of_le, not-le_of_lt, lt_of_mul-lt-mul_right, mul_assoc, mul_right_comm, mul-one, mul-lt-mul_of_pos_right, add_comm, eq_of_mul-eq-mul_right}
use native.Mathlib.Omega.{arith}
use lib.Dec.{T, ltb, ltb→lt, nltb→le, lit≤}
use lib.Pow.{pow-add, pow_pos, pow_mono, shl_lt}
use lib.Ieee.{Float, nan, inf, fin, binary64, fits, is_nan, to_bits}
use lib.Ieee.Positive.{num, den, den_pos}
use lib.Ieee.Scale.{finite}
use Rattle.ieee754.proofs.Fields.{size_low, size-normal}
use Rattle.elementary_reduction.specs.Reduction.{turn, reduced}
use Rattle.elementary_reduction.proofs.Fractions.{whole_units}

-- what is from 4 on is a number
nothing : 4 * 1 ≤ 0 → ⊥
nothing h = omega arith

far_finite : (x : Float) → 4 * den x ≤ num x → T (finite x)
far_finite nan h = absurd (nothing h)
far_finite (inf s) h = absurd (nothing h)
far_finite (fin s m e) h = tt

pub far_no_nan : (x : Float) → 4 * den x ≤ num x → T (not (is_nan x))
unfolding is_nan
far_no_nan nan h = absurd (nothing h)
far_no_nan (inf s) h = tt
far_no_nan (fin s m e) h = tt

module _ (x : Float) (F : T (fits binary64 x)) (far : 4 * den x ≤ num x) where
  -- the pattern without its sign
  abbrev a : ℕ
  a = to_bits binary64 x % 2 ^ 63

  abbrev digits : ℕ
  digits = a % 2 ^ 52 + 2 ^ 52

  -- what is below 4 is not meant
  too_small : (v : ℕ) → num x * 2 ^ 1074 ≡ v * den x → v < 2 ^ 1076 → ⊥
  too_small v q h =
      not-le_of_lt (lt_of_mul-lt-mul_right (2 ^ 1074) (lt_of_le_of_lt (le_of_eq q) (lt_of_lt_of_le (mul-lt-mul_of_pos_right h (den_pos x)) (le_of_eq (mul_right_comm 4 (2 ^ 1074) (den x)))))) far

  normal : 2 ^ 52 ≤ a
  normal = go (ltb a (2 ^ 52)) (ltb→lt a (2 ^ 52)) (nltb→le a (2 ^ 52))
    where
      go : (b : Bool) → (T b → a < 2 ^ 52) → (T (not b) → 2 ^ 52 ≤ a) → 2 ^ 52 ≤ a
      go true f g = absurd (too_small (a * 2 ^ 0) (size_low binary64 x F (far_finite x far) (f tt)) (lt_of_le_of_lt (le_of_eq (mul-one a)) (lt_of_lt_of_le (f tt) (lit≤ tt))))
      go false f g = g tt

  size : num x * 2 ^ 1074 ≡ (2 ^ 52 + a % 2 ^ 52) * 2 ^ (a / 2 ^ 52 - 1) * den x
  size = size-normal binary64 x F (far_finite x far) normal

  pub exponent : 1025 ≤ a / 2 ^ 52
  exponent = go (ltb (a / 2 ^ 52) 1025) (ltb→lt (a / 2 ^ 52) 1025) (nltb→le (a / 2 ^ 52) 1025)
    where
      lead : (a : ℕ) → 2 ^ 52 + a % 2 ^ 52 < 2 ^ 53
      lead a = omega arith

      few : (e : ℕ) → e < 1025 → 53 + (e - 1) ≤ 1076
      few e h = omega arith

      go : (b : Bool) → (T b → a / 2 ^ 52 < 1025) → (T (not b) → 1025 ≤ a / 2 ^ 52) → 1025 ≤ a / 2 ^ 52
      go true f g = absurd (too_small ((2 ^ 52 + a % 2 ^ 52) * 2 ^ (a / 2 ^ 52 - 1)) size (lt_of_lt_of_le (shl_lt 53 (a / 2 ^ 52 - 1) (lead a)) (pow_mono (few (a / 2 ^ 52) (f tt)))))
      go false f g = g tt

  -- in units of 2 ^ -160
  scaled : num x * 2 ^ 160 ≡ digits * 2 ^ (110 + (a / 2 ^ 52 - 1025)) * den x
  scaled =
      let P : ℕ = 2 ^ (110 + (a / 2 ^ 52 - 1025)) in
      eq_of_mul-eq-mul_right (2 ^ 914) (pow_pos 914) (num x * 2 ^ 160) (digits * P * den x)
      (mul_assoc (num x) (2 ^ 160) (2 ^ 914) ∙ size ∙ ap (λ (z : ℕ). z * 2 ^ (a / 2 ^ 52 - 1) * den x) (add_comm (2 ^ 52) (a % 2 ^ 52))
      ∙ ap (λ (z : ℕ). digits * z * den x) power ∙ ap (λ (z : ℕ). z * den x) (sym (mul_assoc digits P (2 ^ 914))) ∙ mul_right_comm (digits * P) (2 ^ 914) (den x))
    where
      split : (e : ℕ) → 1025 ≤ e → e - 1 ≡ 110 + (e - 1025) + 914
      split e h = omega arith

      power : 2 ^ (a / 2 ^ 52 - 1) ≡ 2 ^ (110 + (a / 2 ^ 52 - 1025)) * 2 ^ 914
      power = ap (λ (z : ℕ). 2 ^ z) (split (a / 2 ^ 52) exponent) ∙ pow-add 2 (110 + (a / 2 ^ 52 - 1025)) 914

  pub reduced_is : (v : ℕ) → v ≡ digits * 2 ^ (110 + (a / 2 ^ 52 - 1025)) % turn / 2 ^ 99 → v ≡ reduced x
  unfolding reduced
  reduced_is v e = e ∙ sym (whole_units (num x) (den x) (den_pos x) (digits * 2 ^ (110 + (a / 2 ^ 52 - 1025))) scaled)
