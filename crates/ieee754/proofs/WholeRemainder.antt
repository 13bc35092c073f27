-- The remainder of two finite values in whole numbers: of m * 2 ^ j units by n * 2 ^ i it is the rest of m * 2 ^ (j - i) by n, times 2 ^ i. For any format.
-- Assumes nothing.
use Rattle.std.proofs.Common.{◌≡◌, ℕ, ◌-◌, ◌*◌, ◌%◌, ◌^◌, ◌<◌, ◌≤◌, Bool, true, false, not, T, ltb, ℤ, sym, ap, ◌∙◌, subst, le_trans, le_of_eq, lt_of_lt_of_le, le_of_lt, mul-le-mul_right, mod-lt, mul_assoc, mul_comm, mul-lt-mul_of_pos_right, mul-pos, mul_right_comm, le_of_mul-le-mul_right, arith, pow_pos, ltb→lt, nltb→le, lit<}
use native.Mathlib.Nat.{eq_of_mul-eq-mul_right}
use lib.Ieee.{Float, nan, inf, fin, Format, binary64, prec, low, up, down, round, rem, fits, of_bits, to_bits}
use lib.Ieee.Bits.{of_bits-fits}
use lib.Ieee.Fits.{up_pos, down_pos, round-fits}
use lib.Ieee.Exact.{HasValue, round_exact}
use lib.Ieee.Positive.{num, den, den_pos, first_pos}
use lib.Ieee.Scale.{finite, overflow}
use Rattle.ieee754_rounding.proofs.FormatValues.{grid_of, split_power, rescale}
use Rattle.ieee754.specs.Code.Units.{digits, places}
use Rattle.ieee754.proofs.Fields.{signed, infinity, size_of, by_sign, below-infinity}
use Rattle.ieee754.proofs.RemainderSteps.{mul_mod, aligned}
use Rattle.ieee754.proofs.SameValue.{same_value}
use Rattle.ieee754.proofs.SmallRemainder.{rem_is}
use Rattle.ieee754.proofs.UnitPatterns.{value_at, digits_short, digits_full}

module _ (f : Format) (s t : Bool) (m₀ : ℕ) (e : ℤ) (k : ℕ) (d : ℤ) (m j n i : ℕ) (F : T (fits f (fin s m₀ e))) (ex : m₀ * up e * 2 ^ low f ≡ m * 2 ^ j * down e)
    (ey : k * up d * 2 ^ low f ≡ n * 2 ^ i * down d) (np : 0 < n) (short : n < 2 ^ prec f) (ij : i ≤ j) (least : n * 2 ^ i ≤ m * 2 ^ j) where
  abbrev A : ℕ
  A = m₀ * up e * down d

  abbrev B : ℕ
  B = k * up d * down e

  abbrev C : ℕ
  C = down e * down d

  abbrev l : ℕ
  l = 2 ^ low f

  abbrev r : ℕ
  r = m * 2 ^ (j - i) % n

  divisor_pos : 0 < k
  divisor_pos = first_pos k (up d) (first_pos (k * up d) l (subst (λ (z : ℕ). 0 < z) (sym ey) (mul-pos (mul-pos np (pow_pos i)) (down_pos d))))

  cp : 0 < C
  cp = mul-pos (down_pos e) (down_pos d)

  scaled_a : A * l ≡ m * 2 ^ j * C
  scaled_a = mul_right_comm (m₀ * up e) (down d) l ∙ ap (λ (z : ℕ). z * down d) ex ∙ mul_assoc (m * 2 ^ j) (down e) (down d)

  scaled_b : B * l ≡ n * 2 ^ i * C
  scaled_b =
      mul_right_comm (k * up d) (down e) l ∙ ap (λ (z : ℕ). z * down e) ey ∙ mul_assoc (n * 2 ^ i) (down d) (down e) ∙ ap (λ (z : ℕ). n * 2 ^ i * z) (mul_comm (down d) (down e))

  is : A % B * l ≡ r * 2 ^ i * C
  is =
      sym (mul_mod A B l (mul-pos (mul-pos divisor_pos (up_pos d)) (down_pos e)) (pow_pos (low f)))
      ∙ ap (λ (z : ℕ). z % (B * l)) (scaled_a ∙ ap (λ (z : ℕ). z * C) (split_power m j i ij) ∙ mul_assoc (m * 2 ^ (j - i)) (2 ^ i) C)
      ∙ ap (λ (z : ℕ). m * 2 ^ (j - i) * (2 ^ i * C) % z) (scaled_b ∙ mul_assoc n (2 ^ i) C)
      ∙ mul_mod (m * 2 ^ (j - i)) n (2 ^ i * C) np (mul-pos (pow_pos i) cp)
      ∙ sym (mul_assoc r (2 ^ i) C)

  few : r < n
  few = mod-lt (m * 2 ^ (j - i)) np

  fine : r * 2 ^ i < overflow f
  fine =
      let g = grid_of f s m₀ e F in
      let same : m * 2 ^ j ≡ m₀ * 2 ^ g.places = eq_of_mul-eq-mul_right (down e) (down_pos e) (m * 2 ^ j) (m₀ * 2 ^ g.places) (sym ex ∙ g.is) in
      lt_of_lt_of_le (mul-lt-mul_of_pos_right few (pow_pos i)) (le_trans least (le_trans (le_of_eq same) (le_of_lt g.fine)))

  pub remainder_value : HasValue (rem f (fin s m₀ e) (fin t k d)) s (r * 2 ^ i) l
  remainder_value =
      subst (λ (z : Float). HasValue z s (r * 2 ^ i) l) (sym (rem_is f s t m₀ k e d divisor_pos))
      (rescale (round f s (A % B) C) s (A % B) C (r * 2 ^ i) l cp (sym is) (round_exact f s (A % B) C r i cp (lt_of_lt_of_le few (le_of_lt short)) fine is))

  pub remainder_fits : T (fits f (rem f (fin s m₀ e) (fin t k d)))
  remainder_fits = subst (λ (z : Float). T (fits f z)) (sym (rem_is f s t m₀ k e d divisor_pos)) (round-fits f s (A % B) C)

-- ---- two f64, by their patterns
module _ (x y : Float) (fx : T (fits binary64 x)) (fy : T (fits binary64 y)) (nx : T (finite x)) (ny : T (finite y)) (some : 0 < num y) (large : num y * den x ≤ num x * den y) where
  abbrev a : ℕ
  a = to_bits binary64 x % 2 ^ 63

  abbrev c : ℕ
  c = to_bits binary64 y % 2 ^ 63

  pub divisor_low : c < infinity binary64
  divisor_low = below-infinity binary64 y fy ny

  value_x : (s : Bool) → of_bits binary64 (signed binary64 s a) ≡ x → HasValue x s (digits a * 2 ^ places a) (2 ^ 1074)
  value_x s e = subst (λ (z : Float). HasValue z s (digits a * 2 ^ places a) (2 ^ 1074)) e (value_at s a (below-infinity binary64 x fx nx))

  value_y : (t : Bool) → of_bits binary64 (signed binary64 t c) ≡ y → HasValue y t (digits c * 2 ^ places c) (2 ^ 1074)
  value_y t e = subst (λ (z : Float). HasValue z t (digits c * 2 ^ places c) (2 ^ 1074)) e (value_at t c divisor_low)

  size_x : num x * 2 ^ 1074 ≡ digits a * 2 ^ places a * den x
  size_x = let w = by_sign binary64 x fx in size_of x w.0 (digits a * 2 ^ places a) (2 ^ 1074) (value_x w.0 w.1)

  size_y : num y * 2 ^ 1074 ≡ digits c * 2 ^ places c * den y
  size_y = let w = by_sign binary64 y fy in size_of y w.0 (digits c * 2 ^ places c) (2 ^ 1074) (value_y w.0 w.1)

  pub divisor_digits : 0 < digits c
  divisor_digits = first_pos (digits c) (2 ^ places c) (first_pos (digits c * 2 ^ places c) (den y) (subst (λ (z : ℕ). 0 < z) size_y (mul-pos some (pow_pos 1074))))

  least : digits c * 2 ^ places c ≤ digits a * 2 ^ places a
  least = least_of (num x) (den x) (num y) (den y) (2 ^ 1074) (digits a * 2 ^ places a) (digits c * 2 ^ places c) (den_pos x) (den_pos y) size_x size_y large
    where
      least_of : (p q u v l n k : ℕ) → 0 < q → 0 < v → p * l ≡ n * q → u * l ≡ k * v → u * q ≤ p * v → k ≤ n
      least_of p q u v l n k qp vp ex ey h =
          le_of_mul-le-mul_right
          (le_trans (le_of_eq (sym (mul_assoc k v q) ∙ ap (λ (z : ℕ). z * q) (sym ey) ∙ mul_right_comm u l q))
          (le_trans (mul-le-mul_right l h)
          (le_of_eq (mul_right_comm p v l ∙ ap (λ (z : ℕ). z * v) ex ∙ mul_assoc n q v ∙ ap (λ (z : ℕ). n * z) (mul_comm q v)))))
          (mul-pos vp qp)

  pub places_in : places c ≤ places a
  places_in = go (ltb 0 (places c)) (ltb→lt 0 (places c)) (nltb→le 0 (places c))
    where
      go : (b : Bool) → (T b → 0 < places c) → (T (not b) → places c ≤ 0) → places c ≤ places a
      go true f g = aligned 53 (digits a) (places a) (digits c) (places c) (lit< tt) (digits_short a) (digits_full c (f tt)) least
      go false f g = let h = g tt in omega arith

  abbrev pub rest : ℕ
  rest = digits a * 2 ^ (places a - places c) % digits c

  pub rest_short : rest < 2 ^ 53
  rest_short = native.Mathlib.Nat.lt_trans (mod-lt (digits a * 2 ^ (places a - places c)) divisor_digits) (digits_short c)

-- the value of the remainder, and that it is one of the format
valued : (x y : Float) (s t : Bool) (m j n i : ℕ) → T (fits binary64 x) → HasValue x s (m * 2 ^ j) (2 ^ 1074) → HasValue y t (n * 2 ^ i) (2 ^ 1074) → 0 < n → n < 2 ^ 53 → i ≤ j
    → n * 2 ^ i ≤ m * 2 ^ j → T (fits binary64 (rem binary64 x y)) × HasValue (rem binary64 x y) s (m * 2 ^ (j - i) % n * 2 ^ i) (2 ^ 1074)
valued nan y s t m j n i F v w np short ij h = absurd v
valued (inf s') y s t m j n i F v w np short ij h = absurd v
valued (fin s' m₀ e) nan s t m j n i F v w np short ij h = absurd w
valued (fin s' m₀ e) (inf t') s t m j n i F v w np short ij h = absurd w
valued (fin s' m₀ e) (fin t' k d) s t m j n i F v w np short ij h = (
  remainder_fits binary64 s' t' m₀ e k d m j n i F v.1 w.1 np short ij h,
  subst (λ (z : Bool). HasValue (rem binary64 (fin s' m₀ e) (fin t' k d)) z (m * 2 ^ (j - i) % n * 2 ^ i) (2 ^ 1074)) v.0
      (remainder_value binary64 s' t' m₀ e k d m j n i F v.1 w.1 np short ij h),
)

module _ (x y : Float) (fx : T (fits binary64 x)) (fy : T (fits binary64 y)) (nx : T (finite x)) (ny : T (finite y)) (some : 0 < num y) (large : num y * den x ≤ num x * den y) where
  -- a pattern of the rest's value, with x's sign, is the remainder's
  pub whole_remainder : (s : Bool) (p : ℕ) → of_bits binary64 (signed binary64 s (to_bits binary64 x % 2 ^ 63)) ≡ x → p < infinity binary64
      → digits p * 2 ^ places p ≡ rest x y fx fy nx ny some large * 2 ^ places (to_bits binary64 y % 2 ^ 63) → of_bits binary64 (signed binary64 s p) ≡ rem binary64 x y
  whole_remainder s p e low h =
      let w = by_sign binary64 y fy in
      let v =
      valued x y s w.0 (digits (a x y fx fy nx ny some large)) (places (a x y fx fy nx ny some large)) (digits (c x y fx fy nx ny some large)) (places (c x y fx fy nx ny some large)) fx
      (value_x x y fx fy nx ny some large s e) (value_y x y fx fy nx ny some large w.0 w.1) (divisor_digits x y fx fy nx ny some large) (digits_short (c x y fx fy nx ny some large))
      (places_in x y fx fy nx ny some large) (least x y fx fy nx ny some large) in
      same_value binary64 (of_bits binary64 (signed binary64 s p)) (rem binary64 x y) s (rest x y fx fy nx ny some large * 2 ^ places (to_bits binary64 y % 2 ^ 63)) (2 ^ 1074) (pow_pos 1074)
      (of_bits-fits binary64 (signed binary64 s p)) v.0 (subst (λ (n : ℕ). HasValue (of_bits binary64 (signed binary64 s p)) s n (2 ^ 1074)) h (value_at s p low)) v.1
