-- A finite f64's pattern in units of the smallest one: so many digits and so many places, and the pattern that has them. Assumes nothing.
use Rattle.std.proofs.Common.{◌≡◌, ℕ, ◌+◌, ◌-◌, ◌*◌, ◌/◌, ◌%◌, ◌^◌, ◌<◌, ◌≤◌, Bool, inl, inr, refl, sym, ap, ◌∙◌, subst, le_trans, le_of_eq, lt_of_lt_of_le, lt_of_le_of_lt, mul-one, mul_assoc, mod-eq_of_lt, arith, lit≤, pow_mono, pow-add}
use Rattle.std.proofs.lemmas.Bool.{lt-ltb, le-ltb}
use native.Mathlib.Nat.{lt_of_mul-lt-mul_right}
use lib.Count.{count_leading_zeros}
use lib.Ieee.{binary64, of_bits}
use lib.Ieee.Exact.{HasValue}
use Rattle.ieee754_rounding.proofs.Comparison.{lt_or_le}
use Rattle.ieee754.specs.Code.Units.{digits, places}
use Rattle.ieee754.proofs.Fields.{signed, infinity, value_low, value_normal}
use Rattle.ieee754.proofs.LeadingZeros.{up_lo, up_hi}

pub digits_low : (a : ℕ) → a < 2 ^ 52 → digits a ≡ a
unfolding digits
digits_low a h = rw (lt-ltb a (2 ^ 52) h)

pub digits_high : (a : ℕ) → 2 ^ 52 ≤ a → digits a ≡ 2 ^ 52 + a % 2 ^ 52
unfolding digits
digits_high a h = rw (le-ltb a (2 ^ 52) h)

pub places_low : (a : ℕ) → a < 2 ^ 52 → places a ≡ 0
unfolding places
places_low a h = rw (lt-ltb a (2 ^ 52) h)

pub places_high : (a : ℕ) → 2 ^ 52 ≤ a → places a ≡ a / 2 ^ 52 - 1
unfolding places
places_high a h = rw (le-ltb a (2 ^ 52) h)

-- either way, by the size of the pattern
by_size : {A : Type 0} (a : ℕ) → (a < 2 ^ 52 → A) → (2 ^ 52 ≤ a → A) → A
by_size a f g = elim (lt_or_le a (2 ^ 52)) [ inl h ↦ f h | inr h ↦ g h ]

pub digits_short : (a : ℕ) → digits a < 2 ^ 53
digits_short a = by_size a (λ h. rw (digits_low a h) (omega arith)) (λ h. rw (digits_high a h) (omega arith))

-- a place stands behind full digits only
pub digits_full : (a : ℕ) → 0 < places a → 2 ^ 52 ≤ digits a
digits_full a p = by_size a (λ h. let e = places_low a h in omega arith) (λ h. rw (digits_high a h) (omega arith))

pub places_few : (a : ℕ) → a < infinity binary64 → places a < 2046
places_few a k = by_size a (λ h. rw (places_low a h) (omega arith)) (λ h. rw (places_high a h) (omega arith))

-- ---- what stands at a pattern
pub value_at : (s : Bool) (a : ℕ) → a < infinity binary64 → HasValue (of_bits binary64 (signed binary64 s a)) s (digits a * 2 ^ places a) (2 ^ 1074)
value_at s a k =
    by_size a
    (λ h. subst (λ (n : ℕ). HasValue (of_bits binary64 (signed binary64 s a)) s n (2 ^ 1074)) (rw (digits_low a h, places_low a h) refl) (value_low binary64 s a h))
    (λ h. subst (λ (n : ℕ). HasValue (of_bits binary64 (signed binary64 s a)) s n (2 ^ 1074)) (rw (digits_high a h, places_high a h) refl) (value_normal binary64 s a h k))

-- ---- the pattern of r * 2 ^ i units
-- full digits
pub full_digits : (r i : ℕ) → 2 ^ 52 ≤ r → r < 2 ^ 53 → digits (i * 4503599627370496 + r) * 2 ^ places (i * 4503599627370496 + r) ≡ r * 2 ^ i
full_digits r i lo hi =
    let a = i * 4503599627370496 + r in
    let big : 2 ^ 52 ≤ a = omega arith in
    let d : digits a ≡ r = digits_high a big ∙ rest r i lo hi in
    let p : places a ≡ i = places_high a big ∙ back r i lo hi in
    rw (d, p) refl
  where
    rest : (r i : ℕ) → 2 ^ 52 ≤ r → r < 2 ^ 53 → 2 ^ 52 + (i * 4503599627370496 + r) % 2 ^ 52 ≡ r
    rest r i lo hi = omega arith

    back : (r i : ℕ) → 2 ^ 52 ≤ r → r < 2 ^ 53 → (i * 4503599627370496 + r) / 2 ^ 52 - 1 ≡ i
    back r i lo hi = omega arith

pub no_digits : (i : ℕ) → digits 0 * 2 ^ places 0 ≡ 0 * 2 ^ i
unfolding digits places
no_digits i = omega arith

module _ (r i : ℕ) (some : 0 < r) (small : r < 2 ^ 52) where
  abbrev z : ℕ
  z = count_leading_zeros 64 r - 11

  -- fewer places than r lacks digits: all become digits
  pub few_fit : i < z → r * 2 ^ i < 2 ^ 52
  few_fit h = lt_of_mul-lt-mul_right 2 (lt_of_le_of_lt (le_trans (le_of_eq (mul_assoc r (2 ^ i) 2)) up) (up_hi r some small))
    where
      more : 2 ^ i * 2 ≤ 2 ^ z
      more = le_trans (le_of_eq (sym (pow-add 2 i 1))) (pow_mono (omega arith))

      up : r * (2 ^ i * 2) ≤ r * 2 ^ z
      up = native.Mathlib.Nat.mul-le-mul_left r more

  pub few_whole : i < z → r * 2 ^ i % 2 ^ 64 ≡ r * 2 ^ i
  few_whole h = mod-eq_of_lt (lt_of_lt_of_le (few_fit h) (lit≤ tt))

  pub few_digits : i < z → digits (r * 2 ^ i) * 2 ^ places (r * 2 ^ i) ≡ r * 2 ^ i
  few_digits h = rw (digits_low (r * 2 ^ i) (few_fit h), places_low (r * 2 ^ i) (few_fit h)) (mul-one (r * 2 ^ i))

  -- more: r gets its digits of them
  pub more_digits : z ≤ i → digits ((i - z) * 4503599627370496 + r * 2 ^ z) * 2 ^ places ((i - z) * 4503599627370496 + r * 2 ^ z) ≡ r * 2 ^ i
  more_digits h =
      full_digits (r * 2 ^ z) (i - z) (up_lo r some small) (up_hi r some small)
      ∙ mul_assoc r (2 ^ z) (2 ^ (i - z)) ∙ ap (λ (n : ℕ). r * n) (sym (pow-add 2 z (i - z)) ∙ ap (λ (n : ℕ). 2 ^ n) (join i h))
    where
      join : (i : ℕ) → z ≤ i → z + (i - z) ≡ i
      join i h = omega arith
