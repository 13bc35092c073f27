-- `convert binary32` at each range of an `f64`'s pattern. Assumes nothing.
use Rattle.std.proofs.Common.{◌≡◌, ℕ, zero, suc, ◌+◌, ◌-◌, ◌*◌, ◌/◌, ◌%◌, ◌^◌, ◌<◌, ◌≤◌, Bool, true, false, cond, eqb, ◌⊎◌, sym, refl, ap, ◌∙◌, subst, inl, inr, zero-le, le_trans, le_of_eq, lt_of_lt_of_le, lt_of_le_of_lt, mul-le-mul_right, mod-eq_of_lt, mul_assoc, div-lt_iff_lt-mul, le_antisymm, mul-pos, pow-suc, le-div_iff_mul-le, zero-add, mul-one, not-le_of_lt, le_of_mul-le-mul_right, arith, lit≤, pow_pos, pow_mono, pow-add, shl_lt}
use Prim.Native.Nat.{compare, Ordering}
use native.Mathlib.Nat.{div-eq_of_lt}
use lib.Ieee.{Float, nan, inf, fin, binary32, binary64, up, down, size, units, round, of_bits, nearest}
use lib.Ieee.Digits.{size-le}
use lib.Ieee.Fits.{down_pos, nearest-le, round_is}
use lib.Ieee.Exact.{HasValue}
use lib.Ieee.Nearest.{closest, closest_same, nearest-ge}
use lib.Ieee.Scale.{round_same}
use Rattle.ieee754_rounding.proofs.Comparison.{Cmp, cmp, lt_or_le}
use Rattle.ieee754.specs.Conversion.{convert}
use Rattle.ieee754.proofs.Patterns.{size_is, units_bits, units_inf}
use Rattle.ieee754.proofs.Fields.{signed, value_low, value_normal, value_top}

-- ---- by the value, in units of 2 ^ -1074
narrow_value : (x : Float) (s : Bool) (n : ℕ) → HasValue x s n (2 ^ 1074) → convert binary32 x ≡ round binary32 s n (2 ^ 1074)
unfolding convert
narrow_value nan s n v = absurd v
narrow_value (inf t) s n v = absurd v
narrow_value (fin t m e) s n v =
    ap (λ (z : Bool). round binary32 z (m * up e) (down e)) v.0
    ∙ round_same binary32 s (m * up e) (down e) n (2 ^ 1074) (down_pos e) (pow_pos 1074) v.1

-- `round`, once it is known how many digits it drops
round_at : (s : Bool) (n k : ℕ) → size (n * 2 ^ 149 / 2 ^ 1074) - 24 ≡ k → round binary32 s n (2 ^ 1074) ≡ units binary32 s (closest (n * 2 ^ 149) (2 ^ 1074 * 2 ^ k)) k
round_at s n k e = round_is binary32 s n (2 ^ 1074) ∙ ap (λ (j : ℕ). units binary32 s (closest (n * 2 ^ 149) (2 ^ 1074 * 2 ^ j)) j) e

-- ---- less than half of the smallest value
above_none : (b : ℕ) → 0 < b → (n : ℕ) → 2 * n < b → closest n b ≡ 0
above_none b B n h = go (n / b) (n % b) (div-eq_of_lt (less n b h)) (mod-eq_of_lt (less n b h)) (compare (n % b * 2) b) (cmp (n % b * 2) b)
  where
    less : (x y : ℕ) → 2 * x < y → x < y
    less x y h = omega arith

    go : (q r : ℕ) → q ≡ 0 → r ≡ n → (o : Ordering) → Cmp o (r * 2) b → nearest q o ≡ 0
    go q r e f Ordering.lt c = e
    go q r e f Prim.Native.Nat.Ordering.eq c = absurd (no r n b f c h)
      where
        no : (r n b : ℕ) → r ≡ n → r * 2 ≡ b → 2 * n < b → ⊥
        no r n b e f h = omega arith
    go q r e f Prim.Native.Nat.Ordering.gt c = absurd (no r n b f c h)
      where
        no : (r n b : ℕ) → r ≡ n → b < r * 2 → 2 * n < b → ⊥
        no r n b e f h = omega arith

tiny : (s : Bool) (n : ℕ) → n < 2 ^ 923 → round binary32 s n (2 ^ 1074) ≡ units binary32 s 0 0
tiny s n h =
    round_at s n 0 none ∙ ap (λ (z : ℕ). units binary32 s z 0) (above_none (2 ^ 1074 * 2 ^ 0) (pow_pos 1074) (n * 2 ^ 149) (twice (n * 2 ^ 149) (2 ^ 1072) big (shl_lt 923 149 h) (lit≤ tt)))
  where
    big : ℕ
    big = 2 ^ 1074 * 2 ^ 0

    twice : (x y z : ℕ) → x < y → 2 * y ≤ z → 2 * x < z
    twice x y z a b = omega arith

    none : size (n * 2 ^ 149 / 2 ^ 1074) - 24 ≡ 0
    none = ap (λ (z : ℕ). size z - 24) (div-eq_of_lt (lt_of_lt_of_le (shl_lt 923 149 h) (lit≤ tt))) ∙ unfold size in refl

-- ---- a significand m of 53 digits with the exponent field E: m * 2 ^ (E - 1) units. Of it E - 897 digits are dropped beyond the 29 that an `f32` lacks
module _ (s : Bool) (m E : ℕ) (lo : 2 ^ 52 ≤ m) (hi : m < 2 ^ 53) (E1 : 1 ≤ E) where
  abbrev n : ℕ
  n = m * 2 ^ (E - 1)

  n_is : n * 2 ^ 149 ≡ m * 2 ^ (E + 148)
  n_is = mul_assoc m (2 ^ (E - 1)) (2 ^ 149) ∙ ap (λ (z : ℕ). m * z) (sym (pow-add 2 (E - 1) 149) ∙ ap (λ (z : ℕ). 2 ^ z) (sum E E1))
    where
      sum : (x : ℕ) → 1 ≤ x → x - 1 + 149 ≡ x + 148
      sum x h = omega arith

  w : ℕ
  w = n * 2 ^ 149 / 2 ^ 1074

  -- where digits are dropped
  large : 897 ≤ E → size w - 24 ≡ E - 897
  unfolding w
  large h = ap (λ (z : ℕ). z - 24) (size_is (n * 2 ^ 149 / 2 ^ 1074) (E - 874) below above) ∙ off E h
    where
      off : (x : ℕ) → 897 ≤ x → suc (x - 874) - 24 ≡ x - 897
      off x h = omega arith

      sum : (x : ℕ) → 897 ≤ x → x - 874 + 1074 ≡ 52 + (x + 148)
      sum x h = omega arith

      sum' : (x : ℕ) → 897 ≤ x → 53 + (x + 148) ≡ suc (x - 874) + 1074
      sum' x h = omega arith

      below : 2 ^ (E - 874) ≤ n * 2 ^ 149 / 2 ^ 1074
      below = (le-div_iff_mul-le (pow_pos 1074)).1 (le_trans (le_of_eq (sym (pow-add 2 (E - 874) 1074) ∙ ap (λ (z : ℕ). 2 ^ z) (sum E h) ∙ pow-add 2 52 (E + 148))) (le_trans (mul-le-mul_right (2 ^ (E + 148)) lo) (le_of_eq (sym n_is))))

      above : n * 2 ^ 149 / 2 ^ 1074 < 2 ^ suc (E - 874)
      above = (div-lt_iff_lt-mul (pow_pos 1074)).1 (lt_of_le_of_lt (le_of_eq n_is) (lt_of_lt_of_le (shl_lt 53 (E + 148) hi) (le_of_eq (ap (λ (z : ℕ). 2 ^ z) (sum' E h) ∙ pow-add 2 (suc (E - 874)) 1074))))

  small : E < 897 → size w - 24 ≡ 0
  unfolding w
  small h = none (size (n * 2 ^ 149 / 2 ^ 1074)) (size-le (n * 2 ^ 149 / 2 ^ 1074) 24 above)
    where
      none : (z : ℕ) → z ≤ 24 → z - 24 ≡ 0
      none z h = omega arith

      sum : (x : ℕ) → x < 897 → 53 + (x + 148) ≤ 24 + 1074
      sum x h = omega arith

      above : n * 2 ^ 149 / 2 ^ 1074 < 2 ^ 24
      above = (div-lt_iff_lt-mul (pow_pos 1074)).1 (lt_of_le_of_lt (le_of_eq n_is) (lt_of_lt_of_le (shl_lt 53 (E + 148) hi) (le_trans (pow_mono (sum E h)) (le_of_eq (pow-add 2 24 1074)))))

  -- the kept number is m / 2 ^ j to the nearest
  kept_is : (k j : ℕ) → E + 148 + j ≡ 1074 + k → closest (n * 2 ^ 149) (2 ^ 1074 * 2 ^ k) ≡ closest m (2 ^ j)
  kept_is k j e =
      closest_same (n * 2 ^ 149) (2 ^ 1074 * 2 ^ k) m (2 ^ j) (mul-pos (pow_pos 1074) (pow_pos k)) (pow_pos j)
      (ap (λ (z : ℕ). z * 2 ^ j) n_is ∙ mul_assoc m (2 ^ (E + 148)) (2 ^ j) ∙ ap (λ (z : ℕ). m * z) (sym (pow-add 2 (E + 148) j) ∙ ap (λ (z : ℕ). 2 ^ z) e ∙ pow-add 2 1074 k))

  pub round_large : 897 ≤ E → round binary32 s n (2 ^ 1074) ≡ units binary32 s (closest m (2 ^ 29)) (E - 897)
  unfolding w
  round_large h = round_at s n (E - 897) (large h) ∙ ap (λ (z : ℕ). units binary32 s z (E - 897)) (kept_is (E - 897) 29 (sum E h))
    where
      sum : (x : ℕ) → 897 ≤ x → x + 148 + 29 ≡ 1074 + (x - 897)
      sum x h = omega arith

  pub round_small : E < 897 → round binary32 s n (2 ^ 1074) ≡ units binary32 s (closest m (2 ^ (926 - E))) 0
  unfolding w
  round_small h = round_at s n 0 (small h) ∙ ap (λ (z : ℕ). units binary32 s z 0) (kept_is 0 (926 - E) (sum E h))
    where
      sum : (x : ℕ) → x < 897 → x + 148 + (926 - x) ≡ 1074 + 0
      sum x h = omega arith

-- ---- how large the kept number is
closest_le : (m j : ℕ) → m < 2 ^ 53 → 29 ≤ j → closest m (2 ^ j) ≤ 2 ^ 24
closest_le m j h k =
    le_trans (nearest-le (m / 2 ^ j) (compare (m % 2 ^ j * 2) (2 ^ j)))
    ((div-lt_iff_lt-mul (pow_pos j)).1 (lt_of_lt_of_le h (le_trans (pow_mono (sum j k)) (le_of_eq (pow-add 2 24 j)))))
  where
    sum : (x : ℕ) → 29 ≤ x → 53 ≤ 24 + x
    sum x h = omega arith

closest_ge : (m : ℕ) → 2 ^ 52 ≤ m → 2 ^ 23 ≤ closest m (2 ^ 29)
closest_ge m h = le_trans ((le-div_iff_mul-le (pow_pos 29)).1 h) (nearest-ge (m / 2 ^ 29) (compare (m % 2 ^ 29 * 2) (2 ^ 29)))

-- ---- patterns of binary32
inf_bits : (s : Bool) → of_bits binary32 (cond s (2 ^ 31) 0 + 0x7f80_0000) ≡ inf s
unfolding of_bits
inf_bits true = refl
inf_bits false = refl

-- at the top the carry makes the pattern of the infinity
pub bits_32 : (s : Bool) (r k : ℕ) → r ≤ 2 ^ 24 → (k ≡ 0) ⊎ (2 ^ 23 ≤ r) → k ≤ 253 → units binary32 s r k ≡ of_bits binary32 (cond s (2 ^ 31) 0 + (k * 2 ^ 23 + r))
bits_32 s r k h d K = elim (lt_or_le (r * 2 ^ k) (2 ^ 277)) [
  | inl l ↦ units_bits binary32 s r k h d l
  | inr g ↦
      units_inf binary32 s r k g
      ∙ sym (inf_bits s)
      ∙ ap (λ (z : ℕ). of_bits binary32 (cond s (2 ^ 31) 0 + z)) (sym (ap (λ (z : ℕ). z * 2 ^ 23 + r) (k-is g) ∙ ap (λ (z : ℕ). 253 * 2 ^ 23 + z) (r-is g)))
]
  where
    pow_back : (i p : ℕ) → 2 ^ i ≤ 2 ^ p → i ≤ p
    pow_back i p h = native.Mathlib.Nat.le_of_suc-le-suc (native.Mathlib.Nat.lt_of_not-le (λ (g : suc p ≤ i). not-le_of_lt (lib.Pow.pow-lt g) h))

    most : 2 ^ 277 ≤ r * 2 ^ k → 2 ^ 277 ≤ 2 ^ (24 + k)
    most g = le_trans g (le_trans (mul-le-mul_right (2 ^ k) h) (le_of_eq (sym (pow-add 2 24 k))))

    k-is : 2 ^ 277 ≤ r * 2 ^ k → k ≡ 253
    k-is g = last k K (pow_back 277 (24 + k) (most g))
      where
        last : (x : ℕ) → x ≤ 253 → 277 ≤ 24 + x → x ≡ 253
        last x a b = omega arith

    r-is : 2 ^ 277 ≤ r * 2 ^ k → r ≡ 2 ^ 24
    r-is g = le_antisymm h (le_of_mul-le-mul_right (le_trans (le_of_eq (sym (pow-add 2 24 253))) (le_trans g (le_of_eq (ap (λ (z : ℕ). r * 2 ^ z) (k-is g))))) (pow_pos 253))

-- ---- by the pattern a of the `f64` without its sign
module _ (s : Bool) (a : ℕ) where
  x : Float
  x = of_bits binary64 (signed binary64 s a)

  m : ℕ
  m = a % 2 ^ 52 + 2 ^ 52

  by_value : 2 ^ 52 ≤ a → a < 0x7ff0_0000_0000_0000 → convert binary32 x ≡ round binary32 s (m * 2 ^ (a / 2 ^ 52 - 1)) (2 ^ 1074)
  unfolding x m
  by_value h k =
      narrow_value (of_bits binary64 (signed binary64 s a)) s ((a % 2 ^ 52 + 2 ^ 52) * 2 ^ (a / 2 ^ 52 - 1))
      (subst (λ (z : ℕ). HasValue (of_bits binary64 (signed binary64 s a)) s (z * 2 ^ (a / 2 ^ 52 - 1)) (2 ^ 1074)) (swap a) (value_normal binary64 s a h k))
    where
      swap : (y : ℕ) → 2 ^ 52 + y % 2 ^ 52 ≡ y % 2 ^ 52 + 2 ^ 52
      swap y = omega arith

  m_lo : 2 ^ 52 ≤ m
  unfolding m
  m_lo = omega arith

  m_hi : m < 2 ^ 53
  unfolding m
  m_hi = omega arith

  pub narrow_normal : 897 ≤ a / 2 ^ 52 → a < 0x47f0_0000_0000_0000 → of_bits binary32 (cond s (2 ^ 31) 0 + ((a / 2 ^ 52 - 897) * 2 ^ 23 + closest (a % 2 ^ 52 + 2 ^ 52) (2 ^ 29))) ≡ convert binary32 (of_bits binary64 (signed binary64 s a))
  unfolding x m
  narrow_normal h k =
      sym (by_value (e1 a h) (e2 a k) ∙ round_large s (a % 2 ^ 52 + 2 ^ 52) (a / 2 ^ 52) m_lo m_hi (e3 a h) h
      ∙ bits_32 s (closest (a % 2 ^ 52 + 2 ^ 52) (2 ^ 29)) (a / 2 ^ 52 - 897) (closest_le (a % 2 ^ 52 + 2 ^ 52) 29 m_hi (lit≤ tt)) (inr (closest_ge (a % 2 ^ 52 + 2 ^ 52) m_lo)) (e4 a k))
    where
      e1 : (y : ℕ) → 897 ≤ y / 2 ^ 52 → 2 ^ 52 ≤ y
      e1 y h = omega arith

      e2 : (y : ℕ) → y < 0x47f0_0000_0000_0000 → y < 0x7ff0_0000_0000_0000
      e2 y h = omega arith

      e3 : (y : ℕ) → 897 ≤ y / 2 ^ 52 → 1 ≤ y / 2 ^ 52
      e3 y h = omega arith

      e4 : (y : ℕ) → y < 0x47f0_0000_0000_0000 → y / 2 ^ 52 - 897 ≤ 253
      e4 y h = omega arith

  pub narrow_subnormal : 872 ≤ a / 2 ^ 52 → a / 2 ^ 52 < 897 → of_bits binary32 (cond s (2 ^ 31) 0 + closest (a % 2 ^ 52 + 2 ^ 52) (2 ^ (926 - a / 2 ^ 52))) ≡ convert binary32 (of_bits binary64 (signed binary64 s a))
  unfolding x m
  narrow_subnormal h k =
      sym (by_value (e1 a h) (e2 a k) ∙ round_small s (a % 2 ^ 52 + 2 ^ 52) (a / 2 ^ 52) m_lo m_hi (e3 a h) k
      ∙ bits_32 s (closest (a % 2 ^ 52 + 2 ^ 52) (2 ^ (926 - a / 2 ^ 52))) 0 (closest_le (a % 2 ^ 52 + 2 ^ 52) (926 - a / 2 ^ 52) m_hi (e4 a k)) (inl refl) zero-le
      ∙ ap (λ (z : ℕ). of_bits binary32 (cond s (2 ^ 31) 0 + z)) (zero-add (closest (a % 2 ^ 52 + 2 ^ 52) (2 ^ (926 - a / 2 ^ 52)))))
    where
      e1 : (y : ℕ) → 872 ≤ y / 2 ^ 52 → 2 ^ 52 ≤ y
      e1 y h = omega arith

      e2 : (y : ℕ) → y / 2 ^ 52 < 897 → y < 0x7ff0_0000_0000_0000
      e2 y h = omega arith

      e3 : (y : ℕ) → 872 ≤ y / 2 ^ 52 → 1 ≤ y / 2 ^ 52
      e3 y h = omega arith

      e4 : (y : ℕ) → y / 2 ^ 52 < 897 → 29 ≤ 926 - y / 2 ^ 52
      e4 y h = omega arith

  at_zero : units binary32 s 0 0 ≡ of_bits binary32 (cond s (2 ^ 31) 0 + 0)
  at_zero = bits_32 s 0 0 zero-le (inl refl) zero-le

  pub narrow_tiny : a / 2 ^ 52 < 872 → of_bits binary32 (cond s (2 ^ 31) 0 + 0) ≡ convert binary32 (of_bits binary64 (signed binary64 s a))
  unfolding x m
  narrow_tiny h = elim (lt_or_le a (2 ^ 52)) [
    | inl l ↦ sym (narrow_value (of_bits binary64 (signed binary64 s a)) s (a * 2 ^ 0) (value_low binary64 s a l) ∙ tiny s (a * 2 ^ 0) (lt_of_le_of_lt (le_of_eq (mul-one a)) (lt_of_lt_of_le l (lit≤ tt))) ∙ at_zero)
    | inr g ↦ sym (by_value g (e2 a h) ∙ tiny s ((a % 2 ^ 52 + 2 ^ 52) * 2 ^ (a / 2 ^ 52 - 1)) (lt_of_lt_of_le (shl_lt 53 (a / 2 ^ 52 - 1) m_hi) (pow_mono (e3 a h))) ∙ at_zero)
  ]
    where
      e2 : (y : ℕ) → y / 2 ^ 52 < 872 → y < 0x7ff0_0000_0000_0000
      e2 y h = omega arith

      e3 : (y : ℕ) → y / 2 ^ 52 < 872 → 53 + (y / 2 ^ 52 - 1) ≤ 923
      e3 y h = omega arith

  at_inf : (c : ℕ) → c ≡ 0 → convert binary32 (cond (eqb c 0) (inf s) nan) ≡ inf s
  unfolding convert
  at_inf c e = subst (λ (z : ℕ). convert binary32 (cond (eqb z 0) (inf s) nan) ≡ inf s) (sym e) refl

  pub narrow_large : 0x47f0_0000_0000_0000 ≤ a → a ≤ 0x7ff0_0000_0000_0000 → of_bits binary32 (cond s (2 ^ 31) 0 + 0x7f80_0000) ≡ convert binary32 (of_bits binary64 (signed binary64 s a))
  unfolding x m
  narrow_large h k = elim (lt_or_le a 0x7ff0_0000_0000_0000) [
    | inl l ↦
        inf_bits s
        ∙ sym (by_value (e1 a h) l ∙ round_large s (a % 2 ^ 52 + 2 ^ 52) (a / 2 ^ 52) m_lo m_hi (e2 a h) (e3 a h)
        ∙ units_inf binary32 s (closest (a % 2 ^ 52 + 2 ^ 52) (2 ^ 29)) (a / 2 ^ 52 - 897) (le_trans (pow_mono (e4 a h)) (le_trans (le_of_eq (pow-add 2 23 (a / 2 ^ 52 - 897))) (mul-le-mul_right (2 ^ (a / 2 ^ 52 - 897)) (closest_ge (a % 2 ^ 52 + 2 ^ 52) m_lo)))))
    | inr g ↦ inf_bits s ∙ sym (ap (convert binary32) (value_top binary64 s a g (e5 a k)) ∙ at_inf (a % 2 ^ 52) (e6 a g k))
  ]
    where
      e1 : (y : ℕ) → 0x47f0_0000_0000_0000 ≤ y → 2 ^ 52 ≤ y
      e1 y h = omega arith

      e2 : (y : ℕ) → 0x47f0_0000_0000_0000 ≤ y → 1 ≤ y / 2 ^ 52
      e2 y h = omega arith

      e3 : (y : ℕ) → 0x47f0_0000_0000_0000 ≤ y → 897 ≤ y / 2 ^ 52
      e3 y h = omega arith

      e4 : (y : ℕ) → 0x47f0_0000_0000_0000 ≤ y → 277 ≤ 23 + (y / 2 ^ 52 - 897)
      e4 y h = omega arith

      e5 : (y : ℕ) → y ≤ 0x7ff0_0000_0000_0000 → y < 2 ^ 63
      e5 y h = omega arith

      e6 : (y : ℕ) → 0x7ff0_0000_0000_0000 ≤ y → y ≤ 0x7ff0_0000_0000_0000 → y % 2 ^ 52 ≡ 0
      e6 y h k = omega arith

pub small_pattern : (m j : ℕ) → m < 2 ^ 53 → 29 ≤ j → closest m (2 ^ j) ≤ 2 ^ 24
small_pattern = closest_le

-- ---- `rounded`: q, q + 1 or the even one, by how the rest compares with half of an even unit
module _ (q r b : ℕ) (even : b ≡ 2 * (b / 2)) where
  stays : (o : Ordering) → Cmp o (r * 2) b → r < b / 2 → q ≡ nearest q o
  stays Ordering.lt c h = refl
  stays Prim.Native.Nat.Ordering.eq c h = absurd (no h c)
    where
      no : r < b / 2 → r * 2 ≡ b → ⊥
      no h c = omega arith
  stays Prim.Native.Nat.Ordering.gt c h = absurd (no h c)
    where
      no : r < b / 2 → b < r * 2 → ⊥
      no h c = omega arith

  goes_up : (o : Ordering) → Cmp o (r * 2) b → b / 2 < r → q + 1 ≡ nearest q o
  goes_up Ordering.lt c h = absurd (no h c)
    where
      no : b / 2 < r → r * 2 < b → ⊥
      no h c = omega arith
  goes_up Prim.Native.Nat.Ordering.eq c h = absurd (no h c)
    where
      no : b / 2 < r → r * 2 ≡ b → ⊥
      no h c = omega arith
  goes_up Prim.Native.Nat.Ordering.gt c h = omega arith

  ties : (o : Ordering) → Cmp o (r * 2) b → b / 2 ≤ r → r ≤ b / 2 → q + q % 2 ≡ nearest q o
  ties Ordering.lt c h k = absurd (no h c)
    where
      no : b / 2 ≤ r → r * 2 < b → ⊥
      no h c = omega arith
  ties Prim.Native.Nat.Ordering.eq c h k = refl
  ties Prim.Native.Nat.Ordering.gt c h k = absurd (no k c)
    where
      no : r ≤ b / 2 → b < r * 2 → ⊥
      no h c = omega arith

-- the unit as the machine has it
pub unit_is : (s : ℕ) → s < 64 → 1 * 2 ^ s % 2 ^ 64 ≡ 2 ^ s
unit_is s h = ap (λ (z : ℕ). z % 2 ^ 64) (native.Mathlib.Nat.one-mul (2 ^ s)) ∙ mod-eq_of_lt (lib.Pow.pow-lt h)

unit_even : (s : ℕ) → 0 < s → 2 ^ s ≡ 2 * (2 ^ s / 2)
unit_even zero h = absurd (native.Mathlib.Nat.lt_irrefl 0 h)
unit_even (suc s) h = go (2 ^ suc s) (2 ^ s) (pow-suc 2 s)
  where
    go : (x y : ℕ) → x ≡ y * 2 → x ≡ 2 * (x / 2)
    go x y e = omega arith

module _ (m s : ℕ) (S : 0 < s) (H : s < 64) where
  abbrev u : ℕ
  u = 1 * 2 ^ s % 2 ^ 64

  c : Cmp (compare (m % 2 ^ s * 2) (2 ^ s)) (m % 2 ^ s * 2) (2 ^ s)
  c = cmp (m % 2 ^ s * 2) (2 ^ s)

  pub rounded_lt : m % u < u / 2 → m / u ≡ closest m (2 ^ s)
  rounded_lt = subst (λ (z : ℕ). m % z < z / 2 → m / z ≡ closest m (2 ^ s)) (sym (unit_is s H)) (stays (m / 2 ^ s) (m % 2 ^ s) (2 ^ s) (unit_even s S) (compare (m % 2 ^ s * 2) (2 ^ s)) c)

  pub rounded_gt : u / 2 < m % u → m / u + 1 ≡ closest m (2 ^ s)
  rounded_gt = subst (λ (z : ℕ). z / 2 < m % z → m / z + 1 ≡ closest m (2 ^ s)) (sym (unit_is s H)) (goes_up (m / 2 ^ s) (m % 2 ^ s) (2 ^ s) (unit_even s S) (compare (m % 2 ^ s * 2) (2 ^ s)) c)

  pub rounded_eq : u / 2 ≤ m % u → m % u ≤ u / 2 → m / u + m / u % 2 ≡ closest m (2 ^ s)
  rounded_eq = subst (λ (z : ℕ). z / 2 ≤ m % z → m % z ≤ z / 2 → m / z + m / z % 2 ≡ closest m (2 ^ s)) (sym (unit_is s H)) (ties (m / 2 ^ s) (m % 2 ^ s) (2 ^ s) (unit_even s S) (compare (m % 2 ^ s * 2) (2 ^ s)) c)

  pub quotient_le : m / u ≤ m
  quotient_le = native.Mathlib.Nat.div-le_self m u

pub convert_nan : nan ≡ convert binary32 nan
unfolding convert
convert_nan = refl
