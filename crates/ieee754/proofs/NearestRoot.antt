-- The theorem of the square root, for any format: no other value of the format is as near to the root as `sqrt` is. It is the last
-- declaration of this file, `sqrt_is_nearest`. Assumes nothing.
use Rattle.std.proofs.Common.{◌≡◌, ℕ, zero, suc, ◌+◌, ◌-◌, ◌*◌, ◌/◌, ◌%◌, ◌^◌, ◌<◌, ◌≤◌, false, sym, refl, ap, ◌∙◌, subst, inl, inr, le_trans, le_of_eq, lt_of_lt_of_le, le-add_right, lt_of_le_of_lt, le_of_lt, lt_irrefl, mul-le-mul_right, mod-lt, mul_assoc, div-lt_iff_lt-mul, add-mul, mul-le-mul, lt_of_mul-lt-mul_right, eq-or-lt_of_le, mul-le-mul_left, mul-lt-mul_of_pos_right, mul-pos, mul-one, arith, pow_pos, pow_mono, pow-add, shl_lt}
use lib.Ieee.{Float, Format, binary32, binary64, prec, emax, low, hid, ones, size, of_bits}
use lib.Ieee.Digits.{size-lt, size-le, size_reaches}
use lib.Ieee.Exact.{HasValue, units_val}
use Rattle.ieee754_rounding.proofs.Comparison.{lt_or_le}
use Rattle.ieee754.specs.SquareRoot.{NearestValue, sqrt}
use Rattle.ieee754.specs.Code.WholeRoot.{NearestRoot}
use Rattle.ieee754.proofs.IntegerRoot.{sq_mul, root_at, some_root, near_lo, near_hi}
use Rattle.ieee754.proofs.Fields.{signed, infinity, hid_pos, value_low, value_normal}
use Rattle.ieee754.proofs.SquareRootCases.{sqrt_value}

sq_lt : (a b : ℕ) → a < b → a * a < b * b
sq_lt a b h = lt_of_le_of_lt (mul-le-mul_left a (le_of_lt h)) (mul-lt-mul_of_pos_right h (lt_of_le_of_lt Prim.Native.Nat.zero-le h))

-- t ≤ 2 * r - 1 is below 2 * √M
under_root : (M r t : ℕ) → NearestRoot M r → t < 2 * r → t * t < 4 * M
under_root M zero t w h = absurd (no t h)
  where
    no : (x : ℕ) → x < 0 → ⊥
    no x h = omega arith
under_root M (suc r) t w h =
    let a : t * t ≤ (2 * r + 1) * (2 * r + 1) = mul-le-mul (odd r t h) (odd r t h) in
    let b = w.below in
    omega arith
  where
    odd : (x y : ℕ) → y < 2 * suc x → y ≤ 2 * x + 1
    odd x y h = omega arith

over_root : (M r t : ℕ) → NearestRoot M r → 2 * r < t → 4 * M < t * t
over_root M r t w h =
    let a : (2 * r + 1) * (2 * r + 1) ≤ t * t = mul-le-mul (next r t h) (next r t h) in
    let b = w.above in
    omega arith
  where
    next : (x y : ℕ) → 2 * x < y → 2 * x + 1 ≤ y
    next x y h = omega arith

module _ (f : Format) (M k n r : ℕ) (is : n ≡ M * (2 ^ k * 2 ^ k)) (lo : 2 ^ (prec f - 1) * 2 ^ (prec f - 1) ≤ M) (w : NearestRoot M r) where
  abbrev H : ℕ
  H = 2 ^ (prec f - 1)

  abbrev W : ℕ
  W = 2 ^ k * 2 ^ k

  W-pos : 0 < W
  W-pos = mul-pos (pow_pos k) (pow_pos k)

  r_lo : H ≤ r
  r_lo = near_lo H M r lo w

  four : 4 * n ≡ 4 * M * W
  four = ap (λ (z : ℕ). 4 * z) is ∙ sym (mul_assoc 4 M W)

  -- a value with a larger last place is a multiple of 2 ^ k; one with a smaller lies at most at H * 2 ^ k
  multiple : (a j : ℕ) → k ≤ j → a * 2 ^ j ≡ a * 2 ^ (j - k) * 2 ^ k
  multiple a j h = ap (λ (z : ℕ). a * 2 ^ z) (sym (back j k h)) ∙ ap (λ (z : ℕ). a * z) (pow-add 2 (j - k) k) ∙ sym (mul_assoc a (2 ^ (j - k)) (2 ^ k))
    where
      back : (x y : ℕ) → y ≤ x → x - y + y ≡ x
      back x y h = omega arith

  small : (a j : ℕ) → a < 2 ^ prec f → j < k → a * 2 ^ j < H * 2 ^ k
  small a j A h = lt_of_lt_of_le (shl_lt (prec f) j A) (le_trans (pow_mono (room f j k h)) (le_of_eq (pow-add 2 (prec f - 1) k)))
    where
      room : (g : Format) (x y : ℕ) → x < y → prec g + x ≤ prec g - 1 + y
      room binary32 x y h = omega arith
      room binary64 x y h = omega arith

  sum : (b : ℕ) → r * 2 ^ k + b * 2 ^ k ≡ (r + b) * 2 ^ k
  sum b = sym (add-mul r b (2 ^ k))

  squared : (b : ℕ) → (r * 2 ^ k + b * 2 ^ k) * (r * 2 ^ k + b * 2 ^ k) ≡ (r + b) * (r + b) * W
  squared b = ap (λ (z : ℕ). z * z) (sum b) ∙ sq_mul (r + b) (2 ^ k)

  goes_above : (b : ℕ) → r < b → 4 * n < (r * 2 ^ k + b * 2 ^ k) * (r * 2 ^ k + b * 2 ^ k)
  goes_above b h =
      lt_of_le_of_lt (le_of_eq four)
      (lt_of_lt_of_le (mul-lt-mul_of_pos_right (over_root M r (r + b) w (dbl r b h)) W-pos) (le_of_eq (sym (squared b))))
    where
      dbl : (x y : ℕ) → x < y → 2 * x < x + y
      dbl x y h = omega arith

  goes_below : (b : ℕ) → b < r → (r * 2 ^ k + b * 2 ^ k) * (r * 2 ^ k + b * 2 ^ k) < 4 * n
  goes_below b h =
      lt_of_le_of_lt (le_of_eq (squared b))
      (lt_of_lt_of_le (mul-lt-mul_of_pos_right (under_root M r (r + b) w (dbl r b h)) W-pos) (le_of_eq (sym four)))
    where
      dbl : (x y : ℕ) → y < x → x + y < 2 * x
      dbl x y h = omega arith

  -- at H, the least r, the place below is smaller, but √n lies above
  at_least : (c : ℕ) → c < H * 2 ^ k → (r * 2 ^ k + c) * (r * 2 ^ k + c) < 4 * n
  at_least c h = elim (eq-or-lt_of_le r_lo) [
    | inl e ↦
        lt_of_lt_of_le (sq_lt (r * 2 ^ k + c) (r * 2 ^ k + H * 2 ^ k) (add (r * 2 ^ k) c (H * 2 ^ k) h))
        (le_trans (le_of_eq (squared H)) (le_trans (mul-le-mul_right W (le_trans (le_of_eq (ap (λ (z : ℕ). (z + H) * (z + H)) (sym e) ∙ twice H)) (mul-le-mul_left 4 lo))) (le_of_eq (sym four))))
    | inr l ↦ native.Mathlib.Nat.lt_trans (sq_lt (r * 2 ^ k + c) (r * 2 ^ k + H * 2 ^ k) (add (r * 2 ^ k) c (H * 2 ^ k) h)) (goes_below H l)
  ]
    where
      add : (x y z : ℕ) → y < z → x + y < x + z
      add x y z h = omega arith

      twice : (x : ℕ) → (x + x) * (x + x) ≡ 4 * (x * x)
      twice x = omega arith

  pub nearest_root : NearestValue f n (r * 2 ^ k)
  nearest_root = record {
    above = λ a j A h. elim (lt_or_le j k) [
      | inl l ↦ absurd (lt_irrefl (r * 2 ^ k) (native.Mathlib.Nat.lt_trans h (lt_of_lt_of_le (small a j A l) (mul-le-mul_right (2 ^ k) r_lo))))
      | inr g ↦
          subst (λ (z : ℕ). 4 * n < (r * 2 ^ k + z) * (r * 2 ^ k + z)) (sym (multiple a j g))
          (goes_above (a * 2 ^ (j - k)) (lt_of_mul-lt-mul_right (2 ^ k) (lt_of_lt_of_le h (le_of_eq (multiple a j g)))))
    ];
    below = λ a j A h. elim (lt_or_le j k) [
      | inl l ↦ at_least (a * 2 ^ j) (small a j A l)
      | inr g ↦
          subst (λ (z : ℕ). (r * 2 ^ k + z) * (r * 2 ^ k + z) < 4 * n) (sym (multiple a j g))
          (goes_below (a * 2 ^ (j - k)) (lt_of_mul-lt-mul_right (2 ^ k) (lt_of_le_of_lt (le_of_eq (sym (multiple a j g))) h)))
    ];
  }

-- ---- n = m * 2 ^ E, with a full significand m: n is M * 4 ^ k, with M of 2 * prec - 1 or 2 * prec digits
module _ (f : Format) (m E : ℕ) (lo : hid f ≤ m) (hi : m < 2 ^ prec f) (E-lo : prec f - 1 ≤ E) where
  abbrev e : ℕ
  e = E - (prec f - 1)

  abbrev pub k_of : ℕ
  k_of = e / 2

  abbrev pub M-of : ℕ
  M-of = m * 2 ^ (prec f - 1 + e % 2)

  pub split_of : m * 2 ^ E ≡ M-of * (2 ^ k_of * 2 ^ k_of)
  split_of =
      ap (λ (z : ℕ). m * 2 ^ z) (parts E (prec f - 1) E-lo)
      ∙ ap (λ (z : ℕ). m * z) (pow-add 2 (prec f - 1 + e % 2) (e / 2 + e / 2) ∙ ap (λ (z : ℕ). 2 ^ (prec f - 1 + e % 2) * z) (pow-add 2 (e / 2) (e / 2)))
      ∙ sym (mul_assoc m (2 ^ (prec f - 1 + e % 2)) (2 ^ (e / 2) * 2 ^ (e / 2)))
    where
      parts : (x y : ℕ) → y ≤ x → x ≡ y + (x - y) % 2 + ((x - y) / 2 + (x - y) / 2)
      parts x y h = omega arith

  pub M-of-lo : 2 ^ (prec f - 1) * 2 ^ (prec f - 1) ≤ M-of
  M-of-lo = mul-le-mul lo (pow_mono (le-add_right (prec f - 1) (e % 2)))

  pub M-of-hi : M-of < 2 ^ prec f * 2 ^ prec f
  M-of-hi = lt_of_lt_of_le (mul-lt-mul_of_pos_right hi (pow_pos (prec f - 1 + e % 2))) (mul-le-mul_left (2 ^ prec f) (pow_mono (digit f e)))
    where
      digit : (g : Format) (y : ℕ) → prec g - 1 + y % 2 ≤ prec g
      digit binary32 y = omega arith
      digit binary64 y = omega arith

-- ---- every positive finite value of a format

-- the square root of x, which is u units, is nearer to the root than any other value of the format
pub record Found (f : Format) (x : Float) (u : ℕ) : Type 0 where
  pub g : ℕ
  pub value : HasValue (sqrt f x) false g (2 ^ low f)
  pub nearest : NearestValue f (u * 2 ^ low f) g

found : (f : Format) (x : Float) (u m E : ℕ) → HasValue x false u (2 ^ low f) → 0 < u → hid f ≤ m → m < 2 ^ prec f → prec f - 1 ≤ E → E < ones f + low f → u * 2 ^ low f ≡ m * 2 ^ E → Found f x u
found f x u m E v U lo hi E-lo E-hi e =
    let n = u * 2 ^ low f in
    let M = M-of f m E lo hi E-lo in
    let k = k_of f m E lo hi E-lo in
    let is : n ≡ M * (2 ^ k * 2 ^ k) = e ∙ split_of f m E lo hi E-lo in
    let s = some_root f M k n is (M-of-lo f m E lo hi E-lo) (M-of-hi f m E lo hi E-lo) in
    let r = s.0 in
    record {
      g = r * 2 ^ k;
      value =
          subst (λ (z : Float). HasValue z false (r * 2 ^ k) (2 ^ low f)) (sym (sqrt_value f x u v U ∙ root_at f M k n is (M-of-lo f m E lo hi E-lo) (M-of-hi f m E lo hi E-lo) r s.1))
          (units_val f false r k (lt_of_lt_of_le (shl_lt (suc (prec f)) k (more f r (near_hi (2 ^ prec f) M r (M-of-hi f m E lo hi E-lo) s.1))) (pow_mono (room f E E-hi))));
      nearest = nearest_root f M k n r is (M-of-lo f m E lo hi E-lo) s.1;
    }
  where
    more : (g : Format) (y : ℕ) → y ≤ 2 ^ prec g → y < 2 ^ suc (prec g)
    more binary32 y h = omega arith
    more binary64 y h = omega arith

    room : (g : Format) (y : ℕ) → y < ones g + low g → suc (prec g) + (y - (prec g - 1)) / 2 ≤ low g + suc (emax g)
    room binary32 y h = omega arith
    room binary64 y h = omega arith

module _ (f : Format) (a : ℕ) (A : 0 < a) where
  x : Float
  x = of_bits f (signed f false a)

  -- a subnormal: its significand is shifted up past its leading zeros
  low_found : a < hid f → Found f x (a * 2 ^ 0)
  unfolding x
  low_found l =
      let j = size a - 1 in
      let z = prec f - 1 - j in
      let full : 2 ^ j ≤ a = size_reaches a j (below (size a) some) in
      found f (of_bits f (signed f false a)) (a * 2 ^ 0) (a * 2 ^ z) (low f - z) (value_low f false a l) (mul-pos A (pow_pos 0))
      (le_trans (le_of_eq (ap (λ (y : ℕ). 2 ^ y) (sym join) ∙ pow-add 2 j z)) (mul-le-mul_right (2 ^ z) full))
      (lt_of_lt_of_le (shl_lt (size a) z (size-lt a)) (pow_mono (le_of_eq join')))
      (e-lo f j) (e-hi f z)
      (ap (λ (y : ℕ). y * 2 ^ low f) (mul-one a) ∙ ap (λ (y : ℕ). a * 2 ^ y) (sym (whole f j)) ∙ ap (λ (y : ℕ). a * y) (pow-add 2 z (low f - z)) ∙ sym (mul_assoc a (2 ^ z) (2 ^ (low f - z))))
    where
      some : 0 < size a
      some = positive (size a) (λ (h : size a ≡ 0). no a A (lt_of_lt_of_le (size-lt a) (le_of_eq (ap (λ (y : ℕ). 2 ^ y) h))))
        where
          no : (y : ℕ) → 0 < y → y < 2 ^ 0 → ⊥
          no y h k = omega arith

          positive : (y : ℕ) → (y ≡ 0 → ⊥) → 0 < y
          positive zero h = absurd (h refl)
          positive (suc y) h = native.Mathlib.Nat.zero-lt-suc y

      below : (y : ℕ) → 0 < y → y - 1 < y
      below y h = omega arith

      few : size a ≤ prec f - 1
      few = size-le a (prec f - 1) l

      join : size a - 1 + (prec f - 1 - (size a - 1)) ≡ prec f - 1
      join = sum (size a) (prec f - 1) some few
        where
          sum : (s p : ℕ) → 0 < s → s ≤ p → s - 1 + (p - (s - 1)) ≡ p
          sum s p h k = omega arith

      join' : size a + (prec f - 1 - (size a - 1)) ≡ prec f
      join' = sum f (size a) some few
        where
          sum : (g : Format) (s : ℕ) → 0 < s → s ≤ prec g - 1 → s + (prec g - 1 - (s - 1)) ≡ prec g
          sum binary32 s h k = omega arith
          sum binary64 s h k = omega arith

      e-lo : (g : Format) (j : ℕ) → prec g - 1 ≤ low g - (prec g - 1 - j)
      e-lo binary32 j = omega arith
      e-lo binary64 j = omega arith

      e-hi : (g : Format) (z : ℕ) → low g - z < ones g + low g
      e-hi binary32 z = omega arith
      e-hi binary64 z = omega arith

      whole : (g : Format) (j : ℕ) → prec g - 1 - j + (low g - (prec g - 1 - j)) ≡ low g
      whole binary32 j = omega arith
      whole binary64 j = omega arith

  normal_found : hid f ≤ a → a < infinity f → Found f x ((hid f + a % hid f) * 2 ^ (a / hid f - 1))
  unfolding x
  normal_found g h =
      let d = hid f + a % hid f in
      let q = a / hid f - 1 in
      found f (of_bits f (signed f false a)) (d * 2 ^ q) d (q + low f) (value_normal f false a g h) (mul-pos (lt_of_lt_of_le (hid_pos f) (le-add_right (hid f) (a % hid f))) (pow_pos q))
      (le-add_right (hid f) (a % hid f)) (lead f (a % hid f) (mod-lt a (hid_pos f))) (e-lo f q) (e-hi f (a / hid f) ((div-lt_iff_lt-mul (hid_pos f)).1 h))
      (mul_assoc d (2 ^ q) (2 ^ low f) ∙ ap (λ (z : ℕ). d * z) (sym (pow-add 2 q (low f))))
    where
      lead : (g : Format) (y : ℕ) → y < hid g → hid g + y < 2 ^ prec g
      lead binary32 y h = omega arith
      lead binary64 y h = omega arith

      e-lo : (g : Format) (y : ℕ) → prec g - 1 ≤ y + low g
      e-lo binary32 y = omega arith
      e-lo binary64 y = omega arith

      e-hi : (g : Format) (y : ℕ) → y < ones g → y - 1 + low g < ones g + low g
      e-hi binary32 y h = omega arith
      e-hi binary64 y h = omega arith

-- THE THEOREM. Of every positive finite value of a format, given by its pattern a, the square root is nearer to the exact root than any
-- other value of the format.
pub sqrt_is_nearest : (f : Format) (a : ℕ) → 0 < a → a < infinity f → (u : ℕ) × HasValue (of_bits f (signed f false a)) false u (2 ^ low f) × Found f (of_bits f (signed f false a)) u
unfolding x
sqrt_is_nearest f a A h = elim (lt_or_le a (hid f)) [
  | inl l ↦ (a * 2 ^ 0, value_low f false a l, low_found f a A l)
  | inr g ↦ ((hid f + a % hid f) * 2 ^ (a / hid f - 1), value_normal f false a g h, normal_found f a A g h)
]
