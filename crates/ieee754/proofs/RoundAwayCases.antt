-- Rounding to a whole number, halves away from zero, by the ranges of the pattern that `ieee754::integral::round` tells apart. For any format,
-- but for the half as its u64 shift has it. Assumes nothing.
use Rattle.std.proofs.Common.{◌≡◌, ℕ, suc, ◌+◌, ◌-◌, ◌*◌, ◌/◌, ◌%◌, ◌^◌, ◌<◌, ◌≤◌, Bool, true, false, cond, T, eqb, pos, sym, refl, ap, ◌∙◌, subst, inl, inr, le_trans, le_of_eq, lt_of_lt_of_le, lt_of_le_of_lt, le_of_lt, mod-eq_of_lt, zero-lt-suc, mul_assoc, add_comm, mul-pos, one-mul, mul-one, mul_right_comm, arith, lit≤, le→leb, pow_pos, pow_mono, pow-add, shl_lt}
use native.Mathlib.Nat.{div-eq_of_lt, eq_of_mul-eq-mul_right}
use lib.Pow.{pow-lt}
use lib.Ieee.{Float, nan, inf, fin, Format, binary32, binary64, prec, emax, low, hid, top, up, down, fits, neg, round, of_bits, to_bits, of_int, in_float}
use lib.Ieee.Fits.{down_pos, round-fits}
use lib.Ieee.Exact.{HasValue, round_exact}
use lib.Ieee.Nearest.{div_same}
use lib.Ieee.Back.{whole_unique}
use Rattle.ieee754_rounding.proofs.Opposites.{neg_round}
use Rattle.ieee754_rounding.proofs.Comparison.{lt_or_le}
use Rattle.ieee754.specs.Integral.{rounded_away}
use Rattle.ieee754.specs.Code.WholeAway.{whole_away}
use Rattle.ieee754.proofs.Fields.{signed, infinity, value_low, value_normal, value_top, by_plus, by_minus}

pub away_value : (x : Float) (s : Bool) (n c : ℕ) → 0 < c → HasValue x s n c → whole_away x ≡ (2 * n + c) / (2 * c)
unfolding whole_away
away_value nan s n c C v = absurd v
away_value (inf t) s n c C v = absurd v
away_value (fin t m e) s n c C v =
    div_same (2 * (m * up e) + down e) (2 * down e) (2 * n + c) (2 * c) (mul-pos (zero-lt-suc 1) (down_pos e)) (mul-pos (zero-lt-suc 1) C) (cross (m * up e) (down e) n c v.1)
  where
    cross : (u d n c : ℕ) → u * c ≡ n * d → (2 * u + d) * (2 * c) ≡ (2 * n + c) * (2 * d)
    cross u d n c h = omega arith

-- m * 2 ^ j units, of which 2 ^ l make 1, with l = j + t: m / 2 ^ t, and the half is 2 ^ (t - 1)
away_shift : (l m j t : ℕ) → j + suc t ≡ l → (2 * (m * 2 ^ j) + 2 ^ l) / (2 * 2 ^ l) ≡ (m + 2 ^ t) / 2 ^ suc t
away_shift l m j t e =
    div_same (2 * (m * 2 ^ j) + 2 ^ l) (2 * 2 ^ l) (m + 2 ^ t) (2 ^ suc t) (mul-pos (zero-lt-suc 1) (pow_pos l)) (pow_pos (suc t))
    (subst (λ (z : ℕ). (2 * (m * 2 ^ j) + z) * 2 ^ suc t ≡ (m + 2 ^ t) * (2 * z)) (sym (pow-add 2 j (suc t)) ∙ ap (λ (z : ℕ). 2 ^ z) e) (go m (2 ^ j) (2 ^ t) (2 ^ suc t) (native.Mathlib.Nat.pow-succ' 2 t)))
  where
    go : (m a h u : ℕ) → u ≡ 2 * h → (2 * (m * a) + a * u) * u ≡ (m + h) * (2 * (a * u))
    go m a h u e = ap (λ (z : ℕ). (2 * (m * a) + a * z) * z) e ∙ lin m a h ∙ sym (ap (λ (z : ℕ). (m + h) * (2 * (a * z))) e)
      where
        lin : (m a h : ℕ) → (2 * (m * a) + a * (2 * h)) * (2 * h) ≡ (m + h) * (2 * (a * (2 * h)))
        lin m a h = omega arith

small_half : (n c : ℕ) → 2 * n < c → (2 * n + c) / (2 * c) ≡ 0
small_half n c h = div-eq_of_lt (sum n c h)
  where
    sum : (n c : ℕ) → 2 * n < c → 2 * n + c < 2 * c
    sum n c h = omega arith

lead : (f : Format) (a : ℕ) → hid f + a % hid f < 2 ^ prec f
lead binary32 a = omega arith
lead binary64 a = omega arith

-- the pattern from which on every value is whole
abbrev pub whole_from : Format → ℕ
whole_from f = suc (low f) * hid f

-- ---- below a half

pub away_small : (f : Format) (s : Bool) (a : ℕ) → a / hid f < emax f - 1 → 0 ≡ whole_away (of_bits f (signed f s a))
away_small f s a h = elim (lt_or_le a (hid f)) [
  | inl l ↦ sym (away_value (of_bits f (signed f s a)) s (a * 2 ^ 0) (2 ^ low f) (pow_pos (low f)) (value_low f s a l) ∙ small_half (a * 2 ^ 0) (2 ^ low f) (twice (a * 2 ^ 0) (hid f) (2 ^ low f) (lt_of_le_of_lt (le_of_eq (mul-one a)) l) (room f)))
  | inr g ↦ sym (away_value (of_bits f (signed f s a)) s ((hid f + a % hid f) * 2 ^ (a / hid f - 1)) (2 ^ low f) (pow_pos (low f)) (value_normal f s a g (e1 f a h))
      ∙ small_half ((hid f + a % hid f) * 2 ^ (a / hid f - 1)) (2 ^ low f) (twice ((hid f + a % hid f) * 2 ^ (a / hid f - 1)) (2 ^ (low f - 1)) (2 ^ low f) (lt_of_lt_of_le (shl_lt (prec f) (a / hid f - 1) (lead f a)) (pow_mono (e2 f a h))) (halves f)))
]
  where
    twice : (x y z : ℕ) → x < y → 2 * y ≤ z → 2 * x < z
    twice x y z a b = omega arith

    room : (f : Format) → 2 * hid f ≤ 2 ^ low f
    room binary32 = lit≤ tt
    room binary64 = lit≤ tt

    halves : (f : Format) → 2 * 2 ^ (low f - 1) ≤ 2 ^ low f
    halves binary32 = lit≤ tt
    halves binary64 = lit≤ tt

    e1 : (f : Format) (y : ℕ) → y / hid f < emax f - 1 → y < infinity f
    e1 binary32 y h = omega arith
    e1 binary64 y h = omega arith

    e2 : (f : Format) (y : ℕ) → y / hid f < emax f - 1 → prec f + (y / hid f - 1) ≤ low f - 1
    e2 binary32 y h = omega arith
    e2 binary64 y h = omega arith

-- ---- with a half, and not yet whole

pub away_normal : (f : Format) (s : Bool) (a : ℕ) → emax f - 1 ≤ a / hid f → a < whole_from f → (a % hid f + hid f + 2 ^ (low f - a / hid f)) / 2 ^ (suc (low f) - a / hid f) ≡ whole_away (of_bits f (signed f s a))
away_normal f s a lo hi =
    sym (away_value (of_bits f (signed f s a)) s ((hid f + a % hid f) * 2 ^ (a / hid f - 1)) (2 ^ low f) (pow_pos (low f)) (value_normal f s a (e1 f a lo) (e2 f a hi))
    ∙ away_shift (low f) (hid f + a % hid f) (a / hid f - 1) (low f - a / hid f) (e3 f a lo hi)
    ∙ ap (λ (z : ℕ). (z + 2 ^ (low f - a / hid f)) / 2 ^ suc (low f - a / hid f)) (add_comm (hid f) (a % hid f))
    ∙ ap (λ (z : ℕ). (a % hid f + hid f + 2 ^ (low f - a / hid f)) / 2 ^ z) (e4 f a hi))
  where
    e1 : (f : Format) (y : ℕ) → emax f - 1 ≤ y / hid f → hid f ≤ y
    e1 binary32 y h = omega arith
    e1 binary64 y h = omega arith

    e2 : (f : Format) (y : ℕ) → y < whole_from f → y < infinity f
    e2 binary32 y h = omega arith
    e2 binary64 y h = omega arith

    e3 : (f : Format) (y : ℕ) → emax f - 1 ≤ y / hid f → y < whole_from f → y / hid f - 1 + suc (low f - y / hid f) ≡ low f
    e3 binary32 y h k = omega arith
    e3 binary64 y h k = omega arith

    e4 : (f : Format) (y : ℕ) → y < whole_from f → suc (low f - y / hid f) ≡ suc (low f) - y / hid f
    e4 binary32 y h = omega arith
    e4 binary64 y h = omega arith

-- the half as a u64 is shifted
module _ (a : ℕ) (lo : 1022 ≤ a / 2 ^ 52) where
  half_is : 1 * 2 ^ (1074 - a / 2 ^ 52) % 2 ^ 64 ≡ 2 ^ (1074 - a / 2 ^ 52)
  half_is = ap (λ (z : ℕ). z % 2 ^ 64) (one-mul (2 ^ (1074 - a / 2 ^ 52))) ∙ mod-eq_of_lt (pow-lt (e a lo))
    where
      e : (y : ℕ) → 1022 ≤ y / 2 ^ 52 → 1074 - y / 2 ^ 52 < 64
      e y h = omega arith

  pub half_small : 1 * 2 ^ (1074 - a / 2 ^ 52) % 2 ^ 64 ≤ 2 ^ 52
  half_small = subst (λ (z : ℕ). z ≤ 2 ^ 52) (sym half_is) (pow_mono (e a lo))
    where
      e : (y : ℕ) → 1022 ≤ y / 2 ^ 52 → 1074 - y / 2 ^ 52 ≤ 52
      e y h = omega arith

  pub away_shifted : (s : Bool) → a < 0x4330_0000_0000_0000 → (a % 2 ^ 52 + 2 ^ 52 + 1 * 2 ^ (1074 - a / 2 ^ 52) % 2 ^ 64) / 2 ^ (1075 - a / 2 ^ 52) ≡ whole_away (of_bits binary64 (signed binary64 s a))
  away_shifted s hi = ap (λ (z : ℕ). (a % 2 ^ 52 + 2 ^ 52 + z) / 2 ^ (1075 - a / 2 ^ 52)) half_is ∙ away_normal binary64 s a lo hi

pub away_le : (x k : ℕ) → x < 2 ^ 54 → 1 ≤ k → x / 2 ^ k ≤ 2 ^ 53
away_le x k h K = le_of_lt ((native.Mathlib.Nat.div-lt_iff_lt-mul (pow_pos k)).1 (lt_of_lt_of_le h (le_trans (pow_mono (sum k K)) (le_of_eq (pow-add 2 53 k)))))
  where
    sum : (y : ℕ) → 1 ≤ y → 54 ≤ 53 + y
    sum y h = omega arith

-- ---- by the sign

of_int_is : (f : Format) (n : ℕ) → of_int f (pos n) ≡ round f false n 1
unfolding of_int
of_int_is f n = refl

away_is : (f : Format) (x : Float) (s : Bool) (n c : ℕ) → HasValue x s n c → rounded_away f x ≡ round f s (whole_away x) 1
unfolding rounded_away whole_away
away_is f nan s n c v = absurd v
away_is f (inf t) s n c v = absurd v
away_is f (fin t m e) s n c v = ap (λ (z : Bool). round f z (whole_away (fin t m e)) 1) v.0

-- x has a value where its pattern is below the infinity's
any_value : (f : Format) (s : Bool) (a : ℕ) → a < infinity f → (n : ℕ) × HasValue (of_bits f (signed f s a)) s n (2 ^ low f)
any_value f s a h = elim (lt_or_le a (hid f)) [ inl l ↦ (a * 2 ^ 0, value_low f s a l) | inr g ↦ ((hid f + a % hid f) * 2 ^ (a / hid f - 1), value_normal f s a g h) ]

whole_le : (f : Format) → whole_from f ≤ infinity f
whole_le binary32 = lit≤ tt
whole_le binary64 = lit≤ tt

pub away_in : (f : Format) (w : ℕ) → w ≤ 2 ^ prec f → T (in_float f (pos w))
unfolding in_float
away_in f w h = le→leb w (2 ^ prec f) h

pub away_plus : (f : Format) (a w : ℕ) → a < whole_from f → w ≡ whole_away (of_bits f (signed f false a)) → of_int f (pos w) ≡ rounded_away f (of_bits f (signed f false a))
away_plus f a w h e =
    let v = any_value f false a (lt_of_lt_of_le h (whole_le f)) in
    of_int_is f w ∙ ap (λ (z : ℕ). round f false z 1) e ∙ sym (away_is f (of_bits f (signed f false a)) false v.0 (2 ^ low f) v.1)

pub away_minus : (f : Format) (a w : ℕ) → a < whole_from f → w ≡ whole_away (of_bits f (signed f true a)) → neg (of_int f (pos w)) ≡ rounded_away f (of_bits f (signed f true a))
away_minus f a w h e =
    let v = any_value f true a (lt_of_lt_of_le h (whole_le f)) in
    ap neg (of_int_is f w) ∙ neg_round f false w 1 ∙ ap (λ (z : ℕ). round f true z 1) e ∙ sym (away_is f (of_bits f (signed f true a)) true v.0 (2 ^ low f) v.1)

-- ---- whole already

whole_value : (x : Float) (s : Bool) (w l : ℕ) → 0 < l → HasValue x s (w * l) l → HasValue x s w 1
whole_value nan s w l L v = v
whole_value (inf t) s w l L v = v
whole_value (fin t m e) s w l L v = (v.0, mul-one (m * up e) ∙ eq_of_mul-eq-mul_right l L (m * up e) (w * down e) (v.1 ∙ mul_right_comm w l (down e)))

top_away : (f : Format) (b s : Bool) → cond b (inf s) nan ≡ rounded_away f (cond b (inf s) nan)
unfolding rounded_away
top_away f true s = refl
top_away f false s = refl

away_whole : (f : Format) (s : Bool) (a : ℕ) → whole_from f ≤ a → a < top f → T (fits f (of_bits f (signed f s a))) → of_bits f (signed f s a) ≡ rounded_away f (of_bits f (signed f s a))
away_whole f s a h k F = elim (lt_or_le a (infinity f)) [
  | inl l ↦
      let x = of_bits f (signed f s a) in
      let q = hid f + a % hid f in
      let j = a / hid f - 1 in
      let w = q * 2 ^ (a / hid f - suc (low f)) in
      let n_is : q * 2 ^ j ≡ w * 2 ^ low f = ap (λ (z : ℕ). q * 2 ^ z) (e1 f a h) ∙ ap (λ (z : ℕ). q * z) (pow-add 2 (a / hid f - suc (low f)) (low f)) ∙ sym (mul_assoc q (2 ^ (a / hid f - suc (low f))) (2 ^ low f)) in
      let v : HasValue x s (w * 2 ^ low f) (2 ^ low f) = subst (λ (z : ℕ). HasValue x s z (2 ^ low f)) n_is (value_normal f s a (e2 f a h) l) in
      let w-is : whole_away x ≡ w = away_value x s (w * 2 ^ low f) (2 ^ low f) (pow_pos (low f)) v ∙ half-off w (2 ^ low f) (pow_pos (low f)) in
      whole_unique f x (round f s w 1) s w F (round-fits f s w 1) (whole_value x s w (2 ^ low f) (pow_pos (low f)) v)
      (round_exact f s w 1 q j (zero-lt-suc 0) (lead f a) (lt_of_lt_of_le (shl_lt (prec f) j (lead f a)) (pow_mono (e3 f a l))) (sym n_is ∙ sym (mul-one (q * 2 ^ j))))
      ∙ sym (away_is f x s (w * 2 ^ low f) (2 ^ low f) v ∙ ap (λ (z : ℕ). round f s z 1) w-is)
  | inr g ↦ subst (λ (z : Float). z ≡ rounded_away f z) (sym (value_top f s a g k)) (top_away f (eqb (a % hid f) 0) s)
]
  where
    e1 : (f : Format) (y : ℕ) → whole_from f ≤ y → y / hid f - 1 ≡ y / hid f - suc (low f) + low f
    e1 binary32 y h = omega arith
    e1 binary64 y h = omega arith

    e2 : (f : Format) (y : ℕ) → whole_from f ≤ y → hid f ≤ y
    e2 binary32 y h = omega arith
    e2 binary64 y h = omega arith

    e3 : (f : Format) (y : ℕ) → y < infinity f → prec f + (y / hid f - 1) ≤ low f + suc (emax f)
    e3 binary32 y h = omega arith
    e3 binary64 y h = omega arith

    half-off : (w c : ℕ) → 0 < c → (2 * (w * c) + c) / (2 * c) ≡ w
    half-off w c C =
        native.Mathlib.Nat.div-eq_of_lt-le (2 * c) (lo w c) (hi w c C)
      where
        lo : (w c : ℕ) → w * (2 * c) ≤ 2 * (w * c) + c
        lo w c = omega arith

        hi : (w c : ℕ) → 0 < c → 2 * (w * c) + c < (w + 1) * (2 * c)
        hi w c C = omega arith

pub round_away_nan : (f : Format) → nan ≡ rounded_away f nan
unfolding rounded_away
round_away_nan f = refl

-- an x that the format holds
module _ (f : Format) (x : Float) (F : T (fits f x)) where
  abbrev bits : ℕ
  bits = to_bits f x

  whole_at : (s : Bool) → of_bits f (signed f s (bits % top f)) ≡ x → whole_from f ≤ bits % top f → x ≡ rounded_away f x
  whole_at s e h = subst (λ (z : Float). z ≡ rounded_away f z) e (away_whole f s (bits % top f) h (rest f bits) (subst (λ (z : Float). T (fits f z)) (sym e) F))
    where
      rest : (g : Format) (b : ℕ) → b % top g < top g
      rest binary32 b = omega arith
      rest binary64 b = omega arith

  pub stays_whole : whole_from f ≤ bits % top f → x ≡ rounded_away f x
  stays_whole h = elim (lt_or_le bits (top f)) [ inl l ↦ whole_at false (by_plus f x F l) h | inr g ↦ whole_at true (by_minus f x F g) h ]
