-- `sqrt binary64` at each kind of pattern, and the pattern of the root. Assumes nothing.
use Rattle.std.proofs.Common.{◌≡◌, ℕ, zero, suc, ◌+◌, ◌-◌, ◌*◌, ◌/◌, ◌%◌, ◌^◌, ◌<◌, ◌≤◌, Bool, true, false, cond, T, eqb, sym, refl, ap, ◌∙◌, subst, inl, inr, true≢false, le_of_eq, lt_of_lt_of_le, lt_irrefl, mod-lt, mul_assoc, mul-pos, zero-add, zero-mul, mul-one, mul-div_cancel, arith, pow_pos, pow_mono, pow-add, shl_lt}
use lib.Count.{count_leading_zeros}
use lib.Ieee.{Float, nan, inf, fin, Format, binary64, low, up, down, of_bits, to_bits, fits}
use lib.Ieee.Fits.{down_pos}
use lib.Ieee.Bits.{of_bits-to_bits, to_bits-lt}
use lib.Ieee.Exact.{HasValue}
use Rattle.ieee754_rounding.proofs.Comparison.{lt_or_le}
use Rattle.ieee754.specs.SquareRoot.{round_root, sqrt}
use Rattle.ieee754.specs.Code.WholeRoot.{NearestRoot}
use Rattle.ieee754.proofs.IntegerRoot.{root_at, near_lo, near_hi}
use Rattle.ieee754.proofs.Patterns.{units_bits}
use Rattle.ieee754.proofs.Fields.{signed, value_low, value_normal, value_top}
use Rattle.ieee754.proofs.LeadingZeros.{zeros, whole}

-- ---- the pattern of the root of m * 2 ^ (p + 52)
module _ (m p : ℕ) (lo : 2 ^ 52 ≤ m) (hi : m < 2 ^ 53) (P : p < 3072) where
  abbrev pub M : ℕ
  M = m * (p % 2 + 1) * 2 ^ 52

  bit : (d : ℕ) → d < 2 → (2 ^ d ≡ d + 1) × (m ≤ m * (d + 1)) × (m * (d + 1) ≤ 2 * m)
  bit zero h = (refl, omega arith, omega arith)
  bit (suc zero) h = (refl, omega arith, omega arith)
  bit (suc (suc d)) h = absurd (no d h)
    where
      no : (x : ℕ) → suc (suc x) < 2 → ⊥
      no x h = omega arith

  b : (2 ^ (p % 2) ≡ p % 2 + 1) × (m ≤ m * (p % 2 + 1)) × (m * (p % 2 + 1) ≤ 2 * m)
  b = bit (p % 2) (mod-lt p (omega arith))

  pub doubled : (2 ^ 52 ≤ m * (p % 2 + 1)) × (m * (p % 2 + 1) < 2 ^ 54)
  doubled = let c = b in (omega arith, omega arith)

  pub scaled : m * 2 ^ (p + 52) ≡ M * (2 ^ (p / 2) * 2 ^ (p / 2))
  scaled =
      ap (λ (z : ℕ). m * z) (pow-add 2 p 52 ∙ ap (λ (z : ℕ). 2 ^ z * 2 ^ 52) (halves p) ∙ ap (λ (z : ℕ). z * 2 ^ 52) (pow-add 2 (p / 2 + p / 2) (p % 2) ∙ ap (λ (z : ℕ). z * 2 ^ (p % 2)) (pow-add 2 (p / 2) (p / 2)) ∙ ap (λ (z : ℕ). 2 ^ (p / 2) * 2 ^ (p / 2) * z) b.0))
      ∙ turn m (2 ^ (p / 2) * 2 ^ (p / 2)) (p % 2 + 1) (2 ^ 52)
    where
      halves : (x : ℕ) → x ≡ x / 2 + x / 2 + x % 2
      halves x = omega arith

      turn : (m w d l : ℕ) → m * (w * d * l) ≡ m * d * l * w
      turn m w d l = omega arith

  pub M-lo : 2 ^ 52 * 2 ^ 52 ≤ M
  M-lo = let c = doubled in omega arith

  pub M-hi : M < 2 ^ 53 * 2 ^ 53
  M-hi = let c = doubled in omega arith

  pub root_fits : (w : ℕ) → NearestRoot M w → (2 ^ 52 ≤ w) × (w ≤ 2 ^ 53)
  root_fits w h = (near_lo (2 ^ 52) M w M-lo h, near_hi (2 ^ 53) M w M-hi h)

  pub root_pattern : (w : ℕ) → NearestRoot M w → of_bits binary64 (p / 2 * 2 ^ 52 + w) ≡ round_root binary64 (m * 2 ^ (p + 52))
  root_pattern w h =
      let f = root_fits w h in
      let k = p / 2 in
      sym (root_at binary64 M k (m * 2 ^ (p + 52)) scaled M-lo M-hi w h
      ∙ units_bits binary64 false w k f.1 (inr f.0) (lt_of_lt_of_le (shl_lt 54 k (more w f.1)) (pow_mono (room p P)))
      ∙ ap (of_bits binary64) (zero-add (k * 2 ^ 52 + w)))
    where
      more : (x : ℕ) → x ≤ 2 ^ 53 → x < 2 ^ 54
      more x h = omega arith

      room : (x : ℕ) → x < 3072 → 54 + x / 2 ≤ 2098
      room x h = omega arith

  pub pattern_lt : (w : ℕ) → NearestRoot M w → p / 2 * 2 ^ 52 + w < 0x7ff0_0000_0000_0000
  pattern_lt w h = let f = root_fits w h in omega arith

-- ---- `sqrt` by the value
pub sqrt_value : (f : Format) (x : Float) (n : ℕ) → HasValue x false n (2 ^ low f) → 0 < n → sqrt f x ≡ round_root f (n * 2 ^ low f)
unfolding sqrt
sqrt_value f nan n v P = absurd v
sqrt_value f (inf s) n v P = absurd v
sqrt_value f (fin true m e) n v P = absurd (true≢false v.0)
sqrt_value f (fin false zero e) n v P = absurd (lt_irrefl 0 (lt_of_lt_of_le (mul-pos P (down_pos e)) (le_of_eq (sym v.1 ∙ ap (λ (z : ℕ). z * 2 ^ low f) (zero-mul (up e)) ∙ zero-mul (2 ^ low f)))))
sqrt_value f (fin false (suc m) e) n v P = ap (λ (z : ℕ). round_root f (z * 2 ^ low f)) (ap (λ (z : ℕ). z / down e) v.1 ∙ mul-div_cancel n (down_pos e))

sqrt_negative : (f : Format) (x : Float) (n c : ℕ) → HasValue x true n c → 0 < n → sqrt f x ≡ nan
unfolding sqrt
sqrt_negative f nan n c v P = absurd v
sqrt_negative f (inf s) n c v P = absurd v
sqrt_negative f (fin false m e) n c v P = absurd (true≢false (sym v.0))
sqrt_negative f (fin true zero e) n c v P = absurd (lt_irrefl 0 (lt_of_lt_of_le (mul-pos P (down_pos e)) (le_of_eq (sym v.1 ∙ ap (λ (z : ℕ). z * c) (zero-mul (up e)) ∙ zero-mul c))))
sqrt_negative f (fin true (suc m) e) n c v P = refl

pub sqrt_nan : sqrt binary64 nan ≡ nan
unfolding sqrt
sqrt_nan = refl

-- ---- by the pattern
pub at_plus_zero : of_bits binary64 0 ≡ sqrt binary64 (of_bits binary64 0)
unfolding sqrt of_bits
at_plus_zero = refl

pub at_minus_zero : of_bits binary64 0x8000_0000_0000_0000 ≡ sqrt binary64 (of_bits binary64 0x8000_0000_0000_0000)
unfolding sqrt of_bits
at_minus_zero = refl

top_negative : (b : Bool) → sqrt binary64 (cond b (inf true) nan) ≡ nan
unfolding sqrt
top_negative true = refl
top_negative false = refl

top_positive : (b : Bool) → cond b (inf false) nan ≡ sqrt binary64 (cond b (inf false) nan)
unfolding sqrt
top_positive true = refl
top_positive false = refl

pub negative : (a : ℕ) → 0 < a → a < 2 ^ 63 → sqrt binary64 (of_bits binary64 (signed binary64 true a)) ≡ nan
negative a P h = elim (lt_or_le a (2 ^ 52)) [
  | inl l ↦ sqrt_negative binary64 (of_bits binary64 (signed binary64 true a)) (a * 2 ^ 0) (2 ^ 1074) (value_low binary64 true a l) (one a P)
  | inr g ↦ elim (lt_or_le a 0x7ff0_0000_0000_0000) [
    | inl l ↦ sqrt_negative binary64 (of_bits binary64 (signed binary64 true a)) ((2 ^ 52 + a % 2 ^ 52) * 2 ^ (a / 2 ^ 52 - 1)) (2 ^ 1074) (value_normal binary64 true a g l) (mul-pos (lead a) (pow_pos (a / 2 ^ 52 - 1)))
    | inr u ↦ ap (sqrt binary64) (value_top binary64 true a u h) ∙ top_negative (eqb (a % 2 ^ 52) 0)
  ]
]
  where
    one : (x : ℕ) → 0 < x → 0 < x * 2 ^ 0
    one x h = omega arith

    lead : (x : ℕ) → 0 < 2 ^ 52 + x % 2 ^ 52
    lead x = omega arith

-- ---- of an x that the format holds, and its pattern
module _ (x : Float) (F : T (fits binary64 x)) where
  abbrev pub bits : ℕ
  bits = to_bits binary64 x

  back : of_bits binary64 bits ≡ x
  back = of_bits-to_bits binary64 x F

  pub bits_lt : bits < 2 ^ 64
  bits_lt = to_bits-lt binary64 x F

  pub when_plus_zero : bits ≡ 0 → x ≡ sqrt binary64 x
  when_plus_zero e = subst (λ (z : Float). z ≡ sqrt binary64 z) (ap (of_bits binary64) (sym e) ∙ back) at_plus_zero

  pub when_minus_zero : bits ≡ 0x8000_0000_0000_0000 → x ≡ sqrt binary64 x
  when_minus_zero e = subst (λ (z : Float). z ≡ sqrt binary64 z) (ap (of_bits binary64) (sym e) ∙ back) at_minus_zero

  pub when_negative : 0x8000_0000_0000_0000 < bits → sqrt binary64 x ≡ nan
  when_negative h =
      let a = bits - 0x8000_0000_0000_0000 in
      subst (λ (z : Float). sqrt binary64 z ≡ nan) (ap (of_bits binary64) (rejoin bits h) ∙ back) (negative a (some bits h) (few bits bits_lt))
    where
      rejoin : (b : ℕ) → 0x8000_0000_0000_0000 < b → 2 ^ 63 + (b - 0x8000_0000_0000_0000) ≡ b
      rejoin b h = omega arith

      some : (b : ℕ) → 0x8000_0000_0000_0000 < b → 0 < b - 0x8000_0000_0000_0000
      some b h = omega arith

      few : (b : ℕ) → b < 2 ^ 64 → b - 0x8000_0000_0000_0000 < 2 ^ 63
      few b h = omega arith

  pub when_top : 0x7ff0_0000_0000_0000 ≤ bits → bits < 2 ^ 63 → x ≡ sqrt binary64 x
  when_top h k = subst (λ (z : Float). z ≡ sqrt binary64 z) (sym (value_top binary64 false bits h k) ∙ ap (of_bits binary64) (zero-add bits) ∙ back) (top_positive (eqb (bits % 2 ^ 52) 0))

  read : of_bits binary64 (signed binary64 false bits) ≡ x
  read = ap (of_bits binary64) (zero-add bits) ∙ back

  pub when_normal : 2 ^ 52 ≤ bits → bits < 0x7ff0_0000_0000_0000 → sqrt binary64 x ≡ round_root binary64 ((bits % 2 ^ 52 + 2 ^ 52) * 2 ^ (bits / 2 ^ 52 + 1021 + 52))
  when_normal h k =
      let n = (2 ^ 52 + bits % 2 ^ 52) * 2 ^ (bits / 2 ^ 52 - 1) in
      sqrt_value binary64 x n (subst (λ (z : Float). HasValue z false n (2 ^ 1074)) read (value_normal binary64 false bits h k)) (mul-pos (lead bits) (pow_pos (bits / 2 ^ 52 - 1)))
      ∙ ap (round_root binary64) (mul_assoc (2 ^ 52 + bits % 2 ^ 52) (2 ^ (bits / 2 ^ 52 - 1)) (2 ^ 1074) ∙ ap (λ (z : ℕ). (2 ^ 52 + bits % 2 ^ 52) * z) (sym (pow-add 2 (bits / 2 ^ 52 - 1) 1074) ∙ ap (λ (z : ℕ). 2 ^ z) (same bits h)) ∙ ap (λ (z : ℕ). z * 2 ^ (bits / 2 ^ 52 + 1021 + 52)) (swap bits))
    where
      lead : (b : ℕ) → 0 < 2 ^ 52 + b % 2 ^ 52
      lead b = omega arith

      same : (b : ℕ) → 2 ^ 52 ≤ b → b / 2 ^ 52 - 1 + 1074 ≡ b / 2 ^ 52 + 1021 + 52
      same b h = omega arith

      swap : (b : ℕ) → 2 ^ 52 + b % 2 ^ 52 ≡ b % 2 ^ 52 + 2 ^ 52
      swap b = omega arith

  -- a subnormal, shifted up past its leading zeros
  module _ (P : 0 < bits) (S : bits < 2 ^ 52) where
    abbrev lz : ℕ
    lz = count_leading_zeros 64 bits

    pub when-subnormal : sqrt binary64 x ≡ round_root binary64 (bits * 2 ^ (lz - 11) % 2 ^ 64 * 2 ^ (1022 - (lz - 11) + 52))
    when-subnormal =
        sqrt_value binary64 x (bits * 2 ^ 0) (subst (λ (z : Float). HasValue z false (bits * 2 ^ 0) (2 ^ 1074)) read (value_low binary64 false bits S)) (mul-pos P (pow_pos 0))
        ∙ ap (round_root binary64) (ap (λ (z : ℕ). z * 2 ^ 1074) (mul-one bits) ∙ ap (λ (z : ℕ). bits * 2 ^ z) (sym (sum lz (zeros bits P S).1)) ∙ ap (λ (z : ℕ). bits * z) (pow-add 2 (lz - 11) (1022 - (lz - 11) + 52)) ∙ sym (mul_assoc bits (2 ^ (lz - 11)) (2 ^ (1022 - (lz - 11) + 52))) ∙ ap (λ (z : ℕ). z * 2 ^ (1022 - (lz - 11) + 52)) (sym (whole bits P S)))
      where
        sum : (l : ℕ) → l ≤ 63 → l - 11 + (1022 - (l - 11) + 52) ≡ 1074
        sum l h = omega arith
