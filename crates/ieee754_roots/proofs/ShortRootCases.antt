-- Where a guess at the 24 digits of a root is enough: while m is off the squares of what lies halfway to the guess's neighbours, the digits that are dropped are of no account. Assumes nothing.
use Rattle.std.proofs.Common.{◌≡◌, ℕ, ◌+◌, ◌-◌, ◌*◌, ◌/◌, ◌%◌, ◌^◌, ◌<◌, ◌≤◌, true, false, ◌&&◌, T, ltb, leb, sym, ap, ◌∙◌, subst, inl, inr, eq-or-lt_of_le, zero-add, arith, lit<, ltb→lt, leb→le}
use lib.Ieee.{Float, binary32, binary64, of_bits, to_bits, fits}
use lib.Ieee.Fits.{and_l, and_r}
use Rattle.ieee754_rounding.proofs.Comparison.{lt_or_le}
use Rattle.ieee754.specs.Conversion.{convert}
use Rattle.ieee754.specs.SquareRoot.{round_root, sqrt}
use Rattle.ieee754.specs.Code.Quotients.{nearest_quotient}
use Rattle.ieee754.specs.Code.WholeRoot.{NearestRoot}
use Rattle.ieee754.proofs.Fields.{yes}
use Rattle.ieee754.proofs.IntegerRoot.{near_lo, near_hi, some_root}
use Rattle.ieee754.proofs.SquareRootCases.{scaled, M-lo, M-hi, root_fits, root_pattern, when_normal}
use Rattle.ieee754.proofs.ConversionCases.{narrow_normal, rounded_lt, rounded_gt}

-- ---- the rounding of a whole number that lies between the halfway marks of d
pub between : (w d : ℕ) → (2 * d - 1) * 2 ^ 28 < w → w < (2 * d + 1) * 2 ^ 28 → nearest_quotient w (2 ^ 29) ≡ d
between w d a b = elim (lt_or_le (w % 2 ^ 29) (2 ^ 28)) [
  | inl l ↦ sym (rounded_lt w 29 (lit< tt) (lit< tt) l) ∙ down w d a b l
  | inr g ↦ sym (rounded_gt w 29 (lit< tt) (lit< tt) (past w d a b g)) ∙ up w d a b g
]
  where
    down : (w d : ℕ) → (2 * d - 1) * 2 ^ 28 < w → w < (2 * d + 1) * 2 ^ 28 → w % 2 ^ 29 < 2 ^ 28 → w / 2 ^ 29 ≡ d
    down w d a b l = omega arith

    past : (w d : ℕ) → (2 * d - 1) * 2 ^ 28 < w → w < (2 * d + 1) * 2 ^ 28 → 2 ^ 28 ≤ w % 2 ^ 29 → 2 ^ 28 < w % 2 ^ 29
    past w d a b g = omega arith

    up : (w d : ℕ) → (2 * d - 1) * 2 ^ 28 < w → w < (2 * d + 1) * 2 ^ 28 → 2 ^ 28 ≤ w % 2 ^ 29 → w / 2 ^ 29 + 1 ≡ d
    up w d a b g = omega arith

-- ---- the nearest root of m * 2 ^ 52 lies between them, for an m that is off their squares by five
pub record Apart (m d : ℕ) : Type 0 where
  pub above : 16 * ((2 * d - 1) * (2 * d - 1)) + 5 ≤ m
  pub below : m + 5 ≤ 16 * ((2 * d + 1) * (2 * d + 1))

after : (m u w : ℕ) → u < 2 ^ 25 → 16 * (u * u) + 5 ≤ m → NearestRoot (m * 2 ^ 52) w → u * 2 ^ 28 < w
after m u w U h r = less (u * 2 ^ 28) w (near_lo (u * 2 ^ 28 + 1) (m * 2 ^ 52) w (squared m u U h) r)
  where
    less : (x y : ℕ) → x + 1 ≤ y → x < y
    less x y h = omega arith

    squared : (m u : ℕ) → u < 2 ^ 25 → 16 * (u * u) + 5 ≤ m → (u * 2 ^ 28 + 1) * (u * 2 ^ 28 + 1) ≤ m * 2 ^ 52
    squared m u U h = omega arith

before : (m u w : ℕ) → 0 < u → u ≤ 2 ^ 25 + 1 → m + 5 ≤ 16 * (u * u) → NearestRoot (m * 2 ^ 52) w → w < u * 2 ^ 28
before m u w P U h r = less w (u * 2 ^ 28) (some u P) (near_hi (u * 2 ^ 28 - 1) (m * 2 ^ 52) w (squared m (u * 2 ^ 28 - 1) u P U (back u P) h) r)
  where
    some : (x : ℕ) → 0 < x → 0 < x * 2 ^ 28
    some x h = omega arith

    less : (x y : ℕ) → 0 < y → x ≤ y - 1 → x < y
    less x y p h = omega arith

    back : (x : ℕ) → 0 < x → x * 2 ^ 28 - 1 + 1 ≡ x * 2 ^ 28
    back x h = omega arith

    squared : (m v u : ℕ) → 0 < u → u ≤ 2 ^ 25 + 1 → v + 1 ≡ u * 2 ^ 28 → m + 5 ≤ 16 * (u * u) → m * 2 ^ 52 < v * v
    squared m v u P U e h =
        let s : (v + 1) * (v + 1) ≡ u * 2 ^ 28 * (u * 2 ^ 28) = ap (λ (z : ℕ). z * z) e in
        omega arith

pub settled : (m d : ℕ) → d ≤ 2 ^ 24 → Apart m d → (w : ℕ) → NearestRoot (m * 2 ^ 52) w → nearest_quotient w (2 ^ 29) ≡ d
settled m d E a w r = between w d (after m (2 * d - 1) w (lower d E) a.above r) (before m (2 * d + 1) w (some d) (upper d E) a.below r)
  where
    lower : (x : ℕ) → x ≤ 2 ^ 24 → 2 * x - 1 < 2 ^ 25
    lower x h = omega arith

    upper : (x : ℕ) → x ≤ 2 ^ 24 → 2 * x + 1 ≤ 2 ^ 25 + 1
    upper x h = omega arith

    some : (x : ℕ) → 0 < 2 * x + 1
    some x = omega arith

-- the two tests of the code
pub apart : (m d : ℕ) → leb (16 * ((2 * d - 1) * (2 * d - 1)) + 5) m && leb (m + 5) (16 * ((2 * d + 1) * (2 * d + 1))) ≡ true → Apart m d
apart m d h = record {
  above = leb→le _ _ (and_l (leb (16 * ((2 * d - 1) * (2 * d - 1)) + 5) m) (leb (m + 5) (16 * ((2 * d + 1) * (2 * d + 1)))) (yes h));
  below = leb→le _ _ (and_r (leb (16 * ((2 * d - 1) * (2 * d - 1)) + 5) m) (leb (m + 5) (16 * ((2 * d + 1) * (2 * d + 1)))) (yes h));
}

pub inside : (b lo hi : ℕ) → leb lo b && ltb b hi ≡ true → (lo ≤ b) × (b < hi)
inside b lo hi h = (leb→le lo b (and_l (leb lo b) (ltb b hi) (yes h)), ltb→lt b hi (and_r (leb lo b) (ltb b hi) (yes h)))

-- ---- the pattern of the rounded root, for a root that is a normal value of binary32
module _ (m p d : ℕ) (lo : 2 ^ 52 ≤ m) (hi : m < 2 ^ 53) (P : 1792 ≤ p) (Q : p < 2298) (S : (w : ℕ) → NearestRoot (m * (p % 2 + 1) * 2 ^ 52) w → nearest_quotient w (2 ^ 29) ≡ d) where
  room : p < 3072
  room = omega arith

  -- narrowed by the field k of the exponent and the digits v of the root's pattern: they are w's own (`within`) unless w is the next power of two (`next`)
  narrowed : (w k v : ℕ) → (p / 2 * 2 ^ 52 + w) / 2 ^ 52 ≡ k → (p / 2 * 2 ^ 52 + w) % 2 ^ 52 + 2 ^ 52 ≡ v → 2 ^ 52 ≤ w → w ≤ 2 ^ 53 → (k - 897) * 2 ^ 23 + nearest_quotient v (2 ^ 29) ≡ (p / 2 - 896) * 2 ^ 23 + d → of_bits binary32 ((p / 2 - 896) * 2 ^ 23 + d) ≡ convert binary32 (of_bits binary64 (p / 2 * 2 ^ 52 + w))
  narrowed w k v f g a b e =
      let z = p / 2 * 2 ^ 52 + w in
      ap (of_bits binary32) (sym (ap (λ (j : ℕ). (j - 897) * 2 ^ 23 + nearest_quotient (z % 2 ^ 52 + 2 ^ 52) (2 ^ 29)) f ∙ ap (λ (j : ℕ). (k - 897) * 2 ^ 23 + nearest_quotient j (2 ^ 29)) g ∙ e)
      ∙ sym (zero-add ((z / 2 ^ 52 - 897) * 2 ^ 23 + nearest_quotient (z % 2 ^ 52 + 2 ^ 52) (2 ^ 29))))
      ∙ narrow_normal false z (above p w a b P) (below p w a b Q)
      ∙ ap (λ (j : ℕ). convert binary32 (of_bits binary64 j)) (zero-add z)
    where
      above : (p w : ℕ) → 2 ^ 52 ≤ w → w ≤ 2 ^ 53 → 1792 ≤ p → 897 ≤ (p / 2 * 2 ^ 52 + w) / 2 ^ 52
      above p w a b h = omega arith

      below : (p w : ℕ) → 2 ^ 52 ≤ w → w ≤ 2 ^ 53 → p < 2298 → p / 2 * 2 ^ 52 + w < 0x47f0_0000_0000_0000
      below p w a b h = omega arith

  within : (w : ℕ) → 2 ^ 52 ≤ w → w < 2 ^ 53 → nearest_quotient w (2 ^ 29) ≡ d → of_bits binary32 ((p / 2 - 896) * 2 ^ 23 + d) ≡ convert binary32 (of_bits binary64 (p / 2 * 2 ^ 52 + w))
  within w a b e = narrowed w (p / 2 + 1) w (field p w a b) (digits p w a b) a (omega arith) (ap (λ (j : ℕ). (p / 2 + 1 - 897) * 2 ^ 23 + j) e ∙ ap (λ (j : ℕ). j * 2 ^ 23 + d) (less p))
    where
      field : (p w : ℕ) → 2 ^ 52 ≤ w → w < 2 ^ 53 → (p / 2 * 2 ^ 52 + w) / 2 ^ 52 ≡ p / 2 + 1
      field p w a b = omega arith

      digits : (p w : ℕ) → 2 ^ 52 ≤ w → w < 2 ^ 53 → (p / 2 * 2 ^ 52 + w) % 2 ^ 52 + 2 ^ 52 ≡ w
      digits p w a b = omega arith

      less : (p : ℕ) → p / 2 + 1 - 897 ≡ p / 2 - 896
      less p = omega arith

  next : nearest_quotient (2 ^ 53) (2 ^ 29) ≡ d → of_bits binary32 ((p / 2 - 896) * 2 ^ 23 + d) ≡ convert binary32 (of_bits binary64 (p / 2 * 2 ^ 52 + 2 ^ 53))
  next e = narrowed (2 ^ 53) (p / 2 + 2) (2 ^ 52) (field p) (digits p) (omega arith) (omega arith) (carried p d P e)
    where
      field : (p : ℕ) → (p / 2 * 2 ^ 52 + 2 ^ 53) / 2 ^ 52 ≡ p / 2 + 2
      field p = omega arith

      digits : (p : ℕ) → (p / 2 * 2 ^ 52 + 2 ^ 53) % 2 ^ 52 + 2 ^ 52 ≡ 2 ^ 52
      digits p = omega arith

      carried : (p d : ℕ) → 1792 ≤ p → 2 ^ 24 ≡ d → (p / 2 + 2 - 897) * 2 ^ 23 + 2 ^ 23 ≡ (p / 2 - 896) * 2 ^ 23 + d
      carried p d h e = omega arith

  pub short_pattern : of_bits binary32 ((p / 2 - 896) * 2 ^ 23 + d) ≡ convert binary32 (round_root binary64 (m * 2 ^ (p + 52)))
  short_pattern =
      let s = some_root binary64 (m * (p % 2 + 1) * 2 ^ 52) (p / 2) (m * 2 ^ (p + 52)) (scaled m p lo hi room) (M-lo m p lo hi room) (M-hi m p lo hi room) in
      let w = s.0 in
      let f = root_fits m p lo hi room w s.1 in
      either w f.0 f.1 (S w s.1) ∙ ap (convert binary32) (root_pattern m p lo hi room w s.1)
    where
      either : (w : ℕ) → 2 ^ 52 ≤ w → w ≤ 2 ^ 53 → nearest_quotient w (2 ^ 29) ≡ d → of_bits binary32 ((p / 2 - 896) * 2 ^ 23 + d) ≡ convert binary32 (of_bits binary64 (p / 2 * 2 ^ 52 + w))
      either w a b e = elim (eq-or-lt_of_le b) [
        | inl z ↦ subst (λ (k : ℕ). of_bits binary32 ((p / 2 - 896) * 2 ^ 23 + d) ≡ convert binary32 (of_bits binary64 (p / 2 * 2 ^ 52 + k))) (sym z) (next (subst (λ (k : ℕ). nearest_quotient k (2 ^ 29) ≡ d) z e))
        | inr l ↦ within w a l e
      ]

-- ---- of an x that the format holds, by its pattern: its significand, doubled for an odd exponent, and the result's pattern

pub pattern_le : (b d : ℕ) → b < 0x4fd0_0000_0000_0000 → d ≤ 2 ^ 24 → ((b / 2 ^ 52 + 1021) / 2 - 896) * 2 ^ 23 + d ≤ 0x7f80_0000
pattern_le b d h k = omega arith

module _ (x : Float) (F : T (fits binary64 x)) (d : ℕ) where
  abbrev b : ℕ
  b = to_bits binary64 x

  pub short_root : 0x3030_0000_0000_0000 ≤ b → b < 0x4fd0_0000_0000_0000 → ((w : ℕ) → NearestRoot ((b % 2 ^ 52 + 2 ^ 52) * ((b / 2 ^ 52 + 1021) % 2 + 1) * 2 ^ 52) w → nearest_quotient w (2 ^ 29) ≡ d) → of_bits binary32 (((b / 2 ^ 52 + 1021) / 2 - 896) * 2 ^ 23 + d) ≡ convert binary32 (sqrt binary64 x)
  short_root lo hi S =
      short_pattern (b % 2 ^ 52 + 2 ^ 52) (b / 2 ^ 52 + 1021) d (m_lo b) (m_hi b) (p-lo b lo) (p-hi b hi) S
      ∙ sym (ap (convert binary32) (when_normal x F (normal b lo) (finite b hi)))
    where
      m_lo : (y : ℕ) → 2 ^ 52 ≤ y % 2 ^ 52 + 2 ^ 52
      m_lo y = omega arith

      m_hi : (y : ℕ) → y % 2 ^ 52 + 2 ^ 52 < 2 ^ 53
      m_hi y = omega arith

      p-lo : (y : ℕ) → 0x3030_0000_0000_0000 ≤ y → 1792 ≤ y / 2 ^ 52 + 1021
      p-lo y h = omega arith

      p-hi : (y : ℕ) → y < 0x4fd0_0000_0000_0000 → y / 2 ^ 52 + 1021 < 2298
      p-hi y h = omega arith

      normal : (y : ℕ) → 0x3030_0000_0000_0000 ≤ y → 2 ^ 52 ≤ y
      normal y h = omega arith

      finite : (y : ℕ) → y < 0x4fd0_0000_0000_0000 → y < 0x7ff0_0000_0000_0000
      finite y h = omega arith
