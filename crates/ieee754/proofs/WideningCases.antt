-- A subnormal f32 at binary64: it has the same value, and there its leading one. Assumes nothing.
use Rattle.std.proofs.Common.{◌≡◌, ℕ, ◌+◌, ◌-◌, ◌*◌, ◌%◌, ◌^◌, ◌<◌, ◌≤◌, Bool, true, false, sym, refl, ap, ◌∙◌, subst, inr, lt_of_lt_of_le, le_of_lt, mul_assoc, mul-one, mul_right_comm, arith, lit≤, pow-add}
use lib.Count.{count_leading_zeros}
use lib.Ieee.{Float, nan, inf, fin, binary32, binary64, up, down, of_bits}
use lib.Ieee.Fits.{fits_widens}
use lib.Ieee.Bits.{of_bits-fits}
use lib.Ieee.Exact.{HasValue}
use Rattle.ieee754.proofs.Patterns.{value_bits}
use Rattle.ieee754.proofs.Fields.{signed, value_low}
use Rattle.ieee754.proofs.LeadingZeros.{zeros, up_lo, up_hi, whole}

pub zero_widened : (s : Bool) → of_bits binary64 (signed binary64 s 0) ≡ of_bits binary32 (signed binary32 s 0)
unfolding of_bits
zero_widened true = refl
zero_widened false = refl

-- a of the smallest f32s are a * 2 ^ 925 of the smallest f64s
in_units_lem : (y : Float) (s : Bool) (a : ℕ) → HasValue y s (a * 2 ^ 0) (2 ^ 149) → HasValue y s (a * 2 ^ 925) (2 ^ 1074)
in_units_lem nan s a v = v
in_units_lem (inf t) s a v = v
in_units_lem (fin t m e) s a v = (
  v.0,
  ap (λ (z : ℕ). m * up e * z) (pow-add 2 149 925)
      ∙ sym (mul_assoc (m * up e) (2 ^ 149) (2 ^ 925))
      ∙ ap (λ (z : ℕ). z * 2 ^ 925) (v.1 ∙ ap (λ (z : ℕ). z * down e) (mul-one a))
      ∙ mul_right_comm a (down e) (2 ^ 925),
)

module _ (a : ℕ) (P : 0 < a) (S : a < 2 ^ 23) where
  abbrev lz : ℕ
  lz = count_leading_zeros 64 a

  fewer : a < 2 ^ 52
  fewer = lt_of_lt_of_le S (lit≤ tt)

  scaled : a * 2 ^ 925 ≡ a * 2 ^ (lz - 11) * 2 ^ (936 - lz)
  scaled = ap (λ (z : ℕ). a * 2 ^ z) (sum lz (zeros a P fewer).0 (zeros a P fewer).1) ∙ ap (λ (z : ℕ). a * z) (pow-add 2 (lz - 11) (936 - lz)) ∙ sym (mul_assoc a (2 ^ (lz - 11)) (2 ^ (936 - lz)))
    where
      sum : (l : ℕ) → 12 ≤ l → l ≤ 63 → 925 ≡ l - 11 + (936 - l)
      sum l h k = omega arith

  pub widened : (s : Bool) → of_bits binary64 (signed binary64 s ((936 - lz) * 2 ^ 52 + a * 2 ^ (lz - 11) % 2 ^ 64)) ≡ of_bits binary32 (signed binary32 s a)
  widened s =
      let y = of_bits binary32 (signed binary32 s a) in
      ap (λ (z : ℕ). of_bits binary64 (signed binary64 s ((936 - lz) * 2 ^ 52 + z))) (whole a P fewer)
      ∙ sym
      (value_bits binary64 y s (a * 2 ^ (lz - 11)) (936 - lz) (fits_widens y (of_bits-fits binary32 (signed binary32 s a)))
      (subst (λ (z : ℕ). HasValue y s z (2 ^ 1074)) scaled (in_units_lem y s a (value_low binary32 s a S)))
      (le_of_lt (up_hi a P fewer))
      (inr (up_lo a P fewer)))
