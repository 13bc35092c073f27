-- Module 1, "one rounding for each operation": how the laws of proofs/ say how far a rounded result is from the exact one, over whole
-- numbers and for any format. A finite value is written as a difference p - q of two whole numbers of units (2 ^ -low, the format's smallest
-- value), so that every bound is linear. Definitions only.
use Rattle.std.specs.Prelude.{◌≡◌, true, false, ℕ, ◌+◌, ◌-◌, ◌*◌, ◌^◌, ◌≤◌, Float}
use Rattle.std.specs.Float.{nan, inf, fin, Format}
use Rattle.std.specs.Float.Ieee.{prec, low, up, down}
use Rattle.ieee754_rounding.specs.Distance.{distance}

-- x is finite, and is p - q units
abbrev pub Val : Format → Float → ℕ → ℕ → Type 0
Val f nan p q = ⊥
Val f (inf s) p q = ⊥
Val f (fin false m e) p q = m * up e * 2 ^ low f + q * down e ≡ p * down e
Val f (fin true m e) p q = m * up e * 2 ^ low f + p * down e ≡ q * down e

-- x and y differ by at most d
pub record Within (d x y : ℕ) : Type 0 where
  pub under : x ≤ y + d
  pub over : y ≤ x + d

-- the absolute error: z is finite, and z * c is within d / 2 units of p - q
pub record NearVal (f : Format) (z : Float) (c d p q : ℕ) : Type 0 where
  pub P : ℕ
  pub Q : ℕ
  pub val : Val f z P Q
  pub under : 2 * (P * c) + 2 * q ≤ 2 * (Q * c) + 2 * p + d
  pub over : 2 * (Q * c) + 2 * p ≤ 2 * (P * c) + 2 * q + d

-- the relative error: z is finite, and |z * c - (p - q)| is at most 2 ^ -prec of |p - q|, and, for the sake of subnormal results, half a
-- unit more; taken 2 ^ prec times
pub record RelativeVal (f : Format) (z : Float) (c p q : ℕ) : Type 0 where
  pub P : ℕ
  pub Q : ℕ
  pub val : Val f z P Q
  pub under : 2 ^ prec f * (P * c + q) ≤ 2 ^ prec f * (Q * c + p) + (distance p q + 2 ^ (prec f - 1) * c)
  pub over : 2 ^ prec f * (Q * c + p) ≤ 2 ^ prec f * (P * c + q) + (distance p q + 2 ^ (prec f - 1) * c)
