-- Module 2: what proofs of the elementary functions go by: two floats that are divided, a term of a series, and how near a fixed-point number is to a fraction.
-- Definitions only.
use Rattle.std.specs.Prelude.{ℕ, ◌+◌, ◌-◌, ◌*◌, ◌^◌, ◌≤◌, ◌<◌, Bool, true, false, T, Float}
use Rattle.std.specs.Float.{nan, inf, fin}
use Rattle.std.specs.Float.Ieee.Positive.{num, den}
use Rattle.elementary_series.specs.Fraction.{Fraction}

-- finite, and its sign is clear
abbrev pub nonnegative : Float → Bool
nonnegative nan = false
nonnegative (inf s) = false
nonnegative (fin true m e) = false
nonnegative (fin false m e) = true

-- 0 ≤ a ≤ b, both finite, and b is not 0
pub record Proper (a b : Float) : Type 0 where
  pub left : T (nonnegative a)
  pub right : T (nonnegative b)
  pub above : 0 < num b
  pub upto : num a * den b ≤ num b * den a

-- the term of degree j of a series with the coefficients k j, at a / b, times b ^ d
abbrev pub term : (ℕ → ℕ) → ℕ → ℕ → ℕ → ℕ → ℕ
term k d a b j = k j * a ^ j * b ^ (d - j)

-- |x / unit - f| is at most e / unit
pub record Approximates (unit x e : ℕ) (f : Fraction) : Type 0 where
  pub low : x * f.over + f.minus * unit ≤ f.plus * unit + e * f.over
  pub high : f.plus * unit ≤ f.minus * unit + (x + e) * f.over

-- n / d lies from l to h
pub record Enclosure (l h n d : ℕ) : Type 0 where
  pub low : l * d ≤ n
  pub high : n ≤ h * d
