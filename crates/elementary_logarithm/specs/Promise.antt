-- Module 2: what is promised of the common logarithm beside its bits. Definitions only.
use Rattle.std.specs.Prelude.{ℕ, ◌*◌, ◌^◌, ◌≤◌, ◌<◌, ◌≡◌, true, false, ℤ, T, Float}
use Rattle.std.specs.Float.{nan, inf}
use Rattle.std.specs.Float.Ieee.{up, down, lt, eq}
use Rattle.std.specs.Float.Ieee.Positive.{num, den, positive}
use Rattle.ieee754.specs.Binary64.{one}
use Rattle.ieee754.specs.Sign.{plus_zero}
use Rattle.elementary_fixed_point.specs.Fraction.{Near}
use Rattle.elementary_logarithm.specs.Series.{quotient}

-- x is m * 2 ^ e, m = s / 2 ^ 52 from 1 to below 2. (There is only one such s and e; see proofs/Normal.antt.)
pub record Normal (x : Float) (s : ℕ) (e : ℤ) : Type 0 where
  pub from : 2 ^ 52 ≤ s
  pub below : s < 2 ^ 53
  pub is : num x * 2 ^ 52 * down e ≡ s * up e * den x

-- v is within 2 ^ -36 of the scope's quotient at x = m * 2 ^ e
pub record NearQuotient (x v : Float) : Type 0 where
  pub s : ℕ
  pub e : ℤ
  pub normal : Normal x s e
  pub near : Near 36 v (quotient e s (2 ^ 52))

-- v is the common logarithm of x
pub record CommonLogarithm (x v : Float) : Type 0 where
  -- IEEE 754's special cases
  pub not_a_number : x ≡ nan → v ≡ nan
  pub zero : T (eq x plus_zero) → v ≡ inf true
  pub negative : T (lt x plus_zero) → v ≡ nan
  pub infinity : x ≡ inf false → v ≡ inf false
  -- the sign
  pub below : T (positive x) → T (lt x one) → T (lt v plus_zero)
  pub at : x ≡ one → v ≡ plus_zero
  pub above : T (lt one x) → T (lt plus_zero v)
  -- the bound, for every finite x above 0
  pub near : T (positive x) → NearQuotient x v
