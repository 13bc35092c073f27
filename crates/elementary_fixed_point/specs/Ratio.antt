-- Module 2: the quotient of two floats in fixed point, from below. Definitions only.
use Rattle.std.specs.Prelude.{ℕ, ◌-◌, ◌^◌, Float}
use Rattle.std.specs.Float.{binary64}
use Rattle.std.specs.Float.Ieee.{div}
use Rattle.elementary_fixed_point.specs.Conversion.{fixed}

-- the rounded quotient in units of 2 ^ -61, less what its rounding can have added (2 ^ -53), and 0 at least
unfoldable pub ratio : Float → Float → ℕ
ratio a b = fixed (div binary64 a b) - 2 ^ 8
