-- Module 2: from a float to a fixed-point number and back. Definitions only.
use Rattle.std.specs.Prelude.{ℕ, false, pos, Float}
use Rattle.std.specs.Float.{fin, binary64}
use Rattle.std.specs.Float.Ieee.{mul, of_int, to_unsigned}

-- r in units of 2 ^ -61, rounded down. (The product with the power of two is exact.)
unfoldable pub fixed : Float → ℕ
fixed r = to_unsigned 64 (mul binary64 r (fin false 1 (pos 61)))

-- d units: the float nearest to d, times the unit
unfoldable pub scaled : ℕ → Float → Float
scaled d unit = mul binary64 (of_int binary64 (pos d)) unit
