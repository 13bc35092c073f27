-- Module 2: from a fixed-point number to a float. Definitions only.
use Rattle.std.specs.Prelude.{ℕ, pos, Float}
use Rattle.std.specs.Float.{binary64}
use Rattle.std.specs.Float.Ieee.{mul, of_int}

-- d units: the float nearest to d, times the unit
unfoldable pub scaled : ℕ → Float → Float
scaled d unit = mul binary64 (of_int binary64 (pos d)) unit
