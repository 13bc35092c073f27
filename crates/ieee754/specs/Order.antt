-- Module 1: Rust's `max` (a NaN loses) and `clamp` (a NaN stays). The same at every format. Definitions only.
use Rattle.std.specs.Prelude.{cond, is_nan, Float}
use Rattle.std.specs.Float.Ieee.{lt}

-- the larger of the two; of two that compare equal, the first
abbrev pub maximum : Float → Float → Float
maximum x y = cond (is_nan x) y (cond (lt x y) y x)

-- x, moved to the nearer end of lo .. hi where it lies outside
abbrev pub clamped : Float → Float → Float → Float
clamped x lo hi = cond (lt x lo) lo (cond (lt hi x) hi x)
