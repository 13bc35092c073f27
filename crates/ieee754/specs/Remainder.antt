-- Module 1: Rust's `rem_euclid`: the exact truncated remainder of `%` (not IEEE 754's own remainder), plus the absolute divisor where it is
-- negative. At any format. Definitions only.
use Rattle.std.specs.Prelude.{cond, Float}
use Rattle.std.specs.Float.{Format}
use Rattle.std.specs.Float.Ieee.{add, rem, lt}
use Rattle.ieee754.specs.Sign.{absolute, plus_zero}

unfoldable pub rem_euclid : Format → Float → Float → Float
rem_euclid f x y = cond (lt (rem f x y) plus_zero) (add f (rem f x y) (absolute y)) (rem f x y)
