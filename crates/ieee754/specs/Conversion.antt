-- Module 1: a float at another format, as Rust's `as f32` of an `f64` has it (IEEE 754-2019, 5.4.2): to nearest, ties to even, past the
-- largest value an infinity, a NaN to a NaN. (From f32 to f64 nothing changes: every value of binary32 is one of binary64.) Definitions only.
use Rattle.std.specs.Prelude.{◌*◌, Float}
use Rattle.std.specs.Float.{nan, inf, fin, Format}
use Rattle.std.specs.Float.Ieee.{up, down, round}

unfoldable pub convert : Format → Float → Float
convert f nan = nan
convert f (inf s) = inf s
convert f (fin s m e) = round f s (m * up e) (down e)
