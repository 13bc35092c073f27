-- Module 1: Rust's `round`, halves away from zero. At any format. (Truncation, `as usize`, is the logic's own `to_unsigned 64`.)
-- Definitions only.
use Rattle.std.specs.Prelude.{◌+◌, ◌*◌, ◌/◌, Float}
use Rattle.std.specs.Float.{nan, inf, fin, Format}
use Rattle.std.specs.Float.Ieee.{up, down, round}

-- The whole number nearest to x, the whole part of |x| + 1 / 2, with x's sign, also where it is 0. (`round` changes nothing: it is a value of
-- the format.)
unfoldable pub rounded_away : Format → Float → Float
rounded_away f nan = nan
rounded_away f (inf s) = inf s
rounded_away f (fin s m e) = round f s ((2 * (m * up e) + down e) / (2 * down e)) 1
