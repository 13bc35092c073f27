-- Module 1: the whole number by which the code of `round` answers. Definitions only.
use Rattle.std.specs.Prelude.{ℕ, ◌+◌, ◌*◌, ◌/◌, Float}
use Rattle.std.specs.Float.{nan, inf, fin}
use Rattle.std.specs.Float.Ieee.{up, down}

-- the whole number nearest to |x|, a half up: the whole part of |x| + 1 / 2
unfoldable pub whole_away : Float → ℕ
whole_away nan = 0
whole_away (inf s) = 0
whole_away (fin s m e) = (2 * (m * up e) + down e) / (2 * down e)
