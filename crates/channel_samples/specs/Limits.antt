-- Refusal 11 of the scope's table: "a component of either list not finite or over 1,024 in size". Definitions only.
use Rattle.std.specs.Prelude.{Bool, List, Float}
use Rattle.std.specs.Float.Ieee.{le}
use Rattle.ieee754.specs.Binary32.{two_to10}
use Rattle.ieee754.specs.Sign.{absolute}
use Rattle.sequences.specs.Folds.{every}

-- at most 1,024 in size; a NaN and the infinities are not
unfoldable pub in_range : Float → Bool
in_range x = le (absolute x) two_to10

unfoldable pub all_in_range : List Float → Bool
all_in_range xs = every in_range xs
