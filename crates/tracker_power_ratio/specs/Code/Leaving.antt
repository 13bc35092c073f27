-- A sum that moves by the number that leaves the ring, if one does. Definitions only.
use Rattle.std.specs.Prelude.{true, false, Option, Some, None, Float}
use Rattle.ieee754.specs.Binary64.{zero}
use Rattle.tracker_power_ratio.specs.PowerRatio.{moved_sum}

-- a sum moved by a new number, and by the old one itself, if there is one
abbrev pub moved_by : Float → Float → Option Float → Float
moved_by sum new (Some old) = moved_sum true sum new old
moved_by sum new None = moved_sum false sum new zero
