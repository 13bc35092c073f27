-- Module 1: a float's size and its sign. The same at every format. Definitions only.
use Rattle.std.specs.Prelude.{Bool, false, cond, pos, Float}
use Rattle.std.specs.Float.{nan, inf, fin}
use Rattle.std.specs.Float.Ieee.{neg}

abbrev pub plus_zero : Float
plus_zero = fin false 0 (pos 0)

-- the absolute value: the sign is cleared, also a zero's
unfoldable pub absolute : Float → Float
absolute nan = nan
absolute (inf s) = inf false
absolute (fin s m e) = fin false m e

-- whether the sign is set, also a zero's; a NaN has none
abbrev pub sign_bit : Float → Bool
sign_bit nan = false
sign_bit (inf s) = s
sign_bit (fin s m e) = s

-- x, with its sign changed where s says so
abbrev pub signed : Bool → Float → Float
signed s x = cond s (neg x) x
