-- Module 9: "the lent block is normalised in place when a flag 1 block meets an assigned channel". Every pair is divided by its size, all in
-- binary32; one whose size is not above 1e-6 becomes (0, 0). Definitions only.
use Rattle.std.specs.Prelude.{cond, List, Float}
use Rattle.std.specs.Float.{binary32}
use Rattle.std.specs.Float.Ieee.{div, lt}
use Rattle.ieee754.specs.Binary32.{zero, ten_to_minus6}
use Rattle.ieee754.specs.Conversion.{convert}
use Rattle.ieee754.specs.Hypotenuse.{hypotenuse}
use Rattle.sequences.specs.Pairs.{map_pairs}

unfoldable pub unit : Float × Float → Float × Float
unit s =
    let size = convert binary32 (hypotenuse s.0 s.1) in
    cond (lt ten_to_minus6 size) (div binary32 s.0 size, div binary32 s.1 size) (zero, zero)

unfoldable pub normalised : List Float → List Float
normalised xs = map_pairs unit xs
