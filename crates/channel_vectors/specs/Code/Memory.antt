-- What a line sets in the window memory, whose length stays. Definitions only.
use Rattle.std.specs.Prelude.{ℕ, ◌+◌, ◌*◌, ◌%◌, List, length, set, replicate, Float}
use Rattle.ieee754.specs.Binary64.{over, zero}
use Rattle.vectors.specs.Code.Lines.{from_place}
use Rattle.channel_model.specs.Opening.{whole}

-- zeros
unfoldable pub cleared : List Float → List Float
cleared w = replicate (length w) zero

-- what place i has by the start s: (7 i + s) mod 64, in 64ths
unfoldable pub sixty_fourths : ℕ → ℕ → Float
sixty_fourths s i = over (whole ((7 * i + s) % 64)) (whole 64)

unfoldable pub filled : ℕ → List Float → List Float
filled s w = from_place (sixty_fourths s) 0 (length w)

-- one number set; behind the end there is no place
unfoldable pub poked : ℕ → Float → List Float → List Float
poked place value w = set w place value
