-- Module 2: the hypotenuse. Definitions only.
use Rattle.std.specs.Prelude.{Float}
use Rattle.std.specs.Float.{binary64}
use Rattle.ieee754.specs.Binary64.{plus, square}
use Rattle.ieee754.specs.SquareRoot.{sqrt}

-- The square root of the f64 sum of squares. (Of two f32, which are f64 as well, it is this one rounded to f32.)
abbrev pub hypotenuse : Float → Float → Float
hypotenuse x y = sqrt binary64 (plus (square x) (square y))
