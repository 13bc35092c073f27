-- Complex numbers of two floats, with the operations that Rust's num-complex makes of those of a format. Definitions only.
use Rattle.std.specs.Prelude.{Float}
use Rattle.std.specs.Float.{Format}
use Rattle.std.specs.Float.Ieee.{of_bits, add, sub, mul, div, neg}

-- real and imaginary part
abbrev pub Cx : Type 0
Cx = Float × Float

abbrev pub zero_c : Format → Cx
zero_c f = (of_bits f 0, of_bits f 0)

abbrev pub add_c : Format → Cx → Cx → Cx
add_c f a b = (add f a.0 b.0, add f a.1 b.1)

abbrev pub mul_c : Format → Cx → Cx → Cx
mul_c f a b = (sub f (mul f a.0 b.0) (mul f a.1 b.1), add f (mul f a.0 b.1) (mul f a.1 b.0))

-- by a real number
abbrev pub div_c : Format → Cx → Float → Cx
div_c f a d = (div f a.0 d, div f a.1 d)

abbrev pub conj : Cx → Cx
conj a = (a.0, neg a.1)

-- the squared size
abbrev pub norm_sqr : Format → Cx → Float
norm_sqr f a = add f (mul f a.0 a.0) (mul f a.1 a.1)
