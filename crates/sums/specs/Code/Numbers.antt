-- Numbers of the program as pairs. Definitions only.
use Rattle.std.specs.Prelude.{List, ℕ, get_or}
use Rattle.std.specs.Float.{nan}
use Rattle.sums.specs.declared.complex.Complex.{Complex}
use Rattle.sums.specs.Complex.{Cx}

-- the two parts of a number of the program
abbrev pub parts : Complex → Cx
parts z = (z.re, z.im)

-- number i of a list of them, counted from 0
abbrev pub number : List Complex → ℕ → Cx
number zs i = parts (get_or zs i (record { re = nan; im = nan }))
