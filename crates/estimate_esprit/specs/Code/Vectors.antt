-- The program's vector as a list. Definitions only.
use Rattle.std.specs.Prelude.{List, Float}
use Rattle.sums.specs.declared.complex.Complex.{Complex}
use Rattle.sums.specs.Interleaved.{table}
use Rattle.sums.specs.Code.Numbers.{number}

-- a vector of the program, ten numbers, as such a list
abbrev pub vector : List Complex → List Float
vector zs = table 10 (number zs)
