-- The program's matrix as a list. Definitions only.
use Rattle.std.specs.Prelude.{List, [], ◌/◌, ◌%◌, get_or, Float}
use Rattle.sums.specs.declared.complex.Complex.{Complex}
use Rattle.sums.specs.Interleaved.{table}
use Rattle.sums.specs.Code.Numbers.{number}

-- a matrix of the program, ten rows of ten, as such a list
abbrev pub matrix : List (List Complex) → List Float
matrix rows = table 100 (λ p. number (get_or rows (p / 10) []) (p % 10))
