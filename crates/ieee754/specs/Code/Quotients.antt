-- Module 1: a quotient of two whole numbers to the nearest whole number, by which the code narrows a float. Definitions only.
use Rattle.std.specs.Prelude.{ℕ, ◌*◌, ◌/◌, ◌%◌, cond, nat_lt}
use Prim.Native.Nat.{compare}
use Rattle.std.specs.Float.Ieee.{nearest}

-- a / b to the nearest whole number, a tie to the even one
abbrev pub nearest_quotient : ℕ → ℕ → ℕ
nearest_quotient a b = nearest (a / b) (compare (a % b * 2) b)

-- what rounding adds to a quotient q whose remainder is rest, for a divisor twice half
unfoldable pub rounding_carry : ℕ → ℕ → ℕ → ℕ
rounding_carry q rest half = cond (nat_lt rest half) 0 (cond (nat_lt half rest) 1 (q % 2))
