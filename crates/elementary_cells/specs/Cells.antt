-- Module 2: the cells of a table. There are c of them to 1, the middle of the cell k is k / c, and a number lies in the cell whose middle is nearest. A sum with
-- the shifter 3 * 2 ^ 51 / c has its last place at 1 / c, so it is rounded to the nearest middle, and its last eight binary places count the cells.
-- Definitions only.
use Rattle.std.specs.Prelude.{ℕ, ◌-◌, ◌%◌, true, false, cond, leb, Float}
use Rattle.std.specs.Float.{binary64}
use Rattle.std.specs.Float.Ieee.{add, sub, mul, round, to_bits}
use Rattle.elementary_series.specs.Fraction.{Fraction}

-- a table's entry: the f64 nearest to a fraction
abbrev pub nearest_to : Fraction → Float
nearest_to f = cond (leb f.minus f.plus) (round binary64 false (f.plus - f.minus) f.over) (round binary64 true (f.minus - f.plus) f.over)

unfoldable pub cell : Float → Float → ℕ
cell shifter a = to_bits binary64 (add binary64 a shifter) % 256

-- what a is off from the middle
unfoldable pub offset : Float → Float → Float
offset shifter a = sub binary64 a (sub binary64 (add binary64 a shifter) shifter)

-- the polynomial of degree 5 with the coefficients c 0 to c 5, at h
unfoldable pub quintic : (ℕ → Float) → Float → Float
quintic c h = add binary64 (c 0) (mul binary64 h (add binary64 (add binary64 (c 1) (mul binary64 h (c 2))) (mul binary64 (mul binary64 h h) (add binary64 (add binary64 (c 3) (mul binary64 h (c 4))) (mul binary64 (mul binary64 h h) (c 5))))))
