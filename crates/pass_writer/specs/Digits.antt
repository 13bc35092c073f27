-- Numbers as the list writes them. Definitions only.
use Rattle.std.specs.Prelude.{cond, List, [], ◌∷◌, ◌++◌, ℕ, zero, suc, ◌+◌, ◌-◌, ◌/◌, ◌%◌, ltb, Float}
use Prim.Native.Char.{code}
use Rattle.std.specs.Float.{binary64}
use Rattle.std.specs.Float.Ieee.{to_bits}

-- the byte of a digit below 16: `0` to `9`, then `a` to `f`
unfoldable pub glyph_of : ℕ → ℕ
glyph_of d = cond (ltb d 10) (code "0" + d) (code "a" + (d - 10))

-- the last k digits of n in a base, the most significant first
unfoldable pub digits : ℕ → ℕ → ℕ → List ℕ
digits base zero n = []
digits base (suc k) n = digits base k (n / base) ++ (glyph_of (n % base) ∷ [])

-- a number of at most k digits in decimal, without leading zeros
unfoldable pub decimal_from : ℕ → ℕ → List ℕ
decimal_from zero n = []
decimal_from (suc k) n = cond (ltb n 10) (glyph_of n ∷ []) (decimal_from k (n / 10) ++ (glyph_of (n % 10) ∷ []))

-- a number of 64 bits has at most 20 digits
unfoldable pub decimal_text : ℕ → List ℕ
decimal_text n = decimal_from 20 n

-- a float as the 16 hexadecimal digits of its f64 bits, any NaN as 7ff8000000000000
unfoldable pub float_text : Float → List ℕ
float_text x = digits 16 16 (to_bits binary64 x)
