-- Numbers in the pass text: decimal ones of at most 12 digits without leading zeros, and hexadecimal ones in lower case. Definitions only.
use Rattle.std.specs.Prelude.{Bool, cond, ◌&&◌, ◌||◌, not, List, ℕ, ◌+◌, ◌-◌, ◌*◌, eqb, ltb, leb, length, get_or}
use Rattle.std.specs.Prelude.{Option, Some, None}
use Prim.Native.Char.{code}
use Rattle.sequences.specs.Folds.{fold, every}

-- the value of a digit, `0` to `9` and `a` to `f`; 16 of any other byte
unfoldable pub digit_value : ℕ → ℕ
digit_value b = cond (leb (code "0") b && leb b (code "9")) (b - code "0") (cond (leb (code "a") b && leb b (code "f")) (b - code "a" + 10) 16)

-- a digit of a base, 10 or 16
unfoldable pub is_digit : ℕ → ℕ → Bool
is_digit base b = ltb (digit_value b) base

-- a number with one more digit behind it
abbrev pub digit_behind : ℕ → ℕ → ℕ → ℕ
digit_behind base v b = v * base + digit_value b

-- the number that digits write, the most significant first; none where a byte is no digit
unfoldable pub number_of : ℕ → List ℕ → Option ℕ
number_of base s = cond (every (is_digit base) s) (Some (fold (digit_behind base) 0 s)) None

-- at most 12 digits, without leading zeros: a number of two or more digits does not start with `0`
unfoldable pub decimal_shape : List ℕ → Bool
decimal_shape s = leb 1 (length s) && leb (length s) 12 && (eqb (length s) 1 || not (eqb (get_or s 0 0) (code "0")))

unfoldable pub decimal_of : List ℕ → Option ℕ
decimal_of s = cond (decimal_shape s) (number_of 10 s) None
