-- Numbers of the text: "a decimal number, or x and the pattern of an f64". Definitions only.
use Rattle.std.specs.Prelude.{true, false, cond, List, [], ◌∷◌, ℕ, ◌%◌, Float}
use Prim.Native.Char.{code}
use Rattle.std.specs.Float.{binary64}
use Rattle.std.specs.Float.Ieee.{neg, of_bits}
use Rattle.ieee754.specs.Binary64.{plus, times, over, zero, one, ten}
use Rattle.std.specs.List.{fold}
use Rattle.vectors.specs.Code.Words.{word_of}
use Rattle.channel_script.specs.Code.Letters.{stands_for}
use Rattle.channel_script.specs.Code.Looking.{count}
use Rattle.channel_cases.specs.declared.number.Decimal.{Decimal}

-- A decimal number as far as it is read: whether it has a minus, whether its point has come, its digits as a whole number, and the power of ten that those
-- after the point are over.
abbrev pub no_digits : Decimal
no_digits = record { negative = false; point = false; digits = zero; unit = one }

-- one digit more, whose value is the byte's low half
unfoldable pub with_decimal : Decimal → ℕ → Decimal
with_decimal d b =
    record {
      negative = d.negative;
      point = d.point;
      digits = plus (times d.digits ten) (count (b % 16));
      unit = cond d.point (times d.unit ten) d.unit;
    }

-- one byte more: a minus, a point, or a digit
unfoldable pub with_byte : Decimal → ℕ → Decimal
with_byte d b =
    stands_for b
    ((code "-", record { negative = true; point = d.point; digits = d.digits; unit = d.unit })
    ∷ (code ".", record { negative = d.negative; point = true; digits = d.digits; unit = d.unit })
    ∷ [])
    (with_decimal d b)

-- the digits over the power of ten: both are exact up to 15 digits, so the quotient is the nearest f64
unfoldable pub quotient : Decimal → Float
quotient d = over (cond d.negative (neg d.digits) d.digits) d.unit

unfoldable pub decimal_of : List ℕ → Float
decimal_of s = quotient (fold with_byte no_digits s)

-- the f64 whose pattern stands as hexadecimal digits
unfoldable pub pattern_of : List ℕ → Float
pattern_of digits = of_bits binary64 (word_of digits)
