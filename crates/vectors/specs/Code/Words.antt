-- Outside vectors are lines of numbers, each as 16 lower-case hexadecimal digits; and a word that stands for many numbers. Definitions only.
use Rattle.std.specs.Prelude.{List, cond, ℕ, ◌+◌, ◌-◌, ◌*◌, ◌%◌, ◌^◌, leb, ltb, Float}
use Rattle.std.specs.Float.{binary32, binary64}
use Rattle.std.specs.Float.Ieee.{to_bits}
use Rattle.std.specs.List.{fold}

-- the value of a digit, from 0 (48) to 9 (57) or from a (97) to f (102); any other byte counts as 0
unfoldable pub digit_of : ℕ → ℕ
digit_of b = cond (ltb b 48) 0 (cond (leb b 57) (b - 48) (cond (ltb b 97) 0 (cond (leb b 102) (b - 87) 0)))

-- one digit more
unfoldable pub with_digit : ℕ → ℕ → ℕ
unfolding digit_of
with_digit v b = v % 2 ^ 60 * 16 + digit_of b

-- the number that digits stand for; of more than 16 only the last 16 count
unfoldable pub word_of : List ℕ → ℕ
unfolding with_digit
word_of digits = fold with_digit 0 digits

-- one number more in a word that stands for many, modulo the prime 2 ^ 59 - 55
unfoldable pub mixed_number : ℕ → ℕ → ℕ
mixed_number sum n = sum % (2 ^ 59 - 55) * 31 + n % (2 ^ 59 - 55)

-- the same for a value that stands as a number
unfoldable pub mixed_by {ℓ} : {A : Type ℓ} → (A → ℕ) → ℕ → A → ℕ
mixed_by f sum x = mixed_number sum (f x)

-- for an f64 and for an f32, by its pattern
abbrev pub mixed : ℕ → Float → ℕ
mixed = mixed_by (to_bits binary64)

abbrev pub mixed32 : ℕ → Float → ℕ
mixed32 = mixed_by (to_bits binary32)
