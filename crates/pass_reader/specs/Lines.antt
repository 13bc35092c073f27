-- The lines of the pass text. Each is in the form, with the values that it writes, or it is refused with the number 13. Definitions only.
use Rattle.std.specs.Prelude.{Bool, cond, ◌&&◌, List, [], ◌∷◌, map, ℕ, zero, suc, ◌*◌, ◌/◌, ◌%◌, eqb, leb, length, take, drop, get_or, Float}
use Rattle.std.specs.Prelude.{Option, Some, None, option_map, option_and_then}
use Rattle.std.specs.Float.{binary32}
use Rattle.std.specs.Float.Ieee.{of_bits}
use Rattle.sequences.specs.Folds.{fold, every}
use Rattle.pass_reader.specs.Bytes.{bytes, same, line_fields}
use Rattle.pass_reader.specs.Numbers.{is_digit, digit_behind, decimal_of}

-- the refusal number of a line outside the form
abbrev pub outside : ℕ
outside = 13

-- the first line, and the third
abbrev pub names : List ℕ
names = bytes "rate factor mod adaptive dual bank fade nominal target\n"

abbrev pub block_names : List ℕ
block_names = bytes "flag samples\n"

-- THE LINE OF VALUES: nine decimal fields in the order of their names, of which adaptive, dual and bank are switches, 0 or 1.

-- the numbers that fields write, if each of them is decimal
unfoldable pub decimals : List (List ℕ) → Option (List ℕ)
decimals [] = Some []
decimals (f ∷ r) = option_and_then (λ n. option_map (λ l. n ∷ l) (decimals r)) (decimal_of f)

-- numbers, if there are nine and the switches are switches
unfoldable pub nine_values : List ℕ → Option (List ℕ)
nine_values v = cond (eqb (length v) 9 && leb (get_or v 3 0) 1 && leb (get_or v 4 0) 1 && leb (get_or v 5 0) 1) (Some v) None

-- the values of a line, if it is in the form
unfoldable pub values_line : List ℕ → Option (List ℕ)
values_line line = option_and_then nine_values (decimals (line_fields line))

-- THE LINE OF A BLOCK: its flag, decimal, and its samples. These run on as 8 lower-case hexadecimal digits each, the bits of an f32,
-- re then im, 1 to 2,048 whole pairs; or `-` for none.

-- the bits of n components that run on
unfoldable pub bits_of : ℕ → List ℕ → List ℕ
bits_of zero t = []
bits_of (suc n) t = fold (digit_behind 16) 0 (take 8 t) ∷ bits_of n (drop 8 t)

-- 1 to 2,048 whole pairs, of 16 digits each
unfoldable pub whole_pairs : List ℕ → Bool
whole_pairs t = eqb (length t % 16) 0 && leb (16 * 1) (length t) && leb (length t) (16 * 2048)

-- the components that a field writes; every NaN pattern is the one NaN
unfoldable pub samples_of : List ℕ → Option (List Float)
samples_of t =
    cond (same t (bytes "-")) (Some [])
    (cond (whole_pairs t && every (is_digit 16) t) (Some (map (of_bits binary32) (bits_of (length t / 8) t))) None)

-- the flag and the samples of just two fields
unfoldable pub two_fields : List (List ℕ) → Option (ℕ × List Float)
two_fields f = cond (eqb (length f) 2) (option_and_then (λ flag. option_map (λ s. (flag, s)) (samples_of (get_or f 1 []))) (decimal_of (get_or f 0 []))) None

-- the flag and the samples of a line, if it is in the form
unfoldable pub flag_and_samples : List ℕ → Option (ℕ × List Float)
flag_and_samples line = two_fields (line_fields line)
