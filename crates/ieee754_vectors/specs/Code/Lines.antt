-- A line of the vectors: an operation's letter, three arguments and the result, each as 16 hexadecimal digits after a space. A float stands as its
-- pattern, an f32 in the lower half. Definitions only.
use Rattle.std.specs.Prelude.{List, Bool, cond, ℕ, eqb, pos, get_or}
use Rattle.std.specs.Float.{binary32, binary64}
use Rattle.std.specs.Float.Ieee.{of_bits, to_bits, of_int, to_unsigned}
use Rattle.ieee754.specs.Conversion.{convert}
use Rattle.ieee754.specs.Integral.{rounded_away}
use Rattle.ieee754.specs.Order.{maximum, clamped}
use Rattle.ieee754.specs.Remainder.{rem_euclid}
use Rattle.ieee754.specs.Sign.{absolute}
use Rattle.ieee754.specs.SquareRoot.{sqrt}
use Rattle.ieee754.specs.Hypotenuse.{hypotenuse}
use Rattle.sequences.specs.Stretches.{stretch}
use Rattle.vectors.specs.Code.Lines.{single}
use Rattle.vectors.specs.Code.Words.{word_of}

-- s square root, n f64 to f32, w f32 to f64, u u64 to f64, r rounded to an integer, t as usize, h and g hypotenuse of f64 and of f32, e Euclidean
-- remainder, m maximum, c clamp; a, and any other letter, absolute value
unfoldable pub answer : ℕ → ℕ → ℕ → ℕ → ℕ
answer letter a b c =
    cond (eqb letter 115) (to_bits binary64 (sqrt binary64 (of_bits binary64 a)))
    (cond (eqb letter 110) (to_bits binary32 (convert binary32 (of_bits binary64 a)))
    (cond (eqb letter 119) (to_bits binary64 (single a))
    (cond (eqb letter 117) (to_bits binary64 (of_int binary64 (pos a)))
    (cond (eqb letter 114) (to_bits binary64 (rounded_away binary64 (of_bits binary64 a)))
    (cond (eqb letter 116) (to_unsigned 64 (of_bits binary64 a))
    (cond (eqb letter 104) (to_bits binary64 (hypotenuse (of_bits binary64 a) (of_bits binary64 b)))
    (cond (eqb letter 103) (to_bits binary32 (convert binary32 (hypotenuse (single a) (single b))))
    (cond (eqb letter 101) (to_bits binary64 (rem_euclid binary64 (of_bits binary64 a) (of_bits binary64 b)))
    (cond (eqb letter 109) (to_bits binary64 (maximum (of_bits binary64 a) (of_bits binary64 b)))
    (cond (eqb letter 99) (to_bits binary64 (clamped (of_bits binary64 a) (of_bits binary64 b) (of_bits binary64 c)))
    (to_bits binary64 (absolute (of_bits binary64 a)))))))))))))

-- the result stands in the line
unfoldable pub line_agrees : List ℕ → Bool
line_agrees line =
    eqb (answer (get_or line 0 0) (word_of (stretch 2 16 line)) (word_of (stretch 19 16 line)) (word_of (stretch 36 16 line))) (word_of (stretch 53 16 line))
