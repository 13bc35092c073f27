-- Lines of the scope's example as the definitions write them.
use mathlib.Core.Path.{◌≡◌, refl}
use mathlib.Core.Bool.{true, false}
use lib.Ieee.{nan, binary64, of_bits, to_bits}
use Rattle.pass_reader.specs.Bytes.{bytes}
use Rattle.pass_writer.specs.Digits.{glyph_of, digits, decimal_from, decimal_text, float_text}
use Rattle.pass_writer.specs.Lines.{line_of, block_text, refusal_text}

second_block : block_text 2 (record { locked = true; tracker = 0; fade = 0; phase = of_bits binary64 0x0; frequency = of_bits binary64 0x41a0642ac0000000; snr = of_bits binary64 0xc034000000000000 })
    ≡ bytes "2 1 0 0 0000000000000000 41a0642ac0000000 c034000000000000\n"
unfolding block_text line_of decimal_text decimal_from float_text digits glyph_of to_bits of_bits
second_block = refl

a_nan : block_text 10 (record { locked = false; tracker = 3; fade = 216000; phase = nan; frequency = of_bits binary64 0x0; snr = of_bits binary64 0x3fe0000000000000 })
    ≡ bytes "10 0 3 216000 7ff8000000000000 0000000000000000 3fe0000000000000\n"
unfolding block_text line_of decimal_text decimal_from float_text digits glyph_of to_bits of_bits
a_nan = refl

a_refusal : refusal_text 2 13 ≡ bytes "refused 2 13\n"
unfolding refusal_text line_of decimal_text decimal_from glyph_of
a_refusal = refl

-- the largest number of 64 bits
largest : decimal_text 18446744073709551615 ≡ bytes "18446744073709551615"
unfolding decimal_text decimal_from glyph_of
largest = refl
