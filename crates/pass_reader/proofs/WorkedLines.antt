-- Lines of the scope's example, and lines just outside the form, as the definitions read them.
use mathlib.Core.Path.{◌≡◌, refl}
use mathlib.Core.List.{[], ◌∷◌}
use Rattle.std.specs.Prelude.{Some, None}
use lib.Ieee.{binary32, of_bits}
use Rattle.sequences.specs.Folds.{fold, every}
use Rattle.pass_reader.specs.Bytes.{bytes, same, whole_line, onto, fields, line_fields}
use Rattle.pass_reader.specs.Numbers.{digit_value, is_digit, number_of, decimal_shape, decimal_of}
use Rattle.pass_reader.specs.Lines.{decimals, nine_values, values_line, bits_of, whole_pairs, samples_of, two_fields, flag_and_samples}

values_line_lem : values_line (bytes "40000 1 0 1 1 1 5 0 137500000\n") ≡ Some (40000 ∷ 1 ∷ 0 ∷ 1 ∷ 1 ∷ 1 ∷ 5 ∷ 0 ∷ 137500000 ∷ [])
unfolding values_line nine_values decimals line_fields fields onto whole_line decimal_of decimal_shape number_of every fold is_digit digit_value
values_line_lem = refl

modulation_not_cut : values_line (bytes "40000 1 4294967297 1 1 1 5 0 0\n") ≡ Some (40000 ∷ 1 ∷ 4294967297 ∷ 1 ∷ 1 ∷ 1 ∷ 5 ∷ 0 ∷ 0 ∷ [])
unfolding values_line nine_values decimals line_fields fields onto whole_line decimal_of decimal_shape number_of every fold is_digit digit_value
modulation_not_cut = refl

leading_zero : values_line (bytes "40000 1 00 1 1 1 5 0 0\n") ≡ None
unfolding values_line nine_values decimals line_fields fields onto whole_line decimal_of decimal_shape number_of every fold is_digit digit_value
leading_zero = refl

switch_two : values_line (bytes "40000 1 0 2 1 1 5 0 0\n") ≡ None
unfolding values_line nine_values decimals line_fields fields onto whole_line decimal_of decimal_shape number_of every fold is_digit digit_value
switch_two = refl

two_spaces : values_line (bytes "40000  1 0 1 1 1 5 0 0\n") ≡ None
unfolding values_line nine_values decimals line_fields fields onto whole_line decimal_of decimal_shape number_of every fold is_digit digit_value
two_spaces = refl

ten_values : values_line (bytes "40000 1 0 1 1 1 5 0 0 0\n") ≡ None
unfolding values_line nine_values decimals line_fields fields onto whole_line decimal_of decimal_shape number_of every fold is_digit digit_value
ten_values = refl

-- `40000 1 0 1 1 1 5 0 0` with no newline, and no line at all
no_newline : values_line (bytes "40000 1 0 1 1 1 5 0 0") ≡ None
unfolding values_line nine_values decimals line_fields fields onto whole_line decimal_of decimal_shape number_of every fold is_digit digit_value
no_newline = refl

no_values : values_line [] ≡ None
unfolding values_line nine_values decimals line_fields fields onto whole_line decimal_of decimal_shape number_of every fold is_digit digit_value
no_values = refl

dash_line : flag_and_samples (bytes "3 -\n") ≡ Some (3, [])
unfolding flag_and_samples two_fields samples_of whole_pairs bits_of same line_fields fields onto whole_line decimal_of decimal_shape number_of every fold is_digit digit_value
dash_line = refl

one_pair : flag_and_samples (bytes "256 3f800000bf000000\n") ≡ Some (256, of_bits binary32 0x3f800000 ∷ of_bits binary32 0xbf000000 ∷ [])
unfolding flag_and_samples two_fields samples_of whole_pairs bits_of same line_fields fields onto whole_line decimal_of decimal_shape number_of every fold is_digit digit_value
one_pair = refl

capital : flag_and_samples (bytes "1 3F800000bf000000\n") ≡ None
unfolding flag_and_samples two_fields samples_of whole_pairs bits_of same line_fields fields onto whole_line decimal_of decimal_shape number_of every fold is_digit digit_value
capital = refl

half_a_pair : flag_and_samples (bytes "1 3f800000\n") ≡ None
unfolding flag_and_samples two_fields samples_of whole_pairs bits_of same line_fields fields onto whole_line decimal_of decimal_shape number_of every fold is_digit digit_value
half_a_pair = refl

space_at_the_end : flag_and_samples (bytes "1 - \n") ≡ None
unfolding flag_and_samples two_fields samples_of whole_pairs bits_of same line_fields fields onto whole_line decimal_of decimal_shape number_of every fold is_digit digit_value
space_at_the_end = refl

no_samples_lem : flag_and_samples (bytes "1 \n") ≡ None
unfolding flag_and_samples two_fields samples_of whole_pairs bits_of same line_fields fields onto whole_line decimal_of decimal_shape number_of every fold is_digit digit_value
no_samples_lem = refl
