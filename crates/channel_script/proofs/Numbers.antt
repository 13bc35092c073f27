-- Floats as code writes them, by their patterns, are those of the definitions. Assumes nothing.
use mathlib.Core.Path.{◌≡◌, refl}
use lib.Ieee.{nan, binary32, binary64, of_bits, of_int, div}
use Rattle.ieee754.specs.Binary64 as float
use Rattle.channel_script.specs.Code.Looking.{count}

pub quarter : of_bits binary32 1048576000 ≡ float.quarter
unfolding of_bits
quarter = refl

pub four_fifths : of_bits binary32 1061997773 ≡ div binary32 float.four float.five
unfolding of_bits div
four_fifths = refl

pub three_fifths : of_bits binary32 1058642330 ≡ div binary32 float.three float.five
unfolding of_bits div
three_fifths = refl

pub three : of_bits binary32 1077936128 ≡ float.three
unfolding of_bits
three = refl

pub four : of_bits binary32 1082130432 ≡ float.four
unfolding of_bits
four = refl

-- the parts of samples
pub ruleset parts = (quarter, four_fifths, three_fifths, three, four)

pub target : of_bits binary64 4728889743511650304 ≡ count 137500000
unfolding of_bits of_int
target = refl

-- the library's pattern of no number
pub no_number : of_bits binary64 9221120237041090560 ≡ nan
unfolding of_bits
no_number = refl
