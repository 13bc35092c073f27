-- The scope's value of `cancel`, and one on each side of the two limits, computed from the definitions.
use mathlib.Core.Path.{◌≡◌, refl}
use lib.Count.{count_trailing_zeros}
use lib.Ieee.{of_bits, of_fields, odd, add, sub, sum, mul, div, neg, lt, eq, ne, round, size, span, climb, units}
use Rattle.ieee754.specs.Binary64.{zero, one, two, three, four}
use Rattle.ieee754.specs.Sign.{absolute}
use Rattle.estimate_dispersion.specs.Dispersion.{dispersion_free, electron_content}

-- f1 2, f2 1, offsets 3 and 0
pub cancel_value : dispersion_free two one three zero ≡ four
unfolding dispersion_free absolute add sub sum mul div neg lt round size span climb units of_bits of_fields odd count_trailing_zeros
cancel_value = refl

-- equal carriers: the first offset
pub cancel_equal : dispersion_free one one three four ≡ three
unfolding dispersion_free absolute add sub sum mul div neg lt round size span climb units of_bits of_fields odd count_trailing_zeros
cancel_equal = refl

-- equal carriers: the old electron content
pub content_equal : electron_content two two one zero three ≡ three
unfolding electron_content absolute add sub sum mul div neg lt eq ne round size span climb units of_bits of_fields odd count_trailing_zeros
content_equal = refl

-- carriers 2 and 1, phases 2 and 1: the same phase for each hertz, so nothing was on the way
pub content_none : electron_content two one two one three ≡ zero
unfolding electron_content absolute add sub sum mul div neg lt eq ne round size span climb units of_bits of_fields odd count_trailing_zeros
content_none = refl
