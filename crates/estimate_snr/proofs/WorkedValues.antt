-- The scope's values, computed from the definition: four samples (1, 0) give 40, none give -20.
use Rattle.std.proofs.Common.{◌≡◌, [], ◌∷◌, sym, refl}
use lib.Count.{count_trailing_zeros}
use lib.Ieee.{of_bits, of_fields, odd, of_int, add, sub, sum, mul, div, neg, lt, round, size, span, climb, units}
use Rattle.ieee754.specs.Binary32.{zero, one}
use Rattle.ieee754.specs.Binary64.{twenty, forty}
use Rattle.ieee754.specs.SquareRoot.{sqrt, round_root, root_digits}
use Rattle.sums.specs.Ascending.{sum_from}
use Rattle.estimate_snr.specs.MomentEstimate.{mean, signal_power, decibels, snr_of}
use Rattle.estimate_snr.proofs.EstimateCases.{no_samples_lem}

pub none_value : snr_of [] ≡ neg twenty
none_value = sym (no_samples_lem [] refl)

pub four_value : snr_of (one ∷ zero ∷ one ∷ zero ∷ one ∷ zero ∷ one ∷ zero ∷ []) ≡ forty
unfolding snr_of mean signal_power decibels sum_from sqrt round_root root_digits add sub sum mul div neg lt round size span climb units of_bits of_fields odd of_int count_trailing_zeros
four_value = refl
