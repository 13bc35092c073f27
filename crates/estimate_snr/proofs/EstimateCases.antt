-- The definitions by their cases, as the functions' proofs and the scope's values cite them.
use Rattle.std.proofs.Common.{◌≡◌, ℕ, ◌/◌, ◌≤◌, List, length, pos}
use lib.Ieee.{Float, binary64, of_int, add, div, neg}
use Rattle.ieee754.specs.Binary64.{zero, twenty}
use Rattle.sums.specs.Ascending.{sum_from}
use Rattle.sums.specs.Complex.{Cx}
use Rattle.sums.specs.Interleaved.{at}
use Rattle.sums.proofs.Adding.{sum_end}
use Rattle.estimate_snr.specs.MomentEstimate.{mean, snr_of}

pub mean_is : (g : Cx → Float) (xs : List Float) (k : ℕ) {s l : Float} → s ≡ sum_from (add binary64) zero (λ k. g (at xs k)) k
    → k ≤ length xs / 2 → length xs / 2 ≤ k → l ≡ of_int binary64 (pos (length xs / 2)) → div binary64 s l ≡ mean g xs
unfolding mean
mean_is g xs k es a b el = rw (sum_end _ _ _ k (length xs / 2) es a b, el)

pub no_samples_lem : (xs : List Float) → length xs / 2 ≡ 0 → neg twenty ≡ snr_of xs
unfolding snr_of
no_samples_lem xs h = rw h
