-- Module 6: the M2M4 estimate of the signal-to-noise ratio, in dB. The mean power m2 and the mean squared power m4 of the samples give the
-- signal's power, √(2 m2² - m4), and the rest of m2 is noise. A sample's power is rounded to binary32, all else to binary64. Definitions only.
use Rattle.std.specs.Prelude.{◌/◌, cond, List, length, pos, ◌==◌, Float}
use Rattle.std.specs.Float.{binary32, binary64}
use Rattle.std.specs.Float.Ieee.{of_int, add, neg, lt}
use Rattle.ieee754.specs.Binary64.{minus, times, over, square, zero, two, ten, twenty, forty, ten_to_minus10}
use Rattle.ieee754.specs.SquareRoot.{sqrt}
use Rattle.ieee754.specs.Order.{clamped}
use Rattle.elementary_logarithm.specs.Steps.{log10_of}
use Rattle.sums.specs.Ascending.{sum_from}
use Rattle.sums.specs.Complex.{Cx, norm_sqr}
use Rattle.sums.specs.Interleaved.{at}

-- the mean of g over the whole samples of a list: their sum from 0 up, divided by how many there are
unfoldable pub mean : (Cx → Float) → List Float → Float
mean g xs = let n = length xs / 2 in over (sum_from (add binary64) zero (λ k. g (at xs k)) n) (of_int binary64 (pos n))

-- √((2 m2) m2 - m4), and 0 where there is no such root
unfoldable pub signal_power : Float → Float → Float
signal_power m2 m4 = let v = minus (times (times two m2) m2) m4 in cond (lt zero v) (sqrt binary64 v) zero

-- 10 log (ps / pn) of a signal's power and a noise's, from -20 to 40. A power counts where it is above 1e-10: where there is no signal the
-- answer is -20, and where there is a signal and no noise 40.
unfoldable pub decibels : Float → Float → Float
decibels ps pn =
    cond (lt ten_to_minus10 ps)
    (cond (lt ten_to_minus10 pn) (clamped (times ten (log10_of (over ps pn))) (neg twenty) forty) forty)
    (neg twenty)

-- of interleaved samples; of none it is -20
unfoldable pub snr_of : List Float → Float
snr_of xs =
    let m2 = mean (norm_sqr binary32) xs in
    let ps = signal_power m2 (mean (λ a. square (norm_sqr binary32 a)) xs) in
    cond (length xs / 2 == 0) (neg twenty) (decibels ps (minus m2 ps))
