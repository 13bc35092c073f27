-- Module 4: `estimate_frequency_esprit` with m = 10 and 15 power steps, from the correlation matrix on. Vectors and the matrix stand re, im,
-- re, im, ... Every operation is one of binary64, and sums go by ascending index. Definitions only.
use Rattle.std.specs.Prelude.{List, cond, ℕ, zero, suc, ◌+◌, ◌-◌, ◌*◌, ◌/◌, length, ltb, Float}
use Rattle.std.specs.Float.{binary64}
use Rattle.std.specs.Float.Ieee.{add, neg, lt}
use Rattle.ieee754.specs.Binary64 as float
use Rattle.ieee754.specs.Binary64.{times, over, one, two, two_pi, ten_to_minus12}
use Rattle.ieee754.specs.SquareRoot.{sqrt}
use Rattle.ieee754.specs.Order.{clamped}
use Rattle.estimate_correlation.specs.Correlation.{correlation_matrix}
use Rattle.elementary_arctangent.specs.Steps.{atan2_of}
use Rattle.sums.specs.Ascending.{sum_from, sum_to}
use Rattle.sums.specs.Complex.{Cx, zero_c, add_c, mul_c, div_c, conj, norm_sqr}
use Rattle.sums.specs.Interleaved.{at, table}

-- ---- the strongest vector of the correlation matrix, by power iteration; the product's sums and the norm's start at their first term

unfoldable pub matrix_times : List Float → List Float → List Float
matrix_times r u = table 10 (λ i. sum_to (add_c binary64) (λ j. mul_c binary64 (at r (10 * i + j)) (at u j)) 9)

unfoldable pub norm : List Float → Float
norm w = sqrt binary64 (sum_to (add binary64) (λ i. norm_sqr binary64 (at w i)) 9)

unfoldable pub divided_by : Float → List Float → List Float
divided_by d w = table 10 (λ i. div_c binary64 (at w i) d)

-- at most n steps from u; they end where the product's norm is not above 1e-12
unfoldable pub power_iteration : ℕ → List Float → List Float → List Float
power_iteration zero r u = u
power_iteration (suc n) r u = let w = matrix_times r u in cond (lt ten_to_minus12 (norm w)) (power_iteration n r (divided_by (norm w) w)) u

unfoldable pub ones : List Float
ones = table 10 (λ i. (one, float.zero))

-- ---- the mean phase from each of its numbers to the next, and the frequency that turns so much from sample to sample

unfoldable pub lag_one_product : List Float → Cx
lag_one_product u = sum_from (add_c binary64) (zero_c binary64) (λ i. mul_c binary64 (conj (at u i)) (at u (i + 1))) 9

unfoldable pub energy : List Float → Float
energy u = sum_from (add binary64) float.zero (λ i. norm_sqr binary64 (at u i)) 9

-- at the sample rate fs: -(angle fs) / 2π, within half the rate; 0 where the energy is not above 1e-12
unfoldable pub frequency : List Float → Float → Float
frequency u fs =
    let psi = div_c binary64 (lag_one_product u) (energy u) in
    let f = over (neg (times (atan2_of psi.1 psi.0) fs)) two_pi in
    cond (lt ten_to_minus12 (energy u)) (clamped f (over (neg fs) two) (over fs two)) float.zero

-- ---- the estimate; fewer than ten samples give 0, and n samples have n - 9 places

unfoldable pub estimate : List Float → Float → Float
estimate xs fs =
    let n = length xs / 2 in
    cond (ltb n 10) float.zero (frequency (power_iteration 15 (correlation_matrix xs (n - 9)) ones) fs)
