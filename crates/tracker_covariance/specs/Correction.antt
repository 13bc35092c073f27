-- Correction by a measurement of state i with the variance R (the scope, module 3), h picking state i. Definitions only.
use Rattle.std.specs.Prelude.{ℕ, Bool, cond, List, eqb, Float}
use Rattle.std.specs.Float.Ieee.{le}
use Rattle.ieee754.specs.Binary64 as float
use Rattle.ieee754.specs.Order.{maximum}
use Rattle.ieee754.specs.Sign.{absolute}
use Rattle.ieee754.specs.Binary64.{plus, minus, times, over}
use Rattle.tracker_covariance.specs.Matrix.{el, at, vector, matrix}

-- s = P(i,i) + R
unfoldable pub innovation_variance : List Float → ℕ → Float → Float
innovation_variance p i noise = plus (at p i i) noise

-- a correction takes a gain where |s| is at least 1e-12; a NaN is not
unfoldable pub takes_gain : Float → Bool
takes_gain s = le float.ten_to_minus12 (absolute s)

-- K: column i of P over s
unfoldable pub gain_of : List Float → ℕ → Float → List Float
gain_of p i s = vector (λ r. over (at p r i) s)

-- x + K·z
unfoldable pub corrected_state : List Float → List Float → Float → List Float
corrected_state x k z = vector (λ r. plus (el x r) (times (el k r) z))

-- P with each variance raised to the least, 1e-15; a NaN becomes the least, too
abbrev pub floored : List Float → List Float
floored p = matrix (λ r c. cond (eqb r c) (maximum (at p r c) float.ten_to_minus15) (at p r c))

-- (I − K·h)·P, where h·P is row i of P
abbrev pub joseph_left : List Float → ℕ → List Float → List Float
joseph_left p i k = matrix (λ r c. minus (at p r c) (times (el k r) (at p i c)))

-- T·(I − K·h)ᵀ + K·R·Kᵀ, where T·hᵀ is column i of T
abbrev pub joseph_right : List Float → ℕ → List Float → Float → List Float
joseph_right t i k noise = matrix (λ r c. plus (minus (at t r c) (times (at t r i) (el k c))) (times (times (el k r) (el k c)) noise))

-- the floor, which the source applies after the gain was taken, and then (I − K·h)·P·(I − K·h)ᵀ + K·R·Kᵀ, Joseph's form
unfoldable pub corrected : List Float → ℕ → List Float → Float → List Float
corrected p i k noise = joseph_right (joseph_left (floored p) i k) i k noise
