-- The covariance of a tracker that was opened, reset or lost: variances 1 for a phase, (2π × 100)² for a frequency and (2π × 50)² for a
-- chirp, and no covariances. Definitions only.
use Rattle.std.specs.Prelude.{cond, List, [], ◌∷◌, eqb, Float}
use Rattle.ieee754.specs.Binary64 as float
use Rattle.ieee754.specs.Binary64.{times, square, zero, one, two_pi}
use Rattle.tracker_covariance.specs.Matrix.{el, matrix}

-- the matrix with the diagonal d and 0 elsewhere
abbrev pub diagonal : List Float → List Float
diagonal d = matrix (λ r c. cond (eqb r c) (el d r) zero)

-- (2π × 100)²
abbrev pub initial_freq : Float
initial_freq = square (times two_pi float.hundred)

-- (2π × 50)²
abbrev pub initial_chirp : Float
initial_chirp = square (times two_pi float.fifty)

unfoldable pub initial_covariance : List Float
unfolding matrix
initial_covariance = diagonal (one ∷ initial_freq ∷ initial_chirp ∷ one ∷ initial_freq ∷ initial_chirp ∷ [])
