-- The entry in row r and column c of each matrix that a loop fills. Definitions only.
use Rattle.std.specs.Prelude.{ℕ, List, Float}
use Rattle.ieee754.specs.Binary64.{plus, minus, times, half}
use Rattle.tracker_covariance.specs.Matrix.{el, at}

-- of P + Q
abbrev pub sum_at : List Float → List Float → ℕ → ℕ → Float
sum_at p q r c = plus (at p r c) (at q r c)

-- of the mean of P and its transpose
abbrev pub mean_at : List Float → ℕ → ℕ → Float
mean_at p r c = times (plus (at p r c) (at p c r)) half

-- of (I − K·h)·P
abbrev pub joseph_left_at : List Float → ℕ → List Float → ℕ → ℕ → Float
joseph_left_at p i k r c = minus (at p r c) (times (el k r) (at p i c))

-- of T·(I − K·h)ᵀ + K·R·Kᵀ
abbrev pub joseph_right_at : List Float → ℕ → List Float → Float → ℕ → ℕ → Float
joseph_right_at t i k noise r c =
    plus (minus (at t r c) (times (at t r i) (el k c))) (times (times (el k r) (el k c)) noise)
