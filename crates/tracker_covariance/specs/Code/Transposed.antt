-- The transpose of a matrix of 6 by 6, which the code makes twice for one prediction. Definitions only.
use Rattle.std.specs.Prelude.{List, Float}
use Rattle.tracker_covariance.specs.Matrix.{at, matrix}

-- the transpose
abbrev pub transposed : List Float → List Float
transposed p = matrix (λ r c. at p c r)
