-- How the code adds up the correlations, place by place. Definitions only.
use Rattle.std.specs.Prelude.{◌≡◌, List, [], Bool, true, false, cond, ℕ, ◌+◌, ◌-◌, ◌<◌, ◌≤◌, get_or, ltb, Float}
use Rattle.std.specs.Float.{binary32, binary64}
use Rattle.std.specs.Float.Ieee.{neg, eq}
use Rattle.ieee754.specs.Binary64 as float
use Rattle.sums.specs.declared.complex.Complex.{Complex}
use Rattle.sums.specs.Complex.{Cx, mul_c, conj}
use Rattle.sums.specs.Interleaved.{at}
use Rattle.sums.specs.Code.Numbers.{number}
use Rattle.estimate_correlation.specs.Correlation.{lag_sum}

-- a sample, or its square
abbrev pub sample_of : Bool → Cx → Cx
sample_of false s = s
sample_of true s = mul_c binary32 s s

-- the ten latest of n samples, the latest first; before there are ten, the last places say nothing
abbrev pub Latest : List Float → ℕ → List Complex → Type 0
Latest xs n w = (i : ℕ) → i < n → i < 10 → number w i ≡ at xs (n - 1 - i)

-- row i of a matrix
abbrev pub row_of : List (List Complex) → ℕ → List Complex
row_of s i = get_or s i []

-- what place k adds to the sum for lag i and lag j
abbrev pub lag_product : List Float → ℕ → ℕ → ℕ → Cx
lag_product xs i j k = mul_c binary64 (at xs (k + 9 - i)) (conj (at xs (k + 9 - j)))

-- on and above the diagonal stand the sums over l places
abbrev pub UpperSums : List Float → ℕ → List (List Complex) → Type 0
UpperSums xs l s = (i j : ℕ) → i ≤ j → j < 10 → number (row_of s i) j ≡ lag_sum xs l i j

-- the sign turned, unless it is a zero
abbrev pub turned : Float → Float
turned x = cond (eq x float.zero) x (neg x)

-- the entry of the whole matrix in row i and column j, from the upper part s: below the diagonal it is its mirror image's conjugate, but a zero
-- imaginary sum stays +0 (proofs/MirrorLaw.antt)
abbrev pub mirrored : List (List Complex) → ℕ → ℕ → Cx
mirrored s i j = cond (ltb j i) ((number (row_of s j) i).0, turned (number (row_of s j) i).1) (number (row_of s i) j)
