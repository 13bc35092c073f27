-- Module 4, its first half: the correlation matrix of `estimate_frequency_esprit`, with m = 10. Samples and the matrix stand re, im, re, im,
-- ... Every operation is one of binary64 (which holds every binary32 sample), and sums go by ascending index. Definitions only.
use Rattle.std.specs.Prelude.{List, Bool, true, false, ℕ, ◌+◌, ◌-◌, ◌/◌, ◌%◌, length, pos, Float}
use Rattle.std.specs.Float.{binary32, binary64}
use Rattle.std.specs.Float.Ieee.{of_int}
use Rattle.sums.specs.Ascending.{sum_from}
use Rattle.sums.specs.Complex.{Cx, zero_c, add_c, mul_c, div_c, conj}
use Rattle.sums.specs.Interleaved.{at, table}

-- ---- the samples: themselves, or for BPSK their squares, in binary32

unfoldable pub prepared : Bool → List Float → List Float
prepared false xs = xs
prepared true xs = table (length xs / 2) (λ k. mul_c binary32 (at xs k) (at xs k))

-- ---- the correlation matrix: entry (i, j) is the mean over l places of the sample at lag i times the conjugate of that at lag j; place k
-- is the ten samples from k on, and lag i there is sample k + 9 - i

-- the sum, from 0 up
abbrev pub lag_sum : List Float → ℕ → ℕ → ℕ → Cx
lag_sum xs l i j = sum_from (add_c binary64) (zero_c binary64) (λ k. mul_c binary64 (at xs (k + 9 - i)) (conj (at xs (k + 9 - j)))) l

-- row by row
unfoldable pub correlation_matrix : List Float → ℕ → List Float
correlation_matrix xs l = table 100 (λ p. div_c binary64 (lag_sum xs l (p / 10) (p % 10)) (of_int binary64 (pos l)))
