-- Six numbers, and matrices of 6 by 6, as lists of f64; a matrix is written row by row. Definitions only.
use Rattle.std.specs.Prelude.{ℕ, zero, suc, ◌+◌, ◌*◌, ◌/◌, ◌%◌, List, [], ◌∷◌, get_or, Float}
use Rattle.std.specs.Float.{nan}

-- number i of a vector
abbrev pub el : List Float → ℕ → Float
el v i = get_or v i nan

-- the entry in row r and column c
abbrev pub at : List Float → ℕ → ℕ → Float
at p r c = get_or p (6 * r + c) nan

-- f i, f (i + 1), .., n of them
abbrev pub list_from : ℕ → ℕ → (ℕ → Float) → List Float
list_from zero i f = []
list_from (suc n) i f = f i ∷ list_from n (suc i) f

-- the vector of the numbers f i
abbrev pub vector : (ℕ → Float) → List Float
vector f = list_from 6 0 f

-- the matrix of the entries f r c
unfoldable pub matrix : (ℕ → ℕ → Float) → List Float
matrix f = list_from 36 0 (λ k. f (k / 6) (k % 6))
