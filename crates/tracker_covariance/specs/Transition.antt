-- F, the step over an interval dt: a phase gains frequency · dt and chirp · ½dt², a frequency gains chirp · dt. Sums run by ascending index
-- from the first product. Terms whose factor is 0 by structure are left out and nothing else is; a factor 1 is no operation. Definitions only.
use Rattle.std.specs.Prelude.{ℕ, List, [], ◌∷◌, get_or, Float}
use Rattle.std.specs.Float.{nan}
use Rattle.ieee754.specs.Binary64.{plus, times, half}
use Rattle.tracker_covariance.specs.Matrix.{el, at, vector, matrix}

-- a term of a row's product with a vector v: 1 · v k, or a · v k
pub data Term : Type 0 where
  unit : ℕ → Term
  factor : Float → ℕ → Term

-- the rows of F
abbrev pub rows : Float → List (List Term)
rows dt =
    let dt2 = times (times half dt) dt in
    (unit 0 ∷ factor dt 1 ∷ factor dt2 2 ∷ [])
    ∷ (unit 1 ∷ factor dt 2 ∷ [])
    ∷ (unit 2 ∷ [])
    ∷ (unit 3 ∷ factor dt 4 ∷ factor dt2 5 ∷ [])
    ∷ (unit 4 ∷ factor dt 5 ∷ [])
    ∷ (unit 5 ∷ [])
    ∷ []

abbrev pub row : Float → ℕ → List Term
row dt r = get_or (rows dt) r []

abbrev pub product : Term → (ℕ → Float) → Float
product (unit k) v = v k
product (factor a k) v = times a (v k)

abbrev pub sum_from : Float → List Term → (ℕ → Float) → Float
sum_from s [] v = s
sum_from s (t ∷ ts) v = sum_from (plus s (product t v)) ts v

-- a row times a vector
abbrev pub dot : List Term → (ℕ → Float) → Float
dot [] v = nan
dot (t ∷ ts) v = sum_from (product t v) ts v

-- F·x
unfoldable pub predicted_state : Float → List Float → List Float
predicted_state dt x = vector (λ r. dot (row dt r) (el x))

-- F·P
abbrev pub by_f : Float → List Float → List Float
by_f dt p = matrix (λ r c. dot (row dt r) (λ k. at p k c))

-- P·Fᵀ
abbrev pub by_ft : Float → List Float → List Float
by_ft dt p = matrix (λ r c. dot (row dt c) (λ k. at p r k))
