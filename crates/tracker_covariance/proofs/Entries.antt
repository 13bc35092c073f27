-- The entries of a matrix, and that two matrices with equal entries are equal.
use Prim.Native.Nat.{ℕ, ◌+◌, ◌*◌, ◌/◌, ◌%◌, ◌<◌}
use mathlib.Core.Path.{◌≡◌, ap, ◌∙◌}
use native.Mathlib.Omega.{arith}
use lib.ListN.{length, get_or}
use lib.Ieee.{Float, nan}
use Rattle.tracker_covariance.specs.Matrix.{at, matrix}
use Rattle.tracker_covariance.proofs.Filling.{place, list_from_length, list_from_at, entries}

pub matrix_length : (f : ℕ → ℕ → Float) → length (matrix f) ≡ 36
unfolding matrix
matrix_length f = list_from_length 36 0 (place f)

matrix_place : (f : ℕ → ℕ → Float) (k : ℕ) → k < 36 → get_or (matrix f) k nan ≡ place f k
unfolding matrix
matrix_place f k l =
    let z : 0 + k ≡ k = omega arith in
    list_from_at 36 0 (place f) k l ∙ ap (place f) z

-- row r, column c of the matrix with the entries f r c
pub matrix_at : (f : ℕ → ℕ → Float) (r c : ℕ) → r < 6 → c < 6 → at (matrix f) r c ≡ f r c
matrix_at f r c hr hc =
    let q : (6 * r + c) / 6 ≡ r = omega arith in
    let m : (6 * r + c) % 6 ≡ c = omega arith in
    matrix_place f (6 * r + c) (omega arith) ∙ (λ j. f (q j) (m j))

pub matrix_ext : (f g : ℕ → ℕ → Float) → ((r c : ℕ) → r < 6 → c < 6 → f r c ≡ g r c) → matrix f ≡ matrix g
matrix_ext f g h = entries g (matrix f) (matrix_length f) (λ k l. matrix_place f k l ∙ h (k / 6) (k % 6) (omega arith) (omega arith))
