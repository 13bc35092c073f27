-- The definitions entry by entry, as the textbook writes them: row r and column c of each matrix, for every r and c below 6.
use Prim.Native.Nat.{ℕ, ◌<◌}
use mathlib.Core.Path.{◌≡◌, ◌∙◌}
use mathlib.Core.Bool.{cond}
use mathlib.Core.List.{List}
use lib.Dec.{eqb}
use lib.Ieee.{Float}
use Rattle.ieee754.specs.Order.{maximum}
use Rattle.tracker_covariance.specs.declared.prediction.ProcessNoise.{ProcessNoise}
use Rattle.ieee754.specs.Binary64.{plus, minus, times, half, ten_to_minus15}
use Rattle.tracker_covariance.specs.Matrix.{el, at}
use Rattle.tracker_covariance.specs.Transition.{row, dot, by_f, by_ft}
use Rattle.tracker_covariance.specs.ProcessNoise.{noise_matrix}
use Rattle.tracker_covariance.specs.Prediction.{predicted}
use Rattle.tracker_covariance.specs.Correction.{floored, corrected}
use Rattle.tracker_covariance.specs.Code.Entries.{sum_at, joseph_left_at}
use Rattle.tracker_covariance.proofs.Entries.{matrix_at}
use Rattle.tracker_covariance.proofs.Transition.{dot_agrees}

-- (F·P·Fᵀ)(r,c) is the sum over k of (F·P)(r,k) · F(c,k), and (F·P)(r,k) the sum over j of F(r,j) · P(j,k)
pub step_at_lem : (dt : Float) (p : List Float) (r c : ℕ) → r < 6 → c < 6 → at (by_ft dt (by_f dt p)) r c ≡ dot (row dt c) (λ k. dot (row dt r) (λ j. at p j k))
step_at_lem dt p r c hr hc =
    matrix_at _ r c hr hc ∙ dot_agrees dt c (λ k. at (by_f dt p) r k) (λ k. dot (row dt r) (λ j. at p j k)) hc (λ k hk. matrix_at _ r k hr hk)

-- A = F·P·Fᵀ + Q, and the prediction is (A + Aᵀ) / 2
pub predicted_at : (dt : Float) (n : ProcessNoise) (p : List Float) (r c : ℕ) → r < 6 → c < 6
    → let a : ℕ → ℕ → Float = λ i j. plus (at (by_ft dt (by_f dt p)) i j) (at (noise_matrix n) i j) in
    at (predicted dt n p) r c ≡ times (plus (a r c) (a c r)) half
unfolding predicted
predicted_at dt n p r c hr hc =
    let a = matrix_at (sum_at (by_ft dt (by_f dt p)) (noise_matrix n)) in
    matrix_at _ r c hr hc ∙ (λ j. times (plus (a r c hr hc j) (a c r hc hr j)) half)

-- the floor is on the diagonal alone
pub floored_at : (p : List Float) (r c : ℕ) → r < 6 → c < 6 → at (floored p) r c ≡ cond (eqb r c) (maximum (at p r c) ten_to_minus15) (at p r c)
floored_at p r c hr hc = matrix_at _ r c hr hc

-- with B the floored P and T(r,c) = B(r,c) − K(r)·B(i,c), the correction is (T(r,c) − T(r,i)·K(c)) + (K(r)·K(c))·R
pub corrected_at : (p : List Float) (i : ℕ) (k : List Float) (noise : Float) (r c : ℕ) → i < 6 → r < 6 → c < 6
    → let t : ℕ → ℕ → Float = λ a b. minus (at (floored p) a b) (times (el k a) (at (floored p) i b)) in
    at (corrected p i k noise) r c ≡ plus (minus (t r c) (times (t r i) (el k c))) (times (times (el k r) (el k c)) noise)
unfolding corrected
corrected_at p i k noise r c hi hr hc =
    let t = matrix_at (joseph_left_at (floored p) i k) in
    matrix_at _ r c hr hc
    ∙ (λ j. plus (minus (t r c hr hc j) (times (t r i hr hi j) (el k c))) (times (times (el k r) (el k c)) noise))
