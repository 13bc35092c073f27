-- The sum of two fixed-point numbers that are near fractions, in any unit.
use mathlib.Core.Path.{◌≡◌, refl}
use Prim.Native.Nat.{ℕ, ◌+◌, ◌*◌}
use native.Mathlib.Nat.{le_trans, le_of_eq, mul_assoc, mul_comm, mul_left_comm, add-mul, mul-le-mul_right, add-le-add, add_assoc, add_comm, add_left_comm}
use Rattle.elementary_series.specs.Fraction.{Fraction, sum}
use Rattle.elementary_series.specs.Code.Bounds.{Approximates}

pub approximates_sum : (U x d : ℕ) (f : Fraction) (y g : ℕ) (h : Fraction) → Approximates U x d f → Approximates U y g h → Approximates U (x + y) (d + g) (sum f h)
approximates_sum U x d f y g h a b = record {
  low = le_trans (le_of_eq (re₁ x y f.over h.over f.minus h.minus U)) (le_trans (add-le-add (mul-le-mul_right h.over a.low) (mul-le-mul_right f.over b.low)) (le_of_eq (re₂ d g f.over h.over f.plus h.plus U)));
  high = le_trans (le_of_eq (re₃ f.over h.over f.plus h.plus U)) (le_trans (add-le-add (mul-le-mul_right h.over a.high) (mul-le-mul_right f.over b.high)) (le_of_eq (re₄ x d y g f.over h.over f.minus h.minus U)));
}
  where
    re₁ : (x y f g m n U : ℕ) → (x + y) * (f * g) + (m * g + n * f) * U ≡ (x * f + m * U) * g + (y * g + n * U) * f
    re₁ x y f g m n U = simp (add-mul, mul_assoc, mul_comm, mul_left_comm, add_assoc, add_comm, add_left_comm) refl

    re₂ : (d e f g m n U : ℕ) → (m * U + d * f) * g + (n * U + e * g) * f ≡ (m * g + n * f) * U + (d + e) * (f * g)
    re₂ d e f g m n U = simp (add-mul, mul_assoc, mul_comm, mul_left_comm, add_assoc, add_comm, add_left_comm) refl

    re₃ : (f g m n U : ℕ) → (m * g + n * f) * U ≡ m * U * g + n * U * f
    re₃ f g m n U = simp (add-mul, mul_assoc, mul_comm, mul_left_comm, add_comm) refl

    re₄ : (x d y e f g m n U : ℕ) → (m * U + (x + d) * f) * g + (n * U + (y + e) * g) * f ≡ (m * g + n * f) * U + (x + y + (d + e)) * (f * g)
    re₄ x d y e f g m n U = simp (add-mul, mul_assoc, mul_comm, mul_left_comm, add_assoc, add_comm, add_left_comm) refl
