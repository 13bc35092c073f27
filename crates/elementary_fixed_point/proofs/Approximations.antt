-- Sums, differences and multiples of fixed-point numbers that are near fractions, in any unit.
use Rattle.std.proofs.Common.{◌≡◌, ℕ, ◌+◌, ◌-◌, ◌*◌, ◌≤◌, sym, refl, ap, ◌∙◌, le_trans, le_of_eq, le_refl, add_assoc, add-le-add, mul-le-mul_right, mul_assoc, mul_comm, add-mul, add_comm, mul-le-mul_left, mul-add, mul_left_comm, arith}
use native.Mathlib.Nat.{add_left_comm}
use Rattle.elementary_fixed_point.specs.Fraction.{Fraction, sum, negated, times}
use Rattle.elementary_fixed_point.specs.Code.Bounds.{Approximates, Enclosure}

-- two enclosed numbers, one taken from the other
pub enclosures_approximate : (U P N E : ℕ) (f : Fraction) → N ≤ P → Enclosure P (P + E) (f.plus * U) f.over → Enclosure N (N + E) (f.minus * U) f.over → Approximates U (P - N) E f
enclosures_approximate U P N E f h x y = record {
  low = le_trans (add-le-add (le_refl ((P - N) * f.over)) y.high) (le_trans (le_of_eq (sym (add-mul (P - N) (N + E) f.over) ∙ ap (λ (z : ℕ). z * f.over) (back P N E h) ∙ add-mul P E f.over)) (add-le-add x.low (le_refl (E * f.over))));
  high = le_trans x.high (le_trans (le_of_eq (ap (λ (z : ℕ). z * f.over) (split P N E h) ∙ add-mul N (P - N + E) f.over)) (add-le-add y.low (le_refl ((P - N + E) * f.over))));
}
  where
    back : (P N E : ℕ) → N ≤ P → P - N + (N + E) ≡ P + E
    back P N E h = omega arith

    split : (P N E : ℕ) → N ≤ P → P + E ≡ N + (P - N + E)
    split P N E h = omega arith

pub approximates_more : (U x d g : ℕ) (f : Fraction) → d ≤ g → Approximates U x d f → Approximates U x g f
approximates_more U x d g f h a = record {
  low = le_trans a.low (add-le-add (le_refl (f.plus * U)) (mul-le-mul_right f.over h));
  high = le_trans a.high (add-le-add (le_refl (f.minus * U)) (mul-le-mul_right f.over (add-le-add (le_refl x) h)));
}

pub approximates_sum : (U x d : ℕ) (f : Fraction) (y g : ℕ) (h : Fraction) → Approximates U x d f → Approximates U y g h → Approximates U (x + y) (d + g) (sum f h)
approximates_sum U x d f y g h a b = record {
  low = le_trans (le_of_eq (re₁ x y f.over h.over f.minus h.minus U)) (le_trans (add-le-add (mul-le-mul_right h.over a.low) (mul-le-mul_right f.over b.low)) (le_of_eq (re₂ d g f.over h.over f.plus h.plus U)));
  high = le_trans (le_of_eq (re₃ f.over h.over f.plus h.plus U)) (le_trans (add-le-add (mul-le-mul_right h.over a.high) (mul-le-mul_right f.over b.high)) (le_of_eq (re₄ x d y g f.over h.over f.minus h.minus U)));
}
  where
    re₁ : (x y f g m n U : ℕ) → (x + y) * (f * g) + (m * g + n * f) * U ≡ (x * f + m * U) * g + (y * g + n * U) * f
    re₁ x y f g m n U = simp (add-mul, mul_assoc, mul_comm, mul_left_comm, add_assoc, add_comm, add_left_comm) refl

    re₂ : (d e f g m n U : ℕ) → (m * U + d * f) * g + (n * U + e * g) * f ≡ (m * g + n * f) * U + (d + e) * (f * g)
    re₂ d e f g m n U = simp (add-mul, mul_assoc, mul_comm, mul_left_comm, add_assoc, add_comm, add_left_comm) refl

    re₃ : (f g m n U : ℕ) → (m * g + n * f) * U ≡ m * U * g + n * U * f
    re₃ f g m n U = simp (add-mul, mul_assoc, mul_comm, mul_left_comm, add_comm) refl

    re₄ : (x d y e f g m n U : ℕ) → (m * U + (x + d) * f) * g + (n * U + (y + e) * g) * f ≡ (m * g + n * f) * U + (x + y + (d + e)) * (f * g)
    re₄ x d y e f g m n U = simp (add-mul, mul_assoc, mul_comm, mul_left_comm, add_assoc, add_comm, add_left_comm) refl

pub approximates_difference : (U x d : ℕ) (f : Fraction) (y g : ℕ) (h : Fraction) → y ≤ x → Approximates U x d f → Approximates U y g h → Approximates U (x - y) (d + g) (sum f (negated h))
approximates_difference U x d f y g h le a b = record {
  low = cancel (y * h.over * f.over) (le_trans (le_of_eq (re₁ (x - y) y f.over h.over f.minus h.plus U ∙ ap (λ (z : ℕ). (z * f.over + f.minus * U) * h.over + h.plus * U * f.over) (back x y le))) (le_trans (add-le-add (mul-le-mul_right h.over a.low) (mul-le-mul_right f.over b.high)) (le_of_eq (re₂ d y g f.over h.over f.plus h.minus U))));
  high = cancel (y * h.over * f.over) (le_trans (le_of_eq (re₃ y f.over h.over f.plus h.minus U)) (le_trans (add-le-add (mul-le-mul_right h.over a.high) (mul-le-mul_right f.over b.low)) (le_of_eq (ap (λ (z : ℕ). (f.minus * U + (z + d) * f.over) * h.over + (h.plus * U + g * h.over) * f.over) (sym (back x y le)) ∙ re₄ (x - y) y d g f.over h.over f.minus h.plus U))));
}
  where
    back : (x y : ℕ) → y ≤ x → x - y + y ≡ x
    back x y h = omega arith

    cancel : {p q : ℕ} (r : ℕ) → p + r ≤ q + r → p ≤ q
    cancel r h = omega arith

    re₁ : (z y f g m n U : ℕ) → z * (f * g) + (m * g + n * f) * U + y * g * f ≡ ((z + y) * f + m * U) * g + n * U * f
    re₁ z y f g m n U = simp (add-mul, mul_assoc, mul_comm, mul_left_comm, add_assoc, add_comm, add_left_comm) refl

    re₂ : (d y e f g m n U : ℕ) → (m * U + d * f) * g + (n * U + (y + e) * g) * f ≡ (m * g + n * f) * U + (d + e) * (f * g) + y * g * f
    re₂ d y e f g m n U = simp (add-mul, mul_assoc, mul_comm, mul_left_comm, add_assoc, add_comm, add_left_comm) refl

    re₃ : (y f g m n U : ℕ) → (m * g + n * f) * U + y * g * f ≡ m * U * g + (y * g + n * U) * f
    re₃ y f g m n U = simp (add-mul, mul_assoc, mul_comm, mul_left_comm, add_assoc, add_comm, add_left_comm) refl

    re₄ : (z y d e f g m n U : ℕ) → (m * U + (z + y + d) * f) * g + (n * U + e * g) * f ≡ (m * g + n * f) * U + (z + (d + e)) * (f * g) + y * g * f
    re₄ z y d e f g m n U = simp (add-mul, mul_assoc, mul_comm, mul_left_comm, add_assoc, add_comm, add_left_comm) refl

pub approximates_times : (U k x d : ℕ) (f : Fraction) → Approximates U x d f → Approximates U (k * x) (k * d) (times k f)
approximates_times U k x d f a = record {
  low = le_trans (le_of_eq (re k x f.over f.minus U)) (le_trans (mul-le-mul_left k a.low) (le_of_eq (re' k d f.over f.plus U)));
  high = le_trans (le_of_eq (mul_assoc k f.plus U)) (le_trans (mul-le-mul_left k a.high) (le_of_eq (re₂ k x d f.over f.minus U)));
}
  where
    re : (k x o m U : ℕ) → k * x * o + k * m * U ≡ k * (x * o + m * U)
    re k x o m U = ap (λ (z : ℕ). z + k * m * U) (mul_assoc k x o) ∙ ap (λ (z : ℕ). k * (x * o) + z) (mul_assoc k m U) ∙ sym (mul-add k (x * o) (m * U))

    re' : (k d o p U : ℕ) → k * (p * U + d * o) ≡ k * p * U + k * d * o
    re' k d o p U = mul-add k (p * U) (d * o) ∙ ap (λ (z : ℕ). z + k * (d * o)) (sym (mul_assoc k p U)) ∙ ap (λ (z : ℕ). k * p * U + z) (sym (mul_assoc k d o))

    re₂ : (k x d o m U : ℕ) → k * (m * U + (x + d) * o) ≡ k * m * U + (k * x + k * d) * o
    re₂ k x d o m U = mul-add k (m * U) ((x + d) * o) ∙ ap (λ (z : ℕ). z + k * ((x + d) * o)) (sym (mul_assoc k m U)) ∙ ap (λ (z : ℕ). k * m * U + z) (sym (mul_assoc k (x + d) o) ∙ ap (λ (z : ℕ). z * o) (mul-add k x d))
