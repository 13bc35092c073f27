-- The sign of a number of units, and how small it can be; what is shown of a logarithm at s and p.
use mathlib.Core.Path.{◌≡◌, sym, ap, ◌∙◌, subst}
use mathlib.Core.Bool.{Bool, true, false}
use Prim.Native.Nat.{ℕ, ◌+◌, ◌*◌, ◌^◌, ◌≤◌, ◌<◌}
use native.Mathlib.Nat.{le_trans, le_of_eq, lt_of_le_of_lt, lt_of_lt_of_le, zero-mul, mul-one, mul-pos, mul_comm, mul_right_comm, mul-le-mul_right, le_of_mul-le-mul_right}
use native.Mathlib.Omega.{arith}
use lib.Dec.{T, lt→ltb}
use lib.Pow.{pow_pos}
use lib.Ieee.{Float, nan, inf, fin, up, down, neg, lt, minus}
use lib.Ieee.Fits.{down_pos}
use lib.Ieee.Exact.{HasValue}
use lib.Ieee.Positive.{num, den, first_pos}
use Rattle.ieee754.specs.Sign.{plus_zero}
use Rattle.elementary_fixed_point.specs.Fraction.{Near}
use Rattle.elementary_logarithm.specs.Series.{quotient}

-- the argument is s / 2 ^ 52 * 2 ^ (p - 1074), and 1 is 2 ^ 52 / 2 ^ 52 * 2 ^ 0
pub record LogarithmAt (s p : ℕ) (v : Float) : Type 0 where
  pub near : Near 36 v (quotient (minus p 1074) s (2 ^ 52))
  pub below : s * 2 ^ p < 2 ^ 1126 → T (lt v plus_zero)
  pub at : s * 2 ^ p ≡ 2 ^ 1126 → v ≡ plus_zero
  pub above : 2 ^ 1126 < s * 2 ^ p → T (lt plus_zero v)
  pub size : (s * 2 ^ p ≡ 2 ^ 1126 → ⊥) → den v ≤ num v * 2 ^ 55

-- c units of 2 ^ -k, c above 0
pub above_zero : (k : ℕ) (w : Float) (c : ℕ) → HasValue w false c (2 ^ k) → 0 < c → T (lt plus_zero w) × T (lt (neg w) plus_zero)
unfolding lt neg
above_zero k nan c v h = absurd v
above_zero k (inf s) c v h = absurd v
above_zero k (fin true m e) c v h = absurd (subst (λ (b : Bool). T b) v.0 tt)
above_zero k (fin false m e) c v h =
    let q : 0 < m * up e = first_pos (m * up e) (2 ^ k) (subst (λ (z : ℕ). 0 < z) (sym v.1) (mul-pos h (down_pos e))) in (
      lt→ltb (0 * 1 * down e) (m * up e * 1) (lt_of_le_of_lt (le_of_eq (zero-mul (down e))) (lt_of_lt_of_le q (le_of_eq (sym (mul-one (m * up e)))))),
      lt→ltb 0 (m * up e * 1 + 0 * 1 * down e) (more (m * up e) (down e) q),
    )
  where
    more : (x k : ℕ) → 0 < x → 0 < x * 1 + 0 * 1 * k
    more x k h = omega arith

-- it is 2 ^ -j at least, and so is its opposite
pub at_least : (k j : ℕ) (w : Float) (c : ℕ) → HasValue w false c (2 ^ k) → 2 ^ k ≤ c * 2 ^ j → (den w ≤ num w * 2 ^ j) × (den (neg w) ≤ num (neg w) * 2 ^ j)
unfolding neg
at_least k j nan c v h = absurd v
at_least k j (inf s) c v h = absurd v
at_least k j (fin true m e) c v h = absurd (subst (λ (b : Bool). T b) v.0 tt)
at_least k j (fin false m e) c v h =
    let q : down e ≤ m * up e * 2 ^ j =
    le_of_mul-le-mul_right {m = down e} {n = m * up e * 2 ^ j} {k = 2 ^ k}
    (le_trans (le_of_eq (mul_comm (down e) (2 ^ k))) (le_trans (mul-le-mul_right (down e) h) (le_of_eq (mul_right_comm c (2 ^ j) (down e) ∙ ap (λ (z : ℕ). z * 2 ^ j) (sym v.1) ∙ mul_right_comm (m * up e) (2 ^ k) (2 ^ j)))))
    (pow_pos k) in
    (q, q)
