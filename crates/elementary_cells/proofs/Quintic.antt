-- A polynomial of degree 5 by the steps that are taken in f64, beside its exact value. The coefficients are exact, whole numbers over U and at most 1 in size; h is within
-- 1 / 64 of 0 and off by 2 ^ -50 at most from the exact number x / l beside it.
use mathlib.Core.Path.{◌≡◌, refl, sym, ap, ◌∙◌}
use mathlib.Core.List.{[], ◌∷◌}
use Prim.Native.Nat.{ℕ, ◌+◌, ◌*◌, ◌^◌, ◌<◌}
use native.Mathlib.Nat.{mul-pos, mul_assoc}
use native.Mathlib.Omega.{arith}
use lib.Dec.{lit<, lit≤}
use lib.Pow.{pow-add}
use lib.Ieee.{Float, binary64, add, mul}
use Rattle.elementary_cells.specs.Polynomials.{Signed}
use Rattle.elementary_cells.specs.Cells.{quintic}
use Rattle.elementary_cells.proofs.Horner.{horner, powers, powers_are, horner_value, times_nothing, plus_nothing, stretched_one, times_one}
use Rattle.elementary_cells.proofs.Ring.{added, times, stretched, times_comm, times_assoc, times_left_comm, times_plus, plus_comm, plus_assoc, plus_left_comm, stretched_is, nat_times}
use Rattle.elementary_cells.proofs.Polynomials.{value}
use Rattle.elementary_cells.proofs.Approximation.{Approx, over_approx, add_approx, mul_approx}

-- ---- the steps, exactly
module _ (l : ℕ) (x : Signed) (C : ℕ → Signed) where
  abbrev two_of : ℕ → ℕ → Signed
  two_of i j = added (stretched l (C i)) (times x (C j))

  abbrev high : Signed
  high = added (stretched l (two_of 3 4)) (times (times x x) (C 5))

  abbrev pub exact_slope : Signed
  exact_slope = added (stretched (l * (l * l)) (two_of 1 2)) (times (times x x) high)

  abbrev pub steps : Signed
  steps = added (stretched (l * (l * l * (l * l))) (C 0)) (times x exact_slope)

  pub steps_are : value l x 6 (C 0 ∷ C 1 ∷ C 2 ∷ C 3 ∷ C 4 ∷ C 5 ∷ []) ≡ steps
  unfolding horner powers
  steps_are =
      horner_value l x 6 (C 0 ∷ C 1 ∷ C 2 ∷ C 3 ∷ C 4 ∷ C 5 ∷ [])
      ∙ simp (times_nothing, plus_nothing, stretched_one, times_one, stretched_is, nat_times, times_plus, times_assoc, times_comm, times_left_comm, plus_assoc, plus_comm, plus_left_comm)

-- what they are over, by powers of l
pub width : (l U m : ℕ) → l * (l * l * (l * l * U)) * l ^ m ≡ U * l ^ (5 + m)
unfolding powers
width l U m = go l U (l ^ m) ∙ ap (λ (z : ℕ). U * (z * l ^ m)) (sym (powers_are l 5)) ∙ ap (λ (z : ℕ). U * z) (sym (pow-add l 5 m))
  where
    go : (l U p : ℕ) → l * (l * l * (l * l * U)) * p ≡ U * (l * (l * (l * (l * (l * 1)))) * p)
    go l U p = omega arith

-- ---- the f64 that come near them
abbrev pub rest : (ℕ → Float) → Float → Float
rest c h = mul binary64 (mul binary64 h h) (add binary64 (add binary64 (c 3) (mul binary64 h (c 4))) (mul binary64 (mul binary64 h h) (c 5)))

abbrev pub slope : (ℕ → Float) → Float → Float
slope c h = add binary64 (add binary64 (c 1) (mul binary64 h (c 2))) (rest c h)

module _ (l U : ℕ) (h : Float) (x : Signed) (near : Approx h 1024 1 x l) (c : ℕ → Float) (C : ℕ → Signed) (exact : (j : ℕ) → j < 6 → Approx (c j) 0 64 (C j) U) where
  lp : 0 < l
  lp = near.above

  square_near : Approx (mul binary64 h h) 2176 2 (times x x) (l * l)
  square_near = mul_approx 1 1 (lit≤ tt) (lit≤ tt) (lit≤ tt) (lit≤ tt) (lit≤ tt) near near

  -- a coefficient and the next
  product_of : (j : ℕ) → j < 6 → Approx (mul binary64 h (c j)) 1152 2 (times x (C j)) (l * U)
  product_of j jh = mul_approx 1 1 (lit≤ tt) (lit≤ tt) (lit≤ tt) (lit≤ tt) (lit≤ tt) near (exact j jh)

  linear : (i j : ℕ) → i < 6 → j < 6 → Approx (add binary64 (c i) (mul binary64 h (c j))) 1280 67 (added (stretched l (C i)) (times x (C j))) (l * U)
  linear i j ih jh = add_approx (lit≤ tt) (lit≤ tt) (over_approx l (l * U) lp refl (exact i ih)) (product_of j jh)

  pub next_near : Approx (mul binary64 h (c 2)) 1152 2 (times x (C 2)) (l * U)
  next_near = product_of 2 (lit< tt)

  pub rest_near : Approx (rest c h) 8192 4 (times (times x x) (high l x C)) (l * l * (l * l * U))
  rest_near =
      mul_approx 2 3 (lit≤ tt) (lit≤ tt) (lit≤ tt) (lit≤ tt) (lit≤ tt) square_near
      (add_approx (lit≤ tt) (lit≤ tt) (over_approx l (l * l * U) lp (sym (mul_assoc l l U)) (linear 3 4 (lit< tt) (lit< tt))) (mul_approx 1 2 (lit≤ tt) (lit≤ tt) (lit≤ tt) (lit≤ tt) (lit≤ tt) square_near (exact 5 (lit< tt))))

  pub slope_near : Approx (slope c h) 9600 72 (exact_slope l x C) (l * l * (l * l * U))
  slope_near = add_approx (lit≤ tt) (lit≤ tt) (over_approx (l * (l * l)) (l * l * (l * l * U)) (mul-pos lp (mul-pos lp lp)) (four l U) (linear 1 2 (lit< tt) (lit< tt))) rest_near
    where
      four : (l U : ℕ) → l * (l * l) * (l * U) ≡ l * l * (l * l * U)
      four l U = omega arith

  pub product_near : Approx (mul binary64 h (slope c h)) 11776 3 (times x (exact_slope l x C)) (l * (l * l * (l * l * U)))
  product_near = mul_approx 2 2 (lit≤ tt) (lit≤ tt) (lit≤ tt) (lit≤ tt) (lit≤ tt) near slope_near

  pub quintic_near : Approx (quintic c h) 11904 68 (steps l x C) (l * (l * l * (l * l * U)))
  unfolding quintic
  quintic_near = add_approx (lit≤ tt) (lit≤ tt) (over_approx (l * (l * l * (l * l))) (l * (l * l * (l * l * U))) (mul-pos lp (mul-pos (mul-pos lp lp) (mul-pos lp lp))) (five l U) (exact 0 (lit< tt))) product_near
    where
      five : (l U : ℕ) → l * (l * l * (l * l)) * U ≡ l * (l * l * (l * l * U))
      five l U = omega arith
