-- From the natural to the common logarithm: one product by the reciprocal of 3 L(2) + L(5/4), in any unit; and 1 at least.
use mathlib.Core.Path.{◌≡◌, refl, sym, ap, ◌∙◌, subst}
use mathlib.Core.Bool.{Bool, true, false, not, cond}
use Prim.Native.Nat.{ℕ, zero, suc, ◌+◌, ◌*◌, ◌/◌, ◌^◌, ◌≤◌, ◌<◌}
use native.Mathlib.Nat.{le_refl, le_trans, le_of_eq, lt_of_le_of_lt, zero-lt-suc, mul_assoc, mul_comm, mul_right_comm, mul-one, zero-mul, zero-add, add-mul, mul-add, mul-le-mul_left, mul-le-mul_right, le_of_mul-le-mul_right, add-le-add, add_assoc, add_comm, div-mul-le_self, le-add_right}
use native.Mathlib.Omega.{arith}
use lib.Dec.{T, eqb, eqb→eq, T_not, lit<}
use lib.Pow.{pow_pos}
use lib.Ieee.Fits.{eq→eqb}
use Rattle.elementary_fixed_point.specs.Fraction.{Fraction}
use Rattle.elementary_fixed_point.specs.Code.Bounds.{Approximates}
use Rattle.elementary_fixed_point.proofs.Enclosures.{hi_le}
use Rattle.elementary_fixed_point.proofs.Approximations.{approximates_more}
use Rattle.elementary_logarithm.specs.Series.{ten}
use Rattle.elementary_logarithm.specs.Steps.{reciprocal_ten, common, at_least_one}
use Rattle.elementary_logarithm.specs.Code.Parts.{over_ten}
use Rattle.elementary_logarithm.proofs.Constants.{reciprocal_ten_is, ten_low, ten_high, ten_large}

-- P / O is above 1, and r / 2 ^ 64 its reciprocal from below
module _ (r O P : ℕ) (rl : r * P ≤ 2 ^ 64 * O) (rh : 2 ^ 64 * O ≤ (r + 1) * P) (large : O ≤ P) (U D E : ℕ) (f : Fraction) (Dl : D ≤ 2 ^ 64) (a : Approximates U D E f) where
  abbrev G : ℕ
  G = D * r / 2 ^ 64

  under : G * P ≤ D * O
  under =
      le_of_mul-le-mul_right {m = G * P} {n = D * O} {k = 2 ^ 64}
      (le_trans (le_of_eq (mul_right_comm G P (2 ^ 64)))
      (le_trans (mul-le-mul_right P (div-mul-le_self (D * r) (2 ^ 64)))
      (le_trans (le_of_eq (mul_assoc D r P)) (le_trans (mul-le-mul_left D rl) (le_of_eq (ap (λ (z : ℕ). D * z) (mul_comm (2 ^ 64) O) ∙ sym (mul_assoc D O (2 ^ 64))))))))
      (pow_pos 64)

  above : D * O ≤ (G + 2) * P
  above =
      le_of_mul-le-mul_right {m = D * O} {n = (G + 2) * P} {k = 2 ^ 64}
      (le_trans (le_of_eq (mul_assoc D O (2 ^ 64) ∙ ap (λ (z : ℕ). D * z) (mul_comm O (2 ^ 64))))
      (le_trans (mul-le-mul_left D rh)
      (le_trans (le_of_eq (sym (mul_assoc D (r + 1) P)))
      (le_trans (mul-le-mul_right P (le_trans (le_of_eq (mul-add D r 1 ∙ ap (λ (z : ℕ). D * r + z) (mul-one D))) (rest (D * r) D Dl))) (le_of_eq (mul_right_comm (G + 2) (2 ^ 64) P))))))
      (pow_pos 64)
    where
      rest : (x d : ℕ) → d ≤ 2 ^ 64 → x + d ≤ (x / 2 ^ 64 + 2) * 2 ^ 64
      rest x d h = omega arith

  divided_low : G * (f.over * P) + f.minus * O * U ≤ f.plus * O * U + (E + 2) * (f.over * P)
  divided_low =
      le_trans (add-le-add (le_trans (le_of_eq (turn G f.over P)) (le_trans (mul-le-mul_right f.over under) (le_of_eq (mul_right_comm D O f.over)))) (le_of_eq (mul_right_comm f.minus O U)))
      (le_trans (le_of_eq (sym (add-mul (D * f.over) (f.minus * U) O)))
      (le_trans (mul-le-mul_right O a.low)
      (le_trans (le_of_eq (add-mul (f.plus * U) (E * f.over) O))
      (add-le-add (le_of_eq (mul_right_comm f.plus U O))
      (le_trans (le_of_eq (mul_assoc E f.over O)) (le_trans (mul-le-mul_left E (mul-le-mul_left f.over large)) (mul-le-mul_right (f.over * P) (le-add_right E 2))))))))
    where
      turn : (g o p : ℕ) → g * (o * p) ≡ g * p * o
      turn g o p = ap (λ (z : ℕ). g * z) (mul_comm o p) ∙ sym (mul_assoc g p o)

  divided_high : f.plus * O * U ≤ f.minus * O * U + (G + (E + 2)) * (f.over * P)
  divided_high =
      le_trans (le_of_eq (mul_right_comm f.plus O U))
      (le_trans (mul-le-mul_right O a.high)
      (le_trans (le_of_eq (add-mul (f.minus * U) ((D + E) * f.over) O))
      (add-le-add (le_of_eq (mul_right_comm f.minus U O))
      (le_trans (le_of_eq (mul_right_comm (D + E) f.over O ∙ ap (λ (z : ℕ). z * f.over) (add-mul D E O)))
      (le_trans (mul-le-mul_right f.over (add-le-add above (mul-le-mul_left E large)))
      (le_of_eq (ap (λ (z : ℕ). z * f.over) (sym (add-mul (G + 2) E P) ∙ ap (λ (z : ℕ). z * P) (swap G E)) ∙ mul_assoc (G + (E + 2)) P f.over ∙ ap (λ (z : ℕ). (G + (E + 2)) * z) (mul_comm P f.over))))))))
    where
      swap : (g e : ℕ) → g + 2 + e ≡ g + (e + 2)
      swap g e = omega arith

pub approximates_common : (U D E : ℕ) (f : Fraction) → D ≤ 2 ^ 64 → Approximates U D E f → Approximates U (common D) (E + 2) (over_ten f)
approximates_common U D E f Dl a = record {
  low = divided_low reciprocal_ten ten.over ten.plus ten_low ten_high ten_large U D E f Dl a;
  high = divided_high reciprocal_ten ten.over ten.plus ten_low ten_high ten_large U D E f Dl a;
}

pub common_lt : (D : ℕ) → D < 2 ^ 64 → common D < 2 ^ 64
common_lt D h = lt_of_le_of_lt (hi_le D reciprocal_ten h) (subst (λ (z : ℕ). z < 2 ^ 64) (sym reciprocal_ten_is) (lit< tt))

-- ---- 1 at least

pub approximates_at_least : (U g E : ℕ) (f : Fraction) → Approximates U g E f → Approximates U (at_least_one g) (E + 1) f
approximates_at_least U g E f a = go (eqb g 0) (eqb→eq g 0)
  where
    one : (E o x y : ℕ) → 0 * o + x ≤ y + E * o → 1 * o + x ≤ y + (E * o + 1 * o)
    one E o x y h = le_trans (le_of_eq (add_comm (1 * o) x)) (le_trans (add-le-add (le_trans (le_of_eq (sym (ap (λ (z : ℕ). z + x) (zero-mul o) ∙ zero-add x))) h) (le_refl (1 * o))) (le_of_eq (add_assoc y (E * o) (1 * o))))

    more : (E : ℕ) → 0 + E ≤ 1 + (E + 1)
    more E = omega arith

    go : (b : Bool) → (T b → g ≡ 0) → Approximates U (cond b 1 g) (E + 1) f
    go true h =
        let z : Approximates U 0 E f = subst (λ (x : ℕ). Approximates U x E f) (h tt) a in
        record {
          low = le_trans (one E f.over (f.minus * U) (f.plus * U) z.low) (add-le-add (le_refl (f.plus * U)) (le_of_eq (sym (add-mul E 1 f.over))));
          high = le_trans z.high (add-le-add (le_refl (f.minus * U)) (mul-le-mul_right f.over (more E)));
        }
    go false h = approximates_more U g E (E + 1) f (le-add_right E 1) a

pub at_least_lt : (g : ℕ) → g < 2 ^ 64 → at_least_one g < 2 ^ 64
at_least_lt g h = go (eqb g 0)
  where
    go : (b : Bool) → cond b 1 g < 2 ^ 64
    go true = lit< tt
    go false = h

pub at_least_pos : (g : ℕ) → 0 < at_least_one g
at_least_pos g = go (eqb g 0) (λ (t : T (not (eqb g 0))). some g (λ (z : g ≡ 0). T_not (eqb g 0) t (eq→eqb z)))
  where
    some : (n : ℕ) → (n ≡ 0 → ⊥) → 0 < n
    some zero h = absurd (h refl)
    some (suc n) h = zero-lt-suc n

    go : (b : Bool) → (T (not b) → 0 < g) → 0 < cond b 1 g
    go true f = lit< tt
    go false f = f tt
