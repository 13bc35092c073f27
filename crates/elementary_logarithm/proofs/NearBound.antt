-- Near 1: the bound and the sign, on both sides, and the zero at 1.
use mathlib.Core.Path.{◌≡◌, refl, sym, ap, ◌∙◌, subst}
use mathlib.Core.Bool.{false}
use Prim.Native.Nat.{ℕ, zero, suc, ◌+◌, ◌-◌, ◌*◌, ◌^◌, ◌≤◌, ◌<◌}
use native.Mathlib.Nat.{le_refl, le_trans, le_of_eq, le_of_lt, lt_of_le_of_lt, lt_of_lt_of_le, lt_irrefl, zero-mul, zero-add, add-zero, zero-lt-suc, mul-lt-mul_of_pos_right, mul-le-mul_right}
use native.Mathlib.Omega.{arith}
use lib.IntN.{negsuc}
use lib.Dec.{T, lit<, lit≤}
use lib.Pow.{pow_pos, pow-add}
use lib.Ieee.{Float, fin, neg, lt, of_bits, of_int, mul}
use lib.Ieee.Positive.{num, den}
use Rattle.ieee754.specs.Sign.{plus_zero}
use Rattle.ieee754.specs.Binary64.{two_to_minus81}
use Rattle.elementary_fixed_point.specs.Fraction.{Fraction, sum, negated, times, Near}
use Rattle.elementary_fixed_point.specs.Product.{hi}
use Rattle.elementary_fixed_point.specs.Conversion.{scaled}
use Rattle.elementary_fixed_point.specs.Code.Bounds.{Approximates}
use Rattle.elementary_fixed_point.proofs.Enclosures.{hi_mono}
use Rattle.elementary_fixed_point.proofs.Approximations.{approximates_sum}
use Rattle.elementary_fixed_point.proofs.ToFloat.{Scaled, scaled_near, near_scaled, near_neg}
use Rattle.elementary_logarithm.specs.Series.{L, quotient}
use Rattle.elementary_logarithm.specs.Steps.{reciprocal_ten, common, past_one, before_one}
use Rattle.elementary_logarithm.specs.Code.Parts.{over_ten}
use Rattle.elementary_logarithm.proofs.Constants.{reciprocal_ten_is}
use Rattle.elementary_logarithm.proofs.CommonBound.{approximates_common, common_lt}
use Rattle.elementary_logarithm.proofs.PastOneBound.{past_near, past_lt, past_some}
use Rattle.elementary_logarithm.proofs.BeforeOneBound.{before_near, before_lt, before_some}
use Rattle.elementary_logarithm.proofs.Sign.{LogarithmAt, above_zero, at_least}

fine_is : two_to_minus81 ≡ fin false 1 (negsuc 80)
unfolding of_bits
fine_is = refl

float : (d : ℕ) → d < 2 ^ 64 → Scaled 81 d (scaled d two_to_minus81)
float d h = subst (λ (z : Float). Scaled 81 d (scaled d z)) (sym fine_is) (scaled_near 80 d (lit≤ tt) h)

total : (D E : ℕ) (f : Fraction) → D < 2 ^ 64 → (E + 2 + 1024) * 2 ^ 36 ≤ 2 ^ 81 → Approximates (2 ^ 81) D E f → Near 36 (scaled (common D) two_to_minus81) (over_ten f)
total D E f h room a = near_scaled 36 81 (common D) (E + 2) (over_ten f) (scaled (common D) two_to_minus81) room (float (common D) (common_lt D h)) (approximates_common (2 ^ 81) D E f (le_of_lt h) a)

-- D is 2 ^ 28 at least, and so common D is 2 ^ 26 at least
abbrev result : ℕ → Float
result D = scaled (common D) two_to_minus81

some : (D : ℕ) → 2 ^ 28 ≤ D → 2 ^ 26 + 1024 ≤ common D
some D h = le_trans first (hi_mono (2 ^ 28) reciprocal_ten D reciprocal_ten h (le_refl reciprocal_ten))
  where
    first : 2 ^ 26 + 1024 ≤ hi (2 ^ 28) reciprocal_ten
    first = subst (λ (z : ℕ). 2 ^ 26 + 1024 ≤ hi (2 ^ 28) z) (sym reciprocal_ten_is) (lit≤ tt)

signs : (D : ℕ) → D < 2 ^ 64 → 2 ^ 28 ≤ D → T (lt plus_zero (result D)) × T (lt (neg (result D)) plus_zero)
signs D h l = let sc = float (common D) (common_lt D h) in above_zero 81 (result D) sc.c sc.value (sc.some (lt_of_lt_of_le (lit< tt) (some D l)))

sizes : (D : ℕ) → D < 2 ^ 64 → 2 ^ 28 ≤ D → (den (result D) ≤ num (result D) * 2 ^ 55) × (den (neg (result D)) ≤ num (neg (result D)) * 2 ^ 55)
sizes D h l = let sc = float (common D) (common_lt D h) in at_least 81 55 (result D) sc.c sc.value (enough (common D) sc.c (some D l) sc.over)
  where
    enough : (d c : ℕ) → 2 ^ 26 + 1024 ≤ d → d ≤ c + 1024 → 2 ^ 81 ≤ c * 2 ^ 55
    enough d c h k = omega arith

-- ---- from 1 on
none : (U : ℕ) (f : Fraction) → Approximates U 0 0 (times 0 f)
none U f = record {
  low = le_of_eq (ap (λ (z : ℕ). z + 0 * f.minus * U) (zero-mul f.over) ∙ zero-add (0 * f.minus * U) ∙ zeros f.minus ∙ sym (zeros f.plus) ∙ sym (ap (λ (z : ℕ). 0 * f.plus * U + z) (zero-mul f.over) ∙ add-zero (0 * f.plus * U)));
  high = le_of_eq (zeros f.plus ∙ sym (zeros f.minus) ∙ sym (ap (λ (z : ℕ). 0 * f.minus * U + z) (zero-mul f.over) ∙ add-zero (0 * f.minus * U)));
}
  where
    zeros : (x : ℕ) → 0 * x * U ≡ 0
    zeros x = ap (λ (z : ℕ). z * U) (zero-mul x) ∙ zero-mul U

zero_is : scaled 0 two_to_minus81 ≡ plus_zero
unfolding scaled of_int mul of_bits
zero_is = refl

one_is : scaled (common (past_one 0)) two_to_minus81 ≡ plus_zero
unfolding past_one
one_is = ap (λ (z : ℕ). scaled (hi 0 z) two_to_minus81) reciprocal_ten_is ∙ zero_is

pub past_one_lem : (u : ℕ) → u < 2 ^ 34 → LogarithmAt (u + 2 ^ 52) 1074 (scaled (common (past_one u)) two_to_minus81)
unfolding quotient
past_one_lem u small = record {
  near = total (past_one u) (0 + (2 ^ 44 + 2 ^ 24)) (sum (times 0 (L 2 1)) (L (u + 2 ^ 52) (2 ^ 52))) (past_lt u small) (lit≤ tt)
      (subst (λ (z : ℕ). Approximates (2 ^ 81) z (0 + (2 ^ 44 + 2 ^ 24)) (sum (times 0 (L 2 1)) (L (u + 2 ^ 52) (2 ^ 52)))) (zero-add (past_one u)) (approximates_sum (2 ^ 81) 0 0 (times 0 (L 2 1)) (past_one u) (2 ^ 44 + 2 ^ 24) (L (u + 2 ^ 52) (2 ^ 52)) (none (2 ^ 81) (L 2 1)) (past_near u small)));
  below = λ (h : (u + 2 ^ 52) * 2 ^ 1074 < 2 ^ 1126). absurd (lt_irrefl (2 ^ 1126) (lt_of_le_of_lt (le_trans (le_of_eq (pow-add 2 52 1074)) (mul-le-mul_right (2 ^ 1074) (more u))) h));
  at = λ (h : (u + 2 ^ 52) * 2 ^ 1074 ≡ 2 ^ 1126). subst (λ (z : ℕ). scaled (common (past_one z)) two_to_minus81 ≡ plus_zero) (sym (same u (native.Mathlib.Nat.eq_of_mul-eq-mul_right (2 ^ 1074) (pow_pos 1074) (u + 2 ^ 52) (2 ^ 52) (h ∙ pow-add 2 52 1074)))) one_is;
  above = λ (h : 2 ^ 1126 < (u + 2 ^ 52) * 2 ^ 1074). (signs (past_one u) (past_lt u small) (past_some u small (more-than u h))).0;
  size = λ (h : (u + 2 ^ 52) * 2 ^ 1074 ≡ 2 ^ 1126 → ⊥). (sizes (past_one u) (past_lt u small) (past_some u small (other u h))).0;
}
  where
    more : (u : ℕ) → 2 ^ 52 ≤ u + 2 ^ 52
    more u = omega arith

    same : (u : ℕ) → u + 2 ^ 52 ≡ 2 ^ 52 → u ≡ 0
    same u h = omega arith

    other : (u : ℕ) → ((u + 2 ^ 52) * 2 ^ 1074 ≡ 2 ^ 1126 → ⊥) → 0 < u
    other zero h = absurd (h (sym (pow-add 2 52 1074)))
    other (suc u) h = zero-lt-suc u

    more-than : (u : ℕ) → 2 ^ 1126 < (u + 2 ^ 52) * 2 ^ 1074 → 0 < u
    more-than u h = other u (λ (e : (u + 2 ^ 52) * 2 ^ 1074 ≡ 2 ^ 1126). lt_irrefl (2 ^ 1126) (subst (λ (z : ℕ). 2 ^ 1126 < z) e h))

-- ---- below 1
pub before_one_lem : (v : ℕ) → 0 < v → v < 2 ^ 34 → LogarithmAt (2 ^ 53 - v) 1073 (neg (scaled (common (before_one v)) two_to_minus81))
unfolding quotient
before_one_lem v p small = record {
  near = near_neg 36 (scaled (common (before_one v)) two_to_minus81) (over_ten (sum (times 1 (L 2 1)) (negated (L (2 ^ 53 - v) (2 ^ 52))))) (total (before_one v) (2 ^ 44) (sum (times 1 (L 2 1)) (negated (L (2 ^ 53 - v) (2 ^ 52)))) (before_lt v small) (lit≤ tt) (before_near v small));
  below = λ (h : (2 ^ 53 - v) * 2 ^ 1073 < 2 ^ 1126). (signs (before_one v) (before_lt v small) (before_some v small p)).1;
  at = λ (h : (2 ^ 53 - v) * 2 ^ 1073 ≡ 2 ^ 1126). absurd (lt_irrefl (2 ^ 1126) (subst (λ (z : ℕ). z < 2 ^ 1126) h under));
  above = λ (h : 2 ^ 1126 < (2 ^ 53 - v) * 2 ^ 1073). absurd (lt_irrefl (2 ^ 1126) (lt_of_lt_of_le h (le_of_lt under)));
  size = λ (h : (2 ^ 53 - v) * 2 ^ 1073 ≡ 2 ^ 1126 → ⊥). (sizes (before_one v) (before_lt v small) (before_some v small p)).1;
}
  where
    fewer : (v : ℕ) → 0 < v → 2 ^ 53 - v < 2 ^ 53
    fewer v p = omega arith

    under : (2 ^ 53 - v) * 2 ^ 1073 < 2 ^ 1126
    under = lt_of_lt_of_le (mul-lt-mul_of_pos_right (fewer v p) (pow_pos 1073)) (le_of_eq (sym (pow-add 2 53 1073)))
