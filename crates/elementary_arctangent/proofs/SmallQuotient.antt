-- A quotient n / d up to 2 ^ -16 is its own arctangent, to within 2 ^ -48: of the Taylor sum only the first term counts.
use mathlib.Core.Path.{◌≡◌, refl, sym, ap, ◌∙◌, subst}
use mathlib.Core.Bool.{Bool, true, false, cond}
use Prim.Native.Nat.{ℕ, ◌+◌, ◌-◌, ◌*◌, ◌^◌, ◌≤◌, ◌<◌, zero-le}
use native.Mathlib.Nat.{le_refl, le_trans, le_of_eq, le_of_lt, lt_of_le_of_lt, not-le_of_lt, lt_of_not-le, zero-lt-suc, le-add_right, add_assoc, mul_assoc, mul_comm, mul_left_comm, mul_right_comm, mul-one, one-mul, zero-mul, add-mul, mul-pos, mul-le-mul_left, mul-le-mul_right, mul-lt-mul_of_pos_right, le_of_mul-le-mul_right, pow-suc}
use native.Mathlib.Omega.{arith}
use lib.IntN.{ℤ, negsuc}
use lib.Dec.{T, ltb→lt, lit<, lit≤}
use lib.Count.{count_trailing_zeros}
use lib.Pow.{pow_pos, pow-lt}
use borrow.Author.Tests.{le-leb}
use lib.Ieee.{Float, nan, inf, fin, binary64, up, down, span, climb, size, odd, units, round, mul, lt, le, eq, fits, of_bits}
use lib.Ieee.Fits.{down_pos}
use lib.Ieee.Exact.{HasValue}
use lib.Ieee.Order.{transfer, round_mono}
use lib.Ieee.Scale.{grid, round_val}
use Rattle.ieee754.specs.Binary64.{pi}
use Rattle.ieee754_rounding.proofs.RoundingError.{absolute, no_overflow}
use Rattle.elementary_fixed_point.specs.Series.{factorial, terms, reciprocal}
use Rattle.elementary_fixed_point.specs.Fraction.{Fraction, sum, negated, Near, times}
use Rattle.elementary_fixed_point.specs.Code.Bounds.{Approximates}
use Rattle.elementary_fixed_point.proofs.PowerSums.{pow_one}
use Rattle.elementary_fixed_point.proofs.Tails.{terms-mono}
use Rattle.ieee754_rounding.proofs.FormatValues.{fitting}
use Rattle.elementary_fixed_point.proofs.PowerOfTwo.{times_exact}
use Rattle.elementary_fixed_point.proofs.ToFloat.{near_scaled}
use Rattle.elementary_arctangent.specs.Angle.{taylor, upto_one, A, eighth_turn}
use Rattle.elementary_arctangent.proofs.Doubling.{either}

-- ---- the other terms at 2 ^ -16
later_plus : terms (reciprocal 81) 81 4 1 (2 ^ 16) 20 5 * 2 ^ 48 ≤ factorial 81 * (2 ^ 16) ^ 81
unfolding terms reciprocal factorial
later_plus = lit≤ tt

later_minus : terms (reciprocal 81) 81 4 1 (2 ^ 16) 20 3 * 2 ^ 48 ≤ factorial 81 * (2 ^ 16) ^ 81
unfolding terms reciprocal factorial
later_minus = lit≤ tt

first_coefficient : reciprocal 81 1 ≡ factorial 81
unfolding reciprocal factorial
first_coefficient = refl

module _ (n d : ℕ) (small : n * 2 ^ 16 ≤ d) where
  abbrev D : ℕ
  D = factorial 81 * d ^ 81

  -- m terms from degree j on
  later_terms : (m j : ℕ) → j + 4 * m ≤ 81 + 4 → terms (reciprocal 81) 81 4 1 (2 ^ 16) m j * 2 ^ 48 ≤ factorial 81 * (2 ^ 16) ^ 81 → terms (reciprocal 81) 81 4 n d m j * 2 ^ 48 ≤ D
  later_terms m j deg room =
      le_of_mul-le-mul_right {m = terms (reciprocal 81) 81 4 n d m j * 2 ^ 48} {n = D} {k = (2 ^ 16) ^ 81}
      (le_trans (le_of_eq (mul_right_comm (terms (reciprocal 81) 81 4 n d m j) (2 ^ 48) ((2 ^ 16) ^ 81)))
      (le_trans (mul-le-mul_right (2 ^ 48) (terms-mono (reciprocal 81) 81 4 n d 1 (2 ^ 16) (le_trans small (le_of_eq (sym (one-mul d)))) m j deg))
      (le_trans (le_of_eq (mul_right_comm (terms (reciprocal 81) 81 4 1 (2 ^ 16) m j) (d ^ 81) (2 ^ 48)))
      (le_trans (mul-le-mul_right (d ^ 81) room) (le_of_eq (mul_right_comm (factorial 81) ((2 ^ 16) ^ 81) (d ^ 81)))))))
      (lit< tt)

  rest : ℕ
  rest = terms (reciprocal 81) 81 4 n d 20 5

  abbrev N : ℕ
  N = (taylor n d).minus

  rest_le : rest * 2 ^ 48 ≤ D
  unfolding rest
  rest_le = later_terms 20 5 (lit≤ tt) later_plus

  minus_le : N * 2 ^ 48 ≤ D
  minus_le = later_terms 20 3 (lit≤ tt) later_minus

  -- the first term, over D, is n / d
  first : ℕ
  first = factorial 81 * (n * d ^ 80)

  plus_is : (taylor n d).plus ≡ first + rest
  unfolding terms first rest
  plus_is = ap (λ (z : ℕ). z + rest) (ap (λ (z : ℕ). z * n ^ 1 * d ^ 80) first_coefficient ∙ ap (λ (z : ℕ). factorial 81 * z * d ^ 80) (pow_one n) ∙ mul_assoc (factorial 81) n (d ^ 80))

  over_is : D ≡ factorial 81 * d ^ 80 * d
  over_is = ap (λ (z : ℕ). factorial 81 * z) (pow-suc d 80) ∙ sym (mul_assoc (factorial 81) (d ^ 80) d)

  -- v of the units U is within g of n / d
  module _ (U v g t : ℕ) (below : v * d ≤ n * U + d * g) (above : n * U ≤ v * d + d * g) (few : U ≤ 2 ^ 48 * t) where
    part : (x : ℕ) → x * 2 ^ 48 ≤ D → x * U ≤ t * D
    part x h = le_trans (mul-le-mul_left x few) (le_trans (le_of_eq (sym (mul_assoc x (2 ^ 48) t))) (le_trans (mul-le-mul_right t h) (le_of_eq (mul_comm D t))))

    first-low : v * D ≤ first * U + g * D
    unfolding first
    first-low =
        le_trans (le_of_eq (ap (λ (z : ℕ). v * z) over_is ∙ shift₁ v (factorial 81 * d ^ 80) d))
        (le_trans (mul-le-mul_right (factorial 81 * d ^ 80) below) (le_of_eq (add-mul (n * U) (d * g) (factorial 81 * d ^ 80) ∙ ap (λ (z : ℕ). z + d * g * (factorial 81 * d ^ 80)) (shift₂ n U (factorial 81) (d ^ 80)) ∙ ap (λ (z : ℕ). factorial 81 * (n * d ^ 80) * U + z) (shift₃ d g (factorial 81 * d ^ 80) ∙ ap (λ (z : ℕ). g * z) (sym over_is)))))
      where
        shift₁ : (v k d : ℕ) → v * (k * d) ≡ v * d * k
        shift₁ v k d = simp (mul_assoc, mul_comm) refl

        shift₂ : (n u k l : ℕ) → n * u * (k * l) ≡ k * (n * l) * u
        shift₂ n u k l = simp (mul_assoc, mul_comm, mul_left_comm) refl

        shift₃ : (d g k : ℕ) → d * g * k ≡ g * (k * d)
        shift₃ d g k = simp (mul_assoc, mul_comm, mul_left_comm) refl

    first-high : first * U ≤ (v + g) * D
    unfolding first
    first-high =
        le_trans (le_of_eq (shift n U (factorial 81) (d ^ 80)))
        (le_trans (mul-le-mul_right (factorial 81 * d ^ 80) above) (le_of_eq (ap (λ (z : ℕ). (v * d + z) * (factorial 81 * d ^ 80)) (mul_comm d g) ∙ ap (λ (z : ℕ). z * (factorial 81 * d ^ 80)) (sym (add-mul v g d)) ∙ mul_assoc (v + g) d (factorial 81 * d ^ 80) ∙ ap (λ (z : ℕ). (v + g) * z) (mul_comm d (factorial 81 * d ^ 80) ∙ sym over_is))))
      where
        shift : (n u k l : ℕ) → k * (n * l) * u ≡ n * u * (k * l)
        shift n u k l = simp (mul_assoc, mul_comm, mul_left_comm) refl

    small-taylor : Approximates U v (g + t) (taylor n d)
    small-taylor =
        let is : (taylor n d).plus * U ≡ first * U + rest * U = ap (λ (z : ℕ). z * U) plus_is ∙ add-mul first rest U in
        record {
          low = lower (v * D) (N * U) (first * U) (rest * U) (g * D) (t * D) ((taylor n d).plus * U) ((g + t) * D) first-low (part N minus_le) is (add-mul g t D);
          high = upper (N * U) (first * U) (rest * U) ((v + g) * D) (t * D) ((taylor n d).plus * U) ((v + (g + t)) * D) first-high (part rest rest_le) is (ap (λ (z : ℕ). z * D) (sym (add_assoc v g t)) ∙ add-mul (v + g) t D);
        }
      where
        lower : (x y f r g t p e : ℕ) → x ≤ f + g → y ≤ t → p ≡ f + r → e ≡ g + t → x + y ≤ p + e
        lower x y f r g t p e a b c h = omega arith

        upper : (y f r x t p e : ℕ) → f ≤ x → r ≤ t → p ≡ f + r → e ≡ x + t → p ≤ y + e
        upper y f r x t p e a b c h = omega arith

  small_is : A n d ≡ taylor n d
  unfolding A upto_one
  small_is = ap (λ (c : Bool). cond c (upto_one n d) (sum (times 2 eighth_turn) (negated (upto_one d n)))) (le-leb n d (one n d small)) ∙ ap (λ (c : Bool). cond c (taylor n d) (sum (taylor 1 2) (taylor (2 * n - d) (2 * d + n)))) (le-leb (2 * n) d (two n d small))
    where
      one : (n d : ℕ) → n * 2 ^ 16 ≤ d → n ≤ d
      one n d h = omega arith

      two : (n d : ℕ) → n * 2 ^ 16 ≤ d → 2 * n ≤ d
      two n d h = omega arith

-- ---- nothing
pub zero_angle : (d : ℕ) → Approximates (2 ^ 62) 0 (2 ^ 14) (A 0 d)
zero_angle d = subst (λ (f : Fraction). Approximates (2 ^ 62) 0 (2 ^ 14) f) (sym (small_is 0 d zero-le)) (small-taylor 0 d zero-le (2 ^ 62) 0 0 (2 ^ 14) (le_trans (le_of_eq (zero-mul d)) zero-le) (le_trans (le_of_eq (zero-mul (2 ^ 62))) zero-le) (lit≤ tt))

-- ---- a quotient that was rounded
module _ (n d : ℕ) (dp : 0 < d) (small : n * 2 ^ 16 ≤ d) where
  one : n ≤ d
  one = go n d small
    where
      go : (n d : ℕ) → n * 2 ^ 16 ≤ d → n ≤ d
      go n d h = omega arith

  pub quotient_value : HasValue (round binary64 false n d) false (grid binary64 n d) (2 ^ 1074)
  quotient_value = round_val binary64 n d (no_overflow binary64 n d 0 dp (lit< tt) (le_trans one (le_of_eq (sym (one-mul d)))))

  pub quotient_near : Near 40 (round binary64 false n d) (A n d)
  quotient_near =
      let v : ℕ = grid binary64 n d in
      let w = absolute binary64 n d 1075 dp (lt_of_le_of_lt (mul-le-mul_right (2 ^ 1074) one) (lt_of_le_of_lt (le_of_eq (mul_comm d (2 ^ 1074))) (mul-lt-mul_of_pos_right (pow-lt {i = 1074} {j = 1075} (le_refl 1075)) dp))) in
      near_scaled 40 1074 v (2 ^ 1022 + 2 ^ 1026) (A n d) (round binary64 false n d) (lit≤ tt)
      (record { c = v; under = le-add_right v 1024; over = le-add_right v 1024; some = λ (h : 0 < v). h; exact = λ (h : v < 2 ^ 53). refl; value = quotient_value })
      (subst (λ (f : Fraction). Approximates (2 ^ 1074) v (2 ^ 1022 + 2 ^ 1026) f) (sym (small_is n d small))
      (small-taylor n d small (2 ^ 1074) v (2 ^ 1022) (2 ^ 1026) (halves (v * d) (n * 2 ^ 1074) (d * 2 ^ 1022) w.under) (halves (n * 2 ^ 1074) (v * d) (d * 2 ^ 1022) w.over) (lit≤ tt)))
    where
      halves : (x y z : ℕ) → 2 * x ≤ 2 * y + z → x ≤ y + z
      halves x y z h = omega arith

-- ---- which quotients are small: where a is below the product b * 2 ^ -16, it is below b / 2 ^ 16, since a itself is a float and rounding
-- does not pass it
not_both : (m : ℕ) (e : ℤ) (p w : Float) → HasValue w false (m * up e * (1 * 2 ^ 0)) (down e * 1) → T (lt (fin false m e) p) → T (le p w) → ⊥
unfolding lt le eq
not_both m e p nan v t u = absurd v
not_both m e p (inf s) v t u = absurd v
not_both m e p (fin true M E) v t u = absurd (subst (λ (b : Bool). T b) v.0 tt)
not_both m e nan (fin false M E) v t u = t
not_both m e (inf true) (fin false M E) v t u = t
not_both m e (inf false) (fin false M E) v t u = u
not_both m e (fin true n d) (fin false M E) v t u = t
not_both m e (fin false n d) (fin false M E) v t u =
    not-le_of_lt (ltb→lt (m * up e * down d) (n * up d * down e) t)
    (transfer (n * up d) (m * up e) (down d) (down e) (n * up d) (M * up E) (down d) (down E) (down_pos d) (down_pos E) refl (sym own) (either (n * up d * down E) (M * up E * down d) u))
  where
    own : M * up E * down e ≡ m * up e * down E
    own = ap (λ (z : ℕ). M * up E * z) (sym (mul-one (down e))) ∙ v.1 ∙ ap (λ (z : ℕ). z * down E) (ap (λ (z : ℕ). m * up e * z) (one-mul (2 ^ 0)) ∙ mul-one (m * up e))

pub small_below : (m : ℕ) (e : ℤ) (n : ℕ) (d : ℤ) → T (fits binary64 (fin false m e)) → T (lt (fin false m e) (mul binary64 (fin false n d) (fin false 1 (negsuc 15)))) → m * up e * down d * 2 ^ 16 ≤ n * up d * down e
unfolding mul
small_below m e n d fa t =
    le_of_lt (lt_of_not-le (λ (g : n * up d * down e ≤ m * up e * down d * 2 ^ 16).
    not_both m e (round binary64 false (n * up d * (1 * 1)) (down d * 2 ^ 16)) (round binary64 false (m * up e * (1 * 2 ^ 0)) (down e * 1))
    (times_exact binary64 m e fa 0 (subst (λ (z : ℕ). z < 2 ^ 1024 * (down e * 1)) (sym (ap (λ (z : ℕ). m * up e * z) (one-mul (2 ^ 0)) ∙ mul-one (m * up e))) (subst (λ (z : ℕ). m * up e < 2 ^ 1024 * z) (sym (mul-one (down e))) (fitting binary64 false m e fa).below_top))) t
    (round_mono binary64 (n * up d * (1 * 1)) (down d * 2 ^ 16) (m * up e * (1 * 2 ^ 0)) (down e * 1) (mul-pos (down_pos d) (pow_pos 16)) (mul-pos (down_pos e) (zero-lt-suc 0))
    (le_trans (le_of_eq (left (n * up d) (down e))) (le_trans g (le_of_eq (right (m * up e) (down d) (2 ^ 16))))))))
  where
    left : (x y : ℕ) → x * (1 * 1) * (y * 1) ≡ x * y
    left x y = ap (λ (z : ℕ). z * (y * 1)) (mul-one x) ∙ ap (λ (z : ℕ). x * z) (mul-one y)

    right : (x y z : ℕ) → x * y * z ≡ x * (1 * 2 ^ 0) * (y * z)
    right x y z = mul_assoc x y z ∙ ap (λ (w : ℕ). w * (y * z)) (sym (mul-one x))

-- and it does not reach π
pi_rounds : round binary64 false 884279719003555 (2 ^ 48) ≡ pi
unfolding round size span climb units odd count_trailing_zeros of_bits
pi_rounds = refl

pub small_upto : (n d : ℕ) → 0 < d → n * 2 ^ 16 ≤ d → T (le (round binary64 false n d) pi)
small_upto n d dp h = subst (λ (z : Float). T (le (round binary64 false n d) z)) pi_rounds (round_mono binary64 n d 884279719003555 (2 ^ 48) dp (pow_pos 48) (go n d h))
  where
    go : (n d : ℕ) → n * 2 ^ 16 ≤ d → n * 2 ^ 48 ≤ 884279719003555 * d
    go n d h = omega arith
