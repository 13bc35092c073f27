-- L's series at an m near 2 and at 2 itself: m is 2 - 2 v / 2 ^ 53, v below 2 ^ 34, and the difference lies between the slopes at the two
-- arguments, times theirs.
use mathlib.Core.Path.{◌≡◌, refl, sym, ap, ◌∙◌, subst}
use Prim.Native.Nat.{ℕ, zero, suc, ◌+◌, ◌-◌, ◌*◌, ◌^◌, ◌≤◌, ◌<◌}
use native.Mathlib.Nat.{le_trans, le_of_eq, le_antisymm, mul_assoc, mul_comm, mul_left_comm, mul_right_comm, one-mul, mul-le-mul_right, le_of_mul-le-mul_right, eq_of_mul-eq-mul_right, mul-mul-mul_comm, pow-zero, pow-suc}
use native.Mathlib.Omega.{arith}
use lib.Dec.{lit<, lit≤}
use Rattle.elementary_logarithm.specs.Code.Parts.{odd_terms}
use Rattle.elementary_fixed_point.specs.Series.{factorial, terms, reciprocal}
use Rattle.elementary_fixed_point.proofs.PowerSums.{pos_pow}
use Rattle.elementary_fixed_point.proofs.Tails.{terms-mono}
use Rattle.elementary_logarithm.proofs.Slope.{slope, terms_above, terms_below}

-- ---- the slope at w = 1 / 3 is at most 9 / 8; 2 ^ 34 steps below it, it is at least 9 / 8 but for a millionth
abbrev pub slopes : ℕ → ℕ → ℕ
slopes a b = terms (slope (reciprocal 41)) 40 2 a b 21 0

steepest : slopes 1 3 * 8 ≤ factorial 41 * 3 ^ 40 * 9
unfolding terms reciprocal factorial
steepest = lit≤ tt

flattest : factorial 41 * 786431 ^ 40 * (9 * 1048575) ≤ slopes 262143 786431 * (8 * 1048576)
unfolding terms reciprocal factorial
flattest = lit≤ tt

power_product : (x y n : ℕ) → (x * y) ^ n ≡ x ^ n * y ^ n
power_product x y zero = pow-zero (x * y) ∙ sym (ap (λ (z : ℕ). z * y ^ 0) (pow-zero x) ∙ one-mul (y ^ 0) ∙ pow-zero y)
power_product x y (suc n) = pow-suc (x * y) n ∙ ap (λ (z : ℕ). z * (x * y)) (power_product x y n) ∙ mul-mul-mul_comm (x ^ n) (y ^ n) x y ∙ sym (ap (λ (z : ℕ). z * y ^ suc n) (pow-suc x n) ∙ ap (λ (z : ℕ). x ^ n * x * z) (pow-suc y n))

module _ (v : ℕ) (small : v < 2 ^ 34) where
  -- w is a / b
  abbrev pub a : ℕ
  a = 2 ^ 52 - v

  abbrev pub b : ℕ
  b = 2 ^ 53 + 2 ^ 52 - v

  abbrev pub Z : ℕ
  Z = 3 * b

  -- over one divisor the two arguments are 3 a and b, 2 v apart
  pub apart : 3 * a + 2 * v ≡ b
  apart = go v small
    where
      go : (v : ℕ) → v < 2 ^ 34 → 3 * (2 ^ 52 - v) + 2 * v ≡ 2 ^ 53 + 2 ^ 52 - v
      go v h = omega arith

  pub b_pos : 0 < b
  b_pos = go v small
    where
      go : (v : ℕ) → v < 2 ^ 34 → 0 < 2 ^ 53 + 2 ^ 52 - v
      go v h = omega arith

  abbrev pub X : ℕ
  X = odd_terms b Z 21

  abbrev pub Y : ℕ
  Y = odd_terms (3 * a) Z 21

  pub power : (n : ℕ) → Z ^ n ≡ 3 ^ n * b ^ n
  power n = power_product 3 b n

  -- the same fraction, so the same terms
  pub x_is : odd_terms 1 3 21 * b ^ 41 ≡ X
  x_is =
      eq_of_mul-eq-mul_right (3 ^ 41) (pow-pos' 41) (odd_terms 1 3 21 * b ^ 41) X
      (mul_assoc (odd_terms 1 3 21) (b ^ 41) (3 ^ 41) ∙ ap (λ (z : ℕ). odd_terms 1 3 21 * z) (mul_comm (b ^ 41) (3 ^ 41) ∙ sym (power 41))
      ∙ le_antisymm (terms-mono (reciprocal 41) 41 2 1 3 b Z (le_of_eq (one-mul Z ∙ mul_comm 3 b)) 21 1 (lit≤ tt)) (terms-mono (reciprocal 41) 41 2 b Z 1 3 (le_of_eq (mul_comm b 3 ∙ sym (one-mul Z))) 21 1 (lit≤ tt)))
    where
      pow-pos' : (n : ℕ) → 0 < 3 ^ n
      pow-pos' n = pos_pow 3 n (lit< tt)

  pub y_is : odd_terms a b 21 * 3 ^ 41 ≡ Y
  y_is =
      eq_of_mul-eq-mul_right (b ^ 41) (pos_pow b 41 b_pos) (odd_terms a b 21 * 3 ^ 41) Y
      (mul_assoc (odd_terms a b 21) (3 ^ 41) (b ^ 41) ∙ ap (λ (z : ℕ). odd_terms a b 21 * z) (sym (power 41))
      ∙ le_antisymm (terms-mono (reciprocal 41) 41 2 a b (3 * a) Z (le_of_eq (sym (mul_assoc a 3 b) ∙ ap (λ (z : ℕ). z * b) (mul_comm a 3))) 21 1 (lit≤ tt)) (terms-mono (reciprocal 41) 41 2 (3 * a) Z a b (le_of_eq (ap (λ (z : ℕ). z * b) (mul_comm 3 a) ∙ mul_assoc a 3 b)) 21 1 (lit≤ tt)))

  -- ---- by the slopes
  pub rise : X ≤ Y + 2 * v * slopes b Z
  rise = subst (λ (z : ℕ). odd_terms z Z 21 ≤ Y + 2 * v * slopes z Z) apart (terms_above (reciprocal 41) 40 2 (3 * a) (2 * v) Z 21 0)

  pub fall : Y + 2 * v * slopes (3 * a) Z ≤ X
  fall = subst (λ (z : ℕ). Y + 2 * v * slopes (3 * a) Z ≤ odd_terms z Z 21) apart (terms_below (reciprocal 41) 40 2 (3 * a) (2 * v) Z 21 0)

  pub steep : slopes b Z * 8 ≤ factorial 41 * Z ^ 40 * 9
  steep =
      le_of_mul-le-mul_right {m = slopes b Z * 8} {n = factorial 41 * Z ^ 40 * 9} {k = 3 ^ 40}
      (le_trans (le_of_eq (mul_right_comm (slopes b Z) 8 (3 ^ 40)))
      (le_trans (mul-le-mul_right 8 (terms-mono (slope (reciprocal 41)) 40 2 b Z 1 3 (le_of_eq (mul_comm b 3 ∙ sym (one-mul Z))) 21 0 (lit≤ tt)))
      (le_trans (le_of_eq (mul_right_comm (slopes 1 3) (Z ^ 40) 8))
      (le_trans (mul-le-mul_right (Z ^ 40) steepest) (le_of_eq (turn (factorial 41) (3 ^ 40) 9 (Z ^ 40)))))))
      (pos_pow 3 40 (lit< tt))
    where
      turn : (f p n z : ℕ) → f * p * n * z ≡ f * z * n * p
      turn f p n z = simp (mul_assoc, mul_comm, mul_left_comm) refl

  pub flat : factorial 41 * Z ^ 40 * (9 * 1048575) ≤ slopes (3 * a) Z * (8 * 1048576)
  flat =
      le_of_mul-le-mul_right {m = factorial 41 * Z ^ 40 * (9 * 1048575)} {n = slopes (3 * a) Z * (8 * 1048576)} {k = 786431 ^ 40}
      (le_trans (le_of_eq (turn (factorial 41) (Z ^ 40) (9 * 1048575) (786431 ^ 40)))
      (le_trans (mul-le-mul_right (Z ^ 40) flattest)
      (le_trans (le_of_eq (mul_right_comm (slopes 262143 786431) (8 * 1048576) (Z ^ 40)))
      (le_trans (mul-le-mul_right (8 * 1048576) (terms-mono (slope (reciprocal 41)) 40 2 262143 786431 (3 * a) Z (least v small) 21 0 (lit≤ tt)))
      (le_of_eq (mul_right_comm (slopes (3 * a) Z) (786431 ^ 40) (8 * 1048576)))))))
      (pos_pow 786431 40 (lit< tt))
    where
      turn : (f p n z : ℕ) → f * p * n * z ≡ f * z * n * p
      turn f p n z = simp (mul_assoc, mul_comm, mul_left_comm) refl

      least : (v : ℕ) → v < 2 ^ 34 → 262143 * (3 * (2 ^ 53 + 2 ^ 52 - v)) ≤ 3 * (2 ^ 52 - v) * 786431
      least v h = omega arith
