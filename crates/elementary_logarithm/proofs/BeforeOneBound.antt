-- Fewer than 2 ^ 34 steps below 1: L(2) - L(m) is v / 2 ^ 53 but for its square.
use mathlib.Core.Path.{◌≡◌, refl, sym, ap, ◌∙◌, subst}
use Prim.Native.Nat.{ℕ, ◌+◌, ◌-◌, ◌*◌, ◌/◌, ◌^◌, ◌≤◌, ◌<◌}
use native.Mathlib.Nat.{le_refl, le_trans, le_of_eq, le_of_lt, add-zero, zero-add, mul_assoc, mul_comm, mul_left_comm, mul_right_comm, one-mul, zero-mul, add-mul, mul-add, mul-le-mul, mul-le-mul_left, mul-le-mul_right, le_of_mul-le-mul_right, add-le-add, le-add_right, pow-suc}
use native.Mathlib.Omega.{arith}
use lib.Dec.{lit<, lit≤}
use Rattle.elementary_fixed_point.specs.Series.{factorial}
use Rattle.elementary_fixed_point.specs.Fraction.{Fraction, sum, negated, times}
use Rattle.elementary_fixed_point.specs.Product.{hi}
use Rattle.elementary_fixed_point.specs.Code.Bounds.{Approximates}
use Rattle.elementary_fixed_point.proofs.Enclosures.{hi_mono}
use Rattle.elementary_logarithm.specs.Series.{L}
use Rattle.elementary_logarithm.specs.Steps.{before_one}
use Rattle.elementary_logarithm.specs.Code.Parts.{odd_terms}
use Rattle.elementary_logarithm.proofs.SlopeNearTwo as near

-- regroupings of products, whose numbers then multiply out
factors : (x v p g y : ℕ) → x * v * p * (g * y) ≡ v * g * (x * p * y)
factors x v p g y = simp (mul_assoc, mul_left_comm) refl

twice : (c e t f p : ℕ) → c * t * (f * p) * e ≡ t * p * (c * e) * f
twice c e t f p = simp (mul_assoc, mul_comm, mul_left_comm) refl

thrice : (c e n b f z : ℕ) → n * b * (f * z * (c * e)) ≡ n * (f * (z * (c * b))) * e
thrice c e n b f z = simp (mul_assoc, mul_comm, mul_left_comm) refl

module _ (v : ℕ) (small : v < 2 ^ 34) where
  abbrev N : ℕ
  N = v * 2 ^ 28

  abbrev a : ℕ
  a = near.a v small

  abbrev b : ℕ
  b = near.b v small

  abbrev Z : ℕ
  Z = near.Z v small

  abbrev X : ℕ
  X = near.X v small

  abbrev Y : ℕ
  Y = near.Y v small

  -- ---- in units of 2 ^ -81
  abbrev O : ℕ
  O = factorial 41 * Z ^ 41

  N-lt : N ≤ 2 ^ 62
  N-lt = go v small
    where
      go : (v : ℕ) → v < 2 ^ 34 → v * 2 ^ 28 ≤ 2 ^ 62
      go v h = omega arith

  -- 3 v / 2 over b is at most v / 2 ^ 53 and its square
  ends_high : 3 * v * 2 ^ 80 ≤ (N + 2 ^ 44) * b
  ends_high =
      le_trans (le_of_eq (split v small))
      (le_trans (add-le-add (le_refl (N * b)) (le_trans (mul-le-mul N-lt (le_of_lt small)) (room v small))) (le_of_eq (sym (add-mul N (2 ^ 44) b))))
    where
      three : (v : ℕ) → v < 2 ^ 34 → 2 ^ 53 + 2 ^ 52 ≡ 2 ^ 53 + 2 ^ 52 - v + v
      three v h = omega arith

      split : (v : ℕ) → v < 2 ^ 34 → 3 * v * 2 ^ 80 ≡ v * 2 ^ 28 * (2 ^ 53 + 2 ^ 52 - v) + v * 2 ^ 28 * v
      split v h = lin v ∙ ap (λ (z : ℕ). v * 2 ^ 28 * z) (three v h) ∙ mul-add (v * 2 ^ 28) (2 ^ 53 + 2 ^ 52 - v) v
        where
          lin : (v : ℕ) → 3 * v * 2 ^ 80 ≡ v * 2 ^ 28 * (2 ^ 53 + 2 ^ 52)
          lin v = omega arith

      room : (v : ℕ) → v < 2 ^ 34 → 2 ^ 62 * 2 ^ 34 ≤ 2 ^ 44 * (2 ^ 53 + 2 ^ 52 - v)
      room v h = mul-le-mul_left (2 ^ 44) (large v h)
        where
          large : (v : ℕ) → v < 2 ^ 34 → 2 ^ 52 ≤ 2 ^ 53 + 2 ^ 52 - v
          large v h = omega arith

  ends_low : N * 1048575 * b ≤ 3 * v * 2 ^ 80 * 1048575
  ends_low = le_trans (mul-le-mul_left (N * 1048575) (most v)) (le_of_eq (lin v))
    where
      most : (v : ℕ) → 2 ^ 53 + 2 ^ 52 - v ≤ 2 ^ 53 + 2 ^ 52
      most v = omega arith

      lin : (v : ℕ) → v * 2 ^ 28 * 1048575 * (2 ^ 53 + 2 ^ 52) ≡ 3 * v * 2 ^ 80 * 1048575
      lin v = omega arith

  z_is : Z ^ 40 * Z ≡ Z ^ 41
  z_is = sym (pow-suc Z 40)

  high_side : X * 2 ^ 82 ≤ Y * 2 ^ 82 + (N + 2 ^ 44) * O
  high_side = le_trans (mul-le-mul_right (2 ^ 82) (near.rise v small)) (le_trans (le_of_eq (add-mul Y (2 * v * near.slopes b Z) (2 ^ 82))) (add-le-add (le_refl (Y * 2 ^ 82)) bound))
    where
      to : (v s : ℕ) → 2 * v * s * 2 ^ 82 * 8 ≡ 2 * v * 2 ^ 82 * (s * 8)
      to v s = simp (mul_assoc, mul_comm, mul_left_comm) refl

      mid : (v f z : ℕ) → 2 * v * 2 ^ 82 * (f * z * 9) ≡ 3 * v * 2 ^ 80 * (f * z * 24)
      mid v f z = factors 2 v (2 ^ 82) (f * z) 9 ∙ sym (factors 3 v (2 ^ 80) (f * z) 24)

      end : (n b f z : ℕ) → n * b * (f * z * 24) ≡ n * (f * (z * (3 * b))) * 8
      end n b f z = thrice 3 8 n b f z

      bound : 2 * v * near.slopes b Z * 2 ^ 82 ≤ (N + 2 ^ 44) * O
      bound =
          le_of_mul-le-mul_right {m = 2 * v * near.slopes b Z * 2 ^ 82} {n = (N + 2 ^ 44) * O} {k = 8}
          (le_trans (le_of_eq (to v (near.slopes b Z)))
          (le_trans (mul-le-mul_left (2 * v * 2 ^ 82) (near.steep v small))
          (le_trans (le_of_eq (mid v (factorial 41) (Z ^ 40)))
          (le_trans (mul-le-mul_right (factorial 41 * Z ^ 40 * 24) ends_high)
          (le_of_eq (end (N + 2 ^ 44) b (factorial 41) (Z ^ 40) ∙ ap (λ (z : ℕ). (N + 2 ^ 44) * (factorial 41 * z) * 8) z_is))))))
          (lit< tt)

  low_side : (l : ℕ) → l ≤ N + 2 ^ 42 → l * O + Y * 2 ^ 82 ≤ X * 2 ^ 82 + 2 ^ 43 * O
  low_side l h =
      le_trans (add-le-add most (le_refl (Y * 2 ^ 82)))
      (le_trans (le_of_eq (shuffle Q (2 ^ 43 * O) (Y * 2 ^ 82)))
      (add-le-add (le_trans (le_of_eq (sym (add-mul Y (2 * v * near.slopes (3 * a) Z) (2 ^ 82)))) (mul-le-mul_right (2 ^ 82) (near.fall v small))) (le_refl (2 ^ 43 * O))))
    where
      Q : ℕ
      Q = 2 * v * near.slopes (3 * a) Z * 2 ^ 82

      shuffle : (q e y : ℕ) → q + e + y ≡ y + q + e
      shuffle q e y = omega arith

      to : (v s : ℕ) → 2 * v * s * 2 ^ 82 * (8 * 1048576) ≡ 2 * v * 2 ^ 82 * (s * (8 * 1048576))
      to v s = simp (mul_assoc, mul_comm, mul_left_comm) refl

      mid : (v g : ℕ) → 3 * v * 2 ^ 80 * 1048575 * (g * 24) ≡ 2 * v * 2 ^ 82 * (g * (9 * 1048575))
      mid v g = ap (λ (z : ℕ). z * (g * 24)) (mul_assoc (3 * v) (2 ^ 80) 1048575) ∙ factors 3 v (2 ^ 80 * 1048575) g 24 ∙ sym (factors 2 v (2 ^ 82) g (9 * 1048575))

      end : (n b f z : ℕ) → n * 1048575 * (f * (z * (3 * b))) * 8 ≡ n * 1048575 * b * (f * z * 24)
      end n b f z = sym (thrice 3 8 (n * 1048575) b f z)

      slow : N * 1048575 * O ≤ Q * 1048576
      slow =
          le_of_mul-le-mul_right {m = N * 1048575 * O} {n = Q * 1048576} {k = 8}
          (le_trans (le_of_eq (ap (λ (z : ℕ). N * 1048575 * (factorial 41 * z) * 8) (sym z_is) ∙ end N b (factorial 41) (Z ^ 40)))
          (le_trans (mul-le-mul_right (factorial 41 * Z ^ 40 * 24) ends_low)
          (le_trans (le_of_eq (mid v (factorial 41 * Z ^ 40)))
          (le_trans (mul-le-mul_left (2 * v * 2 ^ 82) (near.flat v small))
          (le_of_eq (sym (to v (near.slopes (3 * a) Z)) ∙ ap (λ (z : ℕ). Q * z) (mul_comm 8 1048576) ∙ sym (mul_assoc Q 1048576 8)))))))
          (lit< tt)

      -- N is N * 1048575 / 1048576 and at most 2 ^ 42
      most : l * O ≤ Q + 2 ^ 43 * O
      most =
          le_of_mul-le-mul_right {m = l * O} {n = Q + 2 ^ 43 * O} {k = 1048576}
          (le_trans (le_of_eq (mul_right_comm l O 1048576))
          (le_trans (mul-le-mul_right O (few l N h N-lt))
          (le_trans (le_of_eq (add-mul (N * 1048575) (2 ^ 43 * 1048576) O))
          (le_trans (add-le-add slow (le_of_eq (mul_right_comm (2 ^ 43) 1048576 O))) (le_of_eq (sym (add-mul Q (2 ^ 43 * O) 1048576)))))))
          (lit< tt)
        where
          few : (l n : ℕ) → l ≤ n + 2 ^ 42 → n ≤ 2 ^ 62 → l * 1048576 ≤ n * 1048575 + 2 ^ 43 * 1048576
          few l n p q = omega arith

  -- ---- L(2) - L(m)
  abbrev difference : Fraction
  difference = sum (times 1 (L 2 1)) (negated (L (2 ^ 53 - v) (2 ^ 52)))

  square_small : hi N N / 2 ^ 18 ≤ 2 ^ 42
  square_small = cut (hi N N) (hi_mono N N (2 ^ 62) (2 ^ 62) N-lt N-lt)
    where
      cut : (h : ℕ) → h ≤ 2 ^ 60 → h / 2 ^ 18 ≤ 2 ^ 42
      cut h l = omega arith

  top_is : 2 ^ 53 - v - 2 ^ 52 ≡ a
  top_is = go v
    where
      go : (v : ℕ) → 2 ^ 53 - v - 2 ^ 52 ≡ 2 ^ 52 - v
      go v = omega arith

  bottom_is : 2 ^ 53 - v + 2 ^ 52 ≡ b
  bottom_is = go v small
    where
      go : (v : ℕ) → v < 2 ^ 34 → 2 ^ 53 - v + 2 ^ 52 ≡ 2 ^ 53 + 2 ^ 52 - v
      go v h = omega arith

  abbrev between : ℕ → ℕ → Fraction
  between x y = sum (times 1 (L 2 1)) (record { plus = 0; minus = 2 * odd_terms x y 21; over = factorial 41 * y ^ 41 })

  plus_is : (between a b).plus * 2 ^ 81 ≡ X * 2 ^ 82 * factorial 41
  plus_is = ap (λ (z : ℕ). z * 2 ^ 81) (ap (λ (z : ℕ). z + 0 * (factorial 41 * 3 ^ 41)) (ap (λ (z : ℕ). z * (factorial 41 * b ^ 41)) (one-mul (2 * odd_terms 1 3 21))) ∙ ap (λ (z : ℕ). 2 * odd_terms 1 3 21 * (factorial 41 * b ^ 41) + z) (zero-mul (factorial 41 * 3 ^ 41)) ∙ add-zero (2 * odd_terms 1 3 21 * (factorial 41 * b ^ 41))) ∙ turn (odd_terms 1 3 21) (factorial 41) (b ^ 41) ∙ ap (λ (z : ℕ). z * 2 ^ 82 * factorial 41) (near.x_is v small)
    where
      turn : (t f p : ℕ) → 2 * t * (f * p) * 2 ^ 81 ≡ t * p * 2 ^ 82 * f
      turn t f p = twice 2 (2 ^ 81) t f p

  minus_is : (between a b).minus * 2 ^ 81 ≡ Y * 2 ^ 82 * factorial 41
  minus_is = ap (λ (z : ℕ). z * 2 ^ 81) (ap (λ (z : ℕ). z + 2 * odd_terms a b 21 * (factorial 41 * 3 ^ 41)) (zero-mul (factorial 41 * b ^ 41)) ∙ zero-add (2 * odd_terms a b 21 * (factorial 41 * 3 ^ 41))) ∙ turn (odd_terms a b 21) (factorial 41) (3 ^ 41) ∙ ap (λ (z : ℕ). z * 2 ^ 82 * factorial 41) (near.y_is v small)
    where
      turn : (t f p : ℕ) → 2 * t * (f * p) * 2 ^ 81 ≡ t * p * 2 ^ 82 * f
      turn t f p = twice 2 (2 ^ 81) t f p

  over_is : (between a b).over ≡ O * factorial 41
  over_is = turn (factorial 41) (3 ^ 41) (b ^ 41) ∙ ap (λ (z : ℕ). factorial 41 * z * factorial 41) (sym (near.power v small 41))
    where
      turn : (f p q : ℕ) → f * p * (f * q) ≡ f * (p * q) * f
      turn f p q = simp (mul_assoc, mul_comm, mul_left_comm) refl

  -- l is from N to N + 2 ^ 42
  between_near : (l : ℕ) → N ≤ l → l ≤ N + 2 ^ 42 → Approximates (2 ^ 81) l (2 ^ 44) (between a b)
  between_near l from upto = record {
    low = le_trans (le_of_eq (ap (λ (z : ℕ). l * z + (between a b).minus * 2 ^ 81) over_is ∙ ap (λ (z : ℕ). l * (O * factorial 41) + z) minus_is ∙ left l O (factorial 41) (Y * 2 ^ 82)))
        (le_trans (mul-le-mul_right (factorial 41) (le_trans (low_side l upto) (add-le-add (le_refl (X * 2 ^ 82)) (mul-le-mul_right O (lit≤ {m = 2 ^ 43} {n = 2 ^ 44} tt)))))
        (le_of_eq (sym (ap (λ (z : ℕ). (between a b).plus * 2 ^ 81 + 2 ^ 44 * z) over_is ∙ ap (λ (z : ℕ). z + 2 ^ 44 * (O * factorial 41)) plus_is ∙ right (2 ^ 44) O (factorial 41) (X * 2 ^ 82)))));
    high = le_trans (le_of_eq plus_is)
        (le_trans (mul-le-mul_right (factorial 41) (le_trans high_side (add-le-add (le_refl (Y * 2 ^ 82)) (mul-le-mul_right O (add-le-add from (le_refl (2 ^ 44)))))))
        (le_of_eq (sym (ap (λ (z : ℕ). (between a b).minus * 2 ^ 81 + (l + 2 ^ 44) * z) over_is ∙ ap (λ (z : ℕ). z + (l + 2 ^ 44) * (O * factorial 41)) minus_is ∙ right (l + 2 ^ 44) O (factorial 41) (Y * 2 ^ 82)))));
  }
    where
      left : (l o f y : ℕ) → l * (o * f) + y * f ≡ (l * o + y) * f
      left l o f y = ap (λ (z : ℕ). z + y * f) (sym (mul_assoc l o f)) ∙ sym (add-mul (l * o) y f)

      right : (e o f x : ℕ) → x * f + e * (o * f) ≡ (x + e * o) * f
      right e o f x = ap (λ (z : ℕ). x * f + z) (sym (mul_assoc e o f)) ∙ sym (add-mul x (e * o) f)

  pub before_near : Approximates (2 ^ 81) (before_one v) (2 ^ 44) difference
  unfolding before_one
  before_near = subst (λ (z : Fraction). Approximates (2 ^ 81) (N + hi N N / 2 ^ 18) (2 ^ 44) z) (sym (ap (λ (z : ℕ). between z (2 ^ 53 - v + 2 ^ 52)) top_is ∙ ap (between a) bottom_is)) (between_near (N + hi N N / 2 ^ 18) (le-add_right N (hi N N / 2 ^ 18)) (add-le-add (le_refl N) square_small))

  pub before_lt : before_one v < 2 ^ 64
  unfolding before_one
  before_lt = go N (hi N N / 2 ^ 18) N-lt square_small
    where
      go : (n h : ℕ) → n ≤ 2 ^ 62 → h ≤ 2 ^ 42 → n + h < 2 ^ 64
      go n h a b = omega arith

  pub before_some : 0 < v → 2 ^ 28 ≤ before_one v
  unfolding before_one
  before_some p = go v (hi N N / 2 ^ 18) p
    where
      go : (v h : ℕ) → 0 < v → 2 ^ 28 ≤ v * 2 ^ 28 + h
      go v h p = omega arith
