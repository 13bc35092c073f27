-- From 1 to fewer than 2 ^ 34 steps past it: w is so small that the first term of L does, and that is u / 2 ^ 52 but for its square.
use mathlib.Core.Path.{◌≡◌, refl, sym, ap, ◌∙◌, subst}
use Prim.Native.Nat.{ℕ, ◌+◌, ◌-◌, ◌*◌, ◌/◌, ◌^◌, ◌≤◌, ◌<◌}
use native.Mathlib.Nat.{le_refl, le_trans, le_of_eq, le_of_lt, lt_of_le_of_lt, add-zero, zero-add, mul_assoc, mul_comm, mul_left_comm, mul-sub, add-mul, mul-add, mul-le-mul, mul-le-mul_left, mul-le-mul_right, add-le-add}
use native.Mathlib.Omega.{arith}
use lib.Dec.{lit<, lit≤}
use lib.Pow.{pow-add}
use Rattle.elementary_fixed_point.specs.Series.{factorial, terms, reciprocal}
use Rattle.elementary_fixed_point.specs.Fraction.{Fraction}
use Rattle.elementary_fixed_point.specs.Product.{hi}
use Rattle.elementary_fixed_point.specs.Code.Bounds.{Approximates, Enclosure}
use Rattle.elementary_fixed_point.proofs.Enclosures.{enclosure_times, enclosure_is, hi_mono, hi_le}
use Rattle.elementary_fixed_point.proofs.PowerSums.{pow_one}
use Rattle.elementary_fixed_point.proofs.Tails.{enclosure-longer}
use Rattle.elementary_logarithm.specs.Series.{L}
use Rattle.elementary_logarithm.specs.Steps.{past_one}
use Rattle.elementary_logarithm.specs.Code.Parts.{odd_terms}

-- the terms left out at w = 2 ^ -19
tail_small : terms (reciprocal 41) 41 2 1 (2 ^ 19) 20 3 * 2 ^ 82 ≤ 2 ^ 24 * (factorial 41 * (2 ^ 19) ^ 41)
unfolding terms reciprocal factorial
tail_small = lit≤ tt

-- one term
first_term : (a b : ℕ) → terms (reciprocal 41) 41 2 a b 1 1 ≡ factorial 41 * a * b ^ 40
unfolding terms reciprocal factorial
first_term a b = add-zero (factorial 41 * a ^ 1 * b ^ 40) ∙ ap (λ (z : ℕ). factorial 41 * z * b ^ 40) (pow_one a)

module _ (u : ℕ) (small : u < 2 ^ 34) where
  abbrev N : ℕ
  N = u * 2 ^ 29

  abbrev b : ℕ
  b = u + 2 ^ 53

  pub N-lt : N ≤ 2 ^ 63
  N-lt = go u small
    where
      go : (u : ℕ) → u < 2 ^ 34 → u * 2 ^ 29 ≤ 2 ^ 63
      go u h = omega arith

  -- 2 u / b in units of 2 ^ -81
  quotient_near : Enclosure (N - 2 ^ 44) (N - 2 ^ 44 + 2 ^ 44) (u * 2 ^ 82) b
  quotient_near = record {
    low = le_trans (le_of_eq (mul_comm (N - 2 ^ 44) b ∙ mul-sub b N (2 ^ 44))) (off (b * N) (u * 2 ^ 82) (b * 2 ^ 44) (le_trans (le_of_eq (mul_comm b N ∙ mul-add N u (2 ^ 53) ∙ ap (λ (z : ℕ). N * u + z) (mul_assoc u (2 ^ 29) (2 ^ 53)))) (le_trans (add-le-add (le_trans (mul-le-mul N-lt (le_of_lt small)) (room u)) (le_refl (u * 2 ^ 82))) (le_of_eq (swap (b * 2 ^ 44) (u * 2 ^ 82))))));
    high = le_trans (le_of_eq (sym (mul_assoc u (2 ^ 29) (2 ^ 53)))) (le_trans (mul-le-mul_left N (tall u)) (mul-le-mul_right b (fill N)));
  }
    where
      off : (p n q : ℕ) → p ≤ n + q → p - q ≤ n
      off p n q h = omega arith

      room : (u : ℕ) → 2 ^ 63 * 2 ^ 34 ≤ (u + 2 ^ 53) * 2 ^ 44
      room u = mul-le-mul_right (2 ^ 44) (tall' u)
        where
          tall' : (u : ℕ) → 2 ^ 53 ≤ u + 2 ^ 53
          tall' u = omega arith

      swap : (x y : ℕ) → x + y ≡ y + x
      swap x y = omega arith

      tall : (u : ℕ) → 2 ^ 53 ≤ u + 2 ^ 53
      tall u = omega arith

      fill : (n : ℕ) → n ≤ n - 2 ^ 44 + 2 ^ 44
      fill n = omega arith

  first_near : Enclosure (N - 2 ^ 44) (N - 2 ^ 44 + 2 ^ 44) (terms (reciprocal 41) 41 2 u b 1 1 * 2 ^ 82) (factorial 41 * b ^ 41)
  first_near =
      enclosure_is (terms (reciprocal 41) 41 2 u b 1 1 * 2 ^ 82) (factorial 41 * b ^ 41)
      (turn u (2 ^ 82) (factorial 41) (b ^ 40) ∙ ap (λ (z : ℕ). z * 2 ^ 82) (sym (first_term u b)))
      (turn' b (factorial 41) (b ^ 40) ∙ ap (λ (z : ℕ). factorial 41 * z) (sym (pow-add b 40 1 ∙ ap (λ (z : ℕ). b ^ 40 * z) (pow_one b))))
      (enclosure_times (factorial 41 * b ^ 40) quotient_near)
    where
      turn : (u p f x : ℕ) → u * p * (f * x) ≡ f * u * x * p
      turn u p f x = simp (mul_assoc, mul_comm, mul_left_comm) refl

      turn' : (b f x : ℕ) → b * (f * x) ≡ f * (x * b)
      turn' b f x = simp (mul_comm, mul_left_comm) refl

  all_near : Enclosure (N - 2 ^ 44) (N - 2 ^ 44 + (2 ^ 44 + 2 ^ 24)) (odd_terms u b 21 * 2 ^ 82) (factorial 41 * b ^ 41)
  all_near = enclosure-longer (reciprocal 41) 41 2 u b 1 (2 ^ 19) (tiny u small) (factorial 41) (2 ^ 44) (2 ^ 82) (2 ^ 24) 1 20 1 (lit< tt) (lit≤ tt) tail_small first_near
    where
      tiny : (u : ℕ) → u < 2 ^ 34 → u * 2 ^ 19 ≤ 1 * (u + 2 ^ 53)
      tiny u h = omega arith

  square_small : hi N N / 2 ^ 18 ≤ 2 ^ 44
  square_small = cut (hi N N) (hi_mono N N (2 ^ 63) (2 ^ 63) N-lt N-lt)
    where
      cut : (h : ℕ) → h ≤ 2 ^ 62 → h / 2 ^ 18 ≤ 2 ^ 44
      cut h l = omega arith

  pub past_near : Approximates (2 ^ 81) (past_one u) (2 ^ 44 + 2 ^ 24) (L (u + 2 ^ 52) (2 ^ 52))
  unfolding past_one
  past_near = subst (λ (z : Fraction). Approximates (2 ^ 81) (N - hi N N / 2 ^ 18) (2 ^ 44 + 2 ^ 24) z) (same (back u) (over' u)) (record {
    low = le_trans (le_of_eq (add-zero ((N - h) * O))) (le_trans (mul-le-mul_right O (most N h)) (le_trans (le_of_eq (add-mul (N - 2 ^ 44) (2 ^ 44 + 2 ^ 24) O)) (add-le-add (le_trans all_near.low (le_of_eq (double T))) (le_refl ((2 ^ 44 + 2 ^ 24) * O)))));
    high = le_trans (le_of_eq (sym (double T))) (le_trans all_near.high (le_trans (mul-le-mul_right O (least N h square_small)) (le_of_eq (sym (zero-add ((N - h + (2 ^ 44 + 2 ^ 24)) * O))))));
  })
    where
      h : ℕ
      h = hi N N / 2 ^ 18

      T : ℕ
      T = odd_terms u (u + 2 ^ 53) 21

      O : ℕ
      O = factorial 41 * (u + 2 ^ 53) ^ 41

      at : ℕ → ℕ → Fraction
      at x y = record { plus = 2 * odd_terms x y 21; minus = 0; over = factorial 41 * y ^ 41 }

      same : {x x' y y' : ℕ} → x ≡ x' → y ≡ y' → at x y ≡ at x' y'
      same {x} {x'} {y} {y'} p q = ap (λ (z : ℕ). at z y) p ∙ ap (at x') q

      back : (u : ℕ) → u ≡ u + 2 ^ 52 - 2 ^ 52
      back u = omega arith

      over' : (u : ℕ) → u + 2 ^ 53 ≡ u + 2 ^ 52 + 2 ^ 52
      over' u = omega arith

      double : (t : ℕ) → t * 2 ^ 82 ≡ 2 * t * 2 ^ 81
      double t = ap (λ (z : ℕ). z) (sym (mul_assoc t 2 (2 ^ 81))) ∙ ap (λ (z : ℕ). z * 2 ^ 81) (mul_comm t 2)

      most : (n h : ℕ) → n - h ≤ n - 2 ^ 44 + (2 ^ 44 + 2 ^ 24)
      most n h = omega arith

      least : (n h : ℕ) → h ≤ 2 ^ 44 → n - 2 ^ 44 + (2 ^ 44 + 2 ^ 24) ≤ n - h + (2 ^ 44 + 2 ^ 24)
      least n h l = omega arith

  pub past_lt : past_one u < 2 ^ 64
  unfolding past_one
  past_lt = go N (hi N N / 2 ^ 18) N-lt
    where
      go : (n h : ℕ) → n ≤ 2 ^ 63 → n - h < 2 ^ 64
      go n h l = omega arith

  pub past_some : 0 < u → 2 ^ 28 ≤ past_one u
  unfolding past_one
  past_some p = go u (hi N N) p (hi_le N N (lt_of_le_of_lt N-lt (lit< tt)))
    where
      go : (u h : ℕ) → 0 < u → h ≤ u * 2 ^ 29 → 2 ^ 28 ≤ u * 2 ^ 29 - h / 2 ^ 18
      go u h p l = omega arith
