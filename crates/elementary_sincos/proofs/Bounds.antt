-- Sine and cosine of every finite angle are within 2 ^ -40 of the Taylor sums at its exact remainder, however large the angle.
use mathlib.Core.Path.{◌≡◌, refl, sym, ap, ◌∙◌, subst}
use mathlib.Core.Bool.{Bool, true, false, cond}
use Prim.Native.Nat.{ℕ, ◌+◌, ◌*◌, ◌%◌, ◌^◌, ◌≤◌, ◌<◌}
use native.Mathlib.Nat.{le_trans, le_of_eq, le_of_lt, mul_assoc, mul_comm, mul_left_comm, mul_right_comm, add-mul, mul-le-mul_right, le_of_mul-le-mul_right, pow-succ'}
use native.Mathlib.Omega.{arith}
use lib.IntN.{ℤ}
use lib.Dec.{T, ltb, ltb→lt, lit<, lit≤}
use lib.Ieee.{Float, nan, inf, fin, up, down, neg, lt, of_bits}
use lib.Ieee.Fits.{down_pos}
use lib.Ieee.Scale.{finite}
use Rattle.ieee754.specs.Sign.{absolute, signed}
use Rattle.ieee754_rounding.specs.Distance.{distance}
use Rattle.elementary_fixed_point.specs.Series.{factorial, terms, inverse_factorial}
use Rattle.elementary_fixed_point.specs.Fraction.{negated, Near}
use Rattle.elementary_fixed_point.specs.Code.Bounds.{Enclosure}
use Rattle.elementary_fixed_point.proofs.PowerSums.{pos_pow, pow_one}
use Rattle.elementary_fixed_point.proofs.Tails.{terms-mono}
use Rattle.elementary_fixed_point.proofs.FromFloat.{floor_encloses}
use Rattle.elementary_fixed_point.proofs.ToFloat.{near_neg}
use Rattle.elementary_reduction.specs.Reduction.{turn, reduced}
use Rattle.elementary_reduction.proofs.Fractions.{turns, rest_den_lem, rest_upto, within}
use Rattle.elementary_sincos.specs.Taylor.{fourth_terms, sine_sum, cosine_sum}
use Rattle.elementary_sincos.specs.Steps.{sine_series, sine, cosine}
use Rattle.elementary_sincos.specs.Promise.{taylor_sine, taylor_cosine}
use Rattle.elementary_sincos.proofs.SeriesBound.{units_upto, sine_series_near, cosine_series_near}

-- ---- below 2 ^ -16 the sine is the angle: all terms but the first are below 2 ^ -40
module _ (n d : ℕ) (tiny : n * 2 ^ 16 ≤ 1 * d) where
  few : (i j : ℕ) → j + 4 * i ≤ 46 → fourth_terms 1 (2 ^ 16) i j * 2 ^ 40 ≤ factorial 42 * (2 ^ 16) ^ 42 → fourth_terms n d i j * 2 ^ 40 ≤ factorial 42 * d ^ 42
  few i j deg h =
      let B : ℕ = (2 ^ 16) ^ 42 in
      le_of_mul-le-mul_right {m = fourth_terms n d i j * 2 ^ 40} {n = factorial 42 * d ^ 42} {k = B}
      (le_trans (le_of_eq (mul_right_comm (fourth_terms n d i j) (2 ^ 40) B))
      (le_trans (mul-le-mul_right (2 ^ 40) (terms-mono (inverse_factorial 42) 42 4 n d 1 (2 ^ 16) tiny i j deg))
      (le_trans (le_of_eq (mul_right_comm (fourth_terms 1 (2 ^ 16) i j) (d ^ 42) (2 ^ 40))) (le_trans (mul-le-mul_right (d ^ 42) h) (le_of_eq (mul_right_comm (factorial 42) B (d ^ 42)))))))
      (pos_pow (2 ^ 16) 42 (lit< tt))

  subtracted : fourth_terms n d 10 3 * 2 ^ 40 ≤ factorial 42 * d ^ 42
  unfolding terms inverse_factorial factorial
  subtracted = few 10 3 (lit≤ tt) (lit≤ tt)

  added : fourth_terms n d 10 5 * 2 ^ 40 ≤ factorial 42 * d ^ 42
  unfolding terms inverse_factorial factorial
  added = few 10 5 (lit≤ tt) (lit≤ tt)

  -- a / k is the same number as n / d
  module _ (a k : ℕ) (is : a * d ≡ n * k) where
    first : fourth_terms n d 11 1 * k ≡ a * (factorial 42 * d ^ 42) + fourth_terms n d 10 5 * k
    unfolding terms inverse_factorial factorial
    first =
        add-mul (factorial 42 * n ^ 1 * d ^ 41) (fourth_terms n d 10 5) k
        ∙ ap (λ (z : ℕ). z + fourth_terms n d 10 5 * k)
        (ap (λ (z : ℕ). factorial 42 * z * d ^ 41 * k) (pow_one n) ∙ turned (factorial 42) n (d ^ 41) k ∙ ap (λ (z : ℕ). factorial 42 * d ^ 41 * z) (sym is) ∙ back (factorial 42) (d ^ 41) a d
        ∙ ap (λ (z : ℕ). a * (factorial 42 * z)) (sym (pow-succ' d 41)))
      where
        turned : (F n p k : ℕ) → F * n * p * k ≡ F * p * (n * k)
        turned F n p k = simp (mul_assoc, mul_left_comm) refl

        back : (F p a d : ℕ) → F * p * (a * d) ≡ a * (F * (d * p))
        back F p a d = simp (mul_assoc, mul_comm, mul_left_comm) refl

    itself : distance (a * (factorial 42 * d ^ 42) + fourth_terms n d 10 3 * k) (fourth_terms n d 11 1 * k) * 2 ^ 40 ≤ factorial 42 * d ^ 42 * k
    itself =
        subst (λ (z : ℕ). distance (a * (factorial 42 * d ^ 42) + fourth_terms n d 10 3 * k) z * 2 ^ 40 ≤ factorial 42 * d ^ 42 * k) (sym first)
        (either (a * (factorial 42 * d ^ 42)) (fourth_terms n d 10 3 * k) (fourth_terms n d 10 5 * k) (factorial 42 * d ^ 42 * k) (scale (fourth_terms n d 10 3) (factorial 42 * d ^ 42) subtracted) (scale (fourth_terms n d 10 5) (factorial 42 * d ^ 42) added))
      where
        scale : (t D : ℕ) → t * 2 ^ 40 ≤ D → t * k * 2 ^ 40 ≤ D * k
        scale t D h = le_trans (le_of_eq (mul_right_comm t k (2 ^ 40))) (mul-le-mul_right k h)

        either : (x a b z : ℕ) → a * 2 ^ 40 ≤ z → b * 2 ^ 40 ≤ z → distance (x + a) (x + b) * 2 ^ 40 ≤ z
        either x a b z f g = omega arith

-- ---- a finite angle
module _ (s : Bool) (m : ℕ) (e : ℤ) where
  abbrev a : ℕ
  a = m * up e

  abbrev n : ℕ
  n = a * 2 ^ 160 % (turn * down e)

  abbrev d : ℕ
  d = down e * 2 ^ 160

  dp : 0 < d
  dp = rest_den_lem a (down e) (down_pos e)

  bound : n * 7 ≤ 44 * d
  bound = rest_upto a (down e) (down_pos e)

  encloses : Enclosure (reduced (fin s m e)) (reduced (fin s m e) + 1) (n * 2 ^ 61) d
  unfolding reduced
  encloses = floor_encloses (n * 2 ^ 61) d dp

  -- what the code's steps ask
  pub reduced_most : reduced (fin s m e) * 7 ≤ 44 * 2 ^ 61
  reduced_most = units_upto n d (reduced (fin s m e)) dp bound encloses

  -- below 2 ^ -16
  tiny_near : (s : Bool) → a * 2 ^ 16 < 1 * 1 * down e → Near 40 (fin s m e) (cond s (negated (sine_sum n d)) (sine_sum n d))
  unfolding Near neg
  tiny_near s h = go s
    where
      wider : (a d : ℕ) → a * 2 ^ 16 < 1 * 1 * d → a * 2 ^ 47 < turns * 1 * d
      wider a d h = omega arith

      own : n ≡ a * 2 ^ 160
      own = within a (down e) (down_pos e) (le_of_lt (wider a (down e) h))

      is : a * d ≡ n * down e
      is = sym (mul_assoc a (down e) (2 ^ 160)) ∙ mul_right_comm a (down e) (2 ^ 160) ∙ ap (λ (z : ℕ). z * down e) (sym own)

      less : n * 2 ^ 16 ≤ 1 * d
      less =
          le_trans (le_of_eq (ap (λ (z : ℕ). z * 2 ^ 16) own ∙ mul_right_comm a (2 ^ 160) (2 ^ 16)))
          (le_trans (mul-le-mul_right (2 ^ 160) (le_of_lt h)) (le_of_eq (mul_assoc (1 * 1) (down e) (2 ^ 160))))

      at : Near 40 (fin false m e) (sine_sum n d)
      at = itself n d less a (down e) is

      go : (s : Bool) → Near 40 (fin s m e) (cond s (negated (sine_sum n d)) (sine_sum n d))
      go true = near_neg 40 (fin false m e) (sine_sum n d) at
      go false = at

  sine_near : Near 40 (sine (fin s m e)) (cond s (negated (sine_sum n d)) (sine_sum n d))
  unfolding sine absolute lt of_bits
  sine_near = go (ltb (a * 2 ^ 16) (1 * 1 * down e)) (ltb→lt (a * 2 ^ 16) (1 * 1 * down e)) s
    where
      x : ℕ
      x = reduced (fin s m e)

      at : Near 40 (sine_series x) (sine_sum n d)
      at = sine_series_near n d x dp bound encloses

      go : (b : Bool) → (T b → a * 2 ^ 16 < 1 * 1 * down e) → (s : Bool) → Near 40 (cond b (fin s m e) (signed s (sine_series x))) (cond s (negated (sine_sum n d)) (sine_sum n d))
      go true h s = tiny_near s (h tt)
      go false h true = near_neg 40 (sine_series x) (sine_sum n d) at
      go false h false = at

  cosine_near : Near 40 (cosine (fin s m e)) (cosine_sum n d)
  unfolding cosine
  cosine_near = cosine_series_near n d (reduced (fin s m e)) dp bound encloses

pub sine_everywhere : (θ : Float) → T (finite θ) → Near 40 (sine θ) (taylor_sine θ)
sine_everywhere nan h = absurd h
sine_everywhere (inf s) h = absurd h
sine_everywhere (fin s m e) h = sine_near s m e

pub cosine_everywhere : (θ : Float) → T (finite θ) → Near 40 (cosine θ) (taylor_cosine θ)
cosine_everywhere nan h = absurd h
cosine_everywhere (inf s) h = absurd h
cosine_everywhere (fin s m e) h = cosine_near s m e
