-- The Taylor sums of sine and cosine as polynomials over signed whole numbers, and their value at a fraction.
use mathlib.Core.Path.{◌≡◌, refl, sym, ap, ◌∙◌}
use mathlib.Core.List.{List, [], ◌∷◌}
use Prim.Native.Nat.{ℕ, ◌+◌, ◌-◌, ◌*◌, ◌^◌}
use native.Mathlib.Nat.{pow-zero}
use native.Mathlib.Omega.{arith}
use Rattle.elementary_series.proofs.PowerSums.{pow_one}
use Rattle.elementary_series.specs.Series.{terms, inverse_factorial}
use Rattle.elementary_sincos_table.specs.Taylor.{sine_sum, cosine_sum}
use Rattle.elementary_cells.specs.Polynomials.{Signed, at, alternating}
use Rattle.elementary_cells.proofs.Polynomials.{value}
use Rattle.elementary_cells.proofs.AlternatingSums.{natural, two, blocks⁺, blocks⁻}

unfoldable pub sine_coefficients : List Signed
unfolding alternating inverse_factorial
sine_coefficients = at 0 0 ∷ alternating (inverse_factorial 42) 10 1 (λ (j : ℕ). at (inverse_factorial 42 j) 0 ∷ at 0 0 ∷ [])

unfoldable pub cosine_coefficients : List Signed
unfolding alternating inverse_factorial
cosine_coefficients = alternating (inverse_factorial 42) 10 0 (λ (j : ℕ). at (inverse_factorial 42 j) 0 ∷ at 0 0 ∷ at 0 (inverse_factorial 42 (2 + j)) ∷ [])

-- ---- the two sums
pair : {a b : ℕ} {s : Signed} → s.plus ≡ a → s.minus ≡ b → s ≡ at a b
pair {a} {b} {s} e f = ap (λ (t : ℕ). at t s.minus) e ∙ ap (λ (t : ℕ). at a t) f

module _ (a d : ℕ) where
  abbrev f : ℕ → ℕ
  f = inverse_factorial 42

  -- the last coefficients
  two_values : (c₀ c₁ : Signed) → ((value d (at a 0) 2 (c₀ ∷ c₁ ∷ [])).plus ≡ c₀.plus * d ^ 1 + a * (c₁.plus * d ^ 0 + a * 0)) × ((value d (at a 0) 2 (c₀ ∷ c₁ ∷ [])).minus ≡ c₀.minus * d ^ 1 + a * (c₁.minus * d ^ 0 + a * 0))
  unfolding value
  two_values c₀ c₁ =
      let n₀ = natural d a 1 c₀ (c₁ ∷ []) in
      let n₁ = natural d a 0 c₁ [] in
      (n₀.0 ∙ ap (λ (w : ℕ). c₀.plus * d ^ 1 + a * w) n₁.0, n₀.1 ∙ ap (λ (w : ℕ). c₀.minus * d ^ 1 + a * w) n₁.1)

  three_values : (c₀ c₁ c₂ : Signed) → ((value d (at a 0) 3 (c₀ ∷ c₁ ∷ c₂ ∷ [])).plus ≡ c₀.plus * d ^ 2 + a * (c₁.plus * d ^ 1 + a * (c₂.plus * d ^ 0 + a * 0)))
      × ((value d (at a 0) 3 (c₀ ∷ c₁ ∷ c₂ ∷ [])).minus ≡ c₀.minus * d ^ 2 + a * (c₁.minus * d ^ 1 + a * (c₂.minus * d ^ 0 + a * 0)))
  three_values c₀ c₁ c₂ =
      let n₀ = natural d a 2 c₀ (c₁ ∷ c₂ ∷ []) in
      let n₁ = two_values c₁ c₂ in
      (n₀.0 ∙ ap (λ (w : ℕ). c₀.plus * d ^ 2 + a * w) n₁.0, n₀.1 ∙ ap (λ (w : ℕ). c₀.minus * d ^ 2 + a * w) n₁.1)

  sine_tail : ℕ → List Signed
  sine_tail j = at (f j) 0 ∷ at 0 0 ∷ []

  cosine_tail : ℕ → List Signed
  cosine_tail j = at (f j) 0 ∷ at 0 0 ∷ at 0 (f (2 + j)) ∷ []

  sub : (e j t : ℕ) → e ≡ j + t → e - j ≡ t
  sub e j t h = omega arith

  sine⁺ : (e j : ℕ) → e ≡ j + 1 → a ^ j * (value d (at a 0) 2 (sine_tail j)).plus ≡ terms f e 4 a d 1 j
  unfolding terms sine_tail
  sine⁺ e j h = ap (λ (w : ℕ). a ^ j * w) (two_values (at (f j) 0) (at 0 0)).0 ∙ go (a ^ j) (f j) (d ^ 1) (d ^ 0) a ∙ ap (λ (w : ℕ). f j * a ^ j * d ^ w + 0) (sym (sub e j 1 h))
    where
      go : (p g P Q a : ℕ) → p * (g * P + a * (0 * Q + a * 0)) ≡ g * p * P + 0
      go p g P Q a = omega arith

  sine⁻ : (e j : ℕ) → e ≡ j + 1 → a ^ j * (value d (at a 0) 2 (sine_tail j)).minus ≡ terms f e 4 a d 0 (2 + j)
  unfolding terms sine_tail
  sine⁻ e j h = ap (λ (w : ℕ). a ^ j * w) (two_values (at (f j) 0) (at 0 0)).1 ∙ go (a ^ j) (d ^ 1) (d ^ 0) a
    where
      go : (p P Q a : ℕ) → p * (0 * P + a * (0 * Q + a * 0)) ≡ 0
      go p P Q a = omega arith

  cosine⁺ : (e j : ℕ) → e ≡ j + 2 → a ^ j * (value d (at a 0) 3 (cosine_tail j)).plus ≡ terms f e 4 a d 1 j
  unfolding terms cosine_tail
  cosine⁺ e j h =
      ap (λ (w : ℕ). a ^ j * w) (three_values (at (f j) 0) (at 0 0) (at 0 (f (2 + j)))).0 ∙ go (a ^ j) (f j) (d ^ 2) (d ^ 1) (d ^ 0) a ∙ ap (λ (w : ℕ). f j * a ^ j * d ^ w + 0) (sym (sub e j 2 h))
    where
      go : (p g P Q R a : ℕ) → p * (g * P + a * (0 * Q + a * (0 * R + a * 0))) ≡ g * p * P + 0
      go p g P Q R a = omega arith

  cosine⁻ : (e j : ℕ) → e ≡ j + 2 → a ^ j * (value d (at a 0) 3 (cosine_tail j)).minus ≡ terms f e 4 a d 1 (2 + j)
  unfolding terms cosine_tail
  cosine⁻ e j h =
      ap (λ (w : ℕ). a ^ j * w) (three_values (at (f j) 0) (at 0 0) (at 0 (f (2 + j)))).1
      ∙ go (a ^ j) (f (2 + j)) (d ^ 2) (d ^ 1) (d ^ 0) a
      ∙ ap (λ (w : ℕ). f (2 + j) * w * d ^ 0 + 0) (sym (two a j))
      ∙ ap (λ (w : ℕ). f (2 + j) * a ^ (2 + j) * d ^ w + 0) (sym (none e j h))
    where
      go : (p g P Q R a : ℕ) → p * (0 * P + a * (0 * Q + a * (g * R + a * 0))) ≡ g * (a * (a * p)) * R + 0
      go p g P Q R a = omega arith

      none : (e j : ℕ) → e ≡ j + 2 → e - (2 + j) ≡ 0
      none e j h = omega arith

  pub sine_value : value d (at a 0) 43 sine_coefficients ≡ at (sine_sum a d).plus (sine_sum a d).minus
  unfolding sine_coefficients sine_tail
  sine_value =
      let n₀ = natural d a 42 (at 0 0) (alternating f 10 1 sine_tail) in
      let u = blocks⁺ f a d 42 1 0 sine_tail (sine⁺ 42) (sine⁻ 42) 10 1 refl in
      let v = blocks⁻ f a d 42 1 0 sine_tail (sine⁺ 42) (sine⁻ 42) 10 1 refl in
      pair (n₀.0 ∙ go (d ^ 42) a (a ^ 1) (value d (at a 0) 42 (alternating f 10 1 sine_tail)).plus (pow_one a) ∙ u) (n₀.1 ∙ go (d ^ 42) a (a ^ 1) (value d (at a 0) 42 (alternating f 10 1 sine_tail)).minus (pow_one a) ∙ v)
    where
      go : (P a p u : ℕ) → p ≡ a → 0 * P + a * u ≡ p * u
      go P a p u e = rw e (omega arith)

  pub cosine_value : value d (at a 0) 43 cosine_coefficients ≡ at (cosine_sum a d).plus (cosine_sum a d).minus
  unfolding cosine_coefficients cosine_tail
  cosine_value =
      let u = blocks⁺ f a d 42 2 1 cosine_tail (cosine⁺ 42) (cosine⁻ 42) 10 0 refl in
      let v = blocks⁻ f a d 42 2 1 cosine_tail (cosine⁺ 42) (cosine⁻ 42) 10 0 refl in
      pair (go (a ^ 0) (value d (at a 0) 43 (alternating f 10 0 cosine_tail)).plus (pow-zero a) ∙ u) (go (a ^ 0) (value d (at a 0) 43 (alternating f 10 0 cosine_tail)).minus (pow-zero a) ∙ v)
    where
      go : (p u : ℕ) → p ≡ 1 → u ≡ p * u
      go p u e = rw e (omega arith)
