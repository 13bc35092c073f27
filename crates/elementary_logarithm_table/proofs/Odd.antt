-- The value at a / d of L as a polynomial of w is twice the sum of its terms; and the polynomial times a number.
use mathlib.Core.Path.{◌≡◌, refl, sym, ap, ◌∙◌}
use mathlib.Core.List.{List, [], ◌∷◌}
use Prim.Native.Nat.{ℕ, zero, suc, ◌+◌, ◌-◌, ◌*◌, ◌^◌}
use native.Mathlib.Omega.{arith}
use Rattle.elementary_series.specs.Series.{terms, reciprocal}
use Rattle.elementary_series.proofs.PowerSums.{pow_one}
use Rattle.elementary_cells.specs.Polynomials.{Signed, at}
use Rattle.elementary_cells.proofs.Ring.{stretched, pair}
use Rattle.elementary_cells.proofs.Polynomials.{value}
use Rattle.elementary_cells.proofs.AlternatingSums.{natural, two}
use Rattle.elementary_logarithm_table.specs.Sum.{ten}
use Rattle.elementary_logarithm_table.specs.Table.{odd_terms, log_coefficients}

abbrev twos : ℕ → ℕ
twos zero = 0
twos (suc n) = suc (suc (twos n))

module _ (a d : ℕ) where
  abbrev f : ℕ → ℕ
  f = reciprocal 41

  one_value : (c : Signed) → ((value d (at a 0) 1 (c ∷ [])).plus ≡ c.plus * d ^ 0 + a * 0) × ((value d (at a 0) 1 (c ∷ [])).minus ≡ c.minus * d ^ 0 + a * 0)
  unfolding value
  one_value c = natural d a 0 c []

  two_values : (m : ℕ) (c : Signed) (cs : List Signed)
      → ((value d (at a 0) (suc (suc (suc m))) (c ∷ at 0 0 ∷ cs)).plus ≡ c.plus * d ^ suc (suc m) + a * (0 * d ^ suc m + a * (value d (at a 0) (suc m) cs).plus))
      × ((value d (at a 0) (suc (suc (suc m))) (c ∷ at 0 0 ∷ cs)).minus ≡ c.minus * d ^ suc (suc m) + a * (0 * d ^ suc m + a * (value d (at a 0) (suc m) cs).minus))
  two_values m c cs =
      let n₀ = natural d a (suc (suc m)) c (at 0 0 ∷ cs) in
      let n₁ = natural d a (suc m) (at 0 0) cs in
      (n₀.0 ∙ ap (λ (w : ℕ). c.plus * d ^ suc (suc m) + a * w) n₁.0, n₀.1 ∙ ap (λ (w : ℕ). c.minus * d ^ suc (suc m) + a * w) n₁.1)

  odd⁺ : (e n j : ℕ) → e ≡ j + twos n → a ^ j * (value d (at a 0) (suc (twos n)) (odd_terms n j)).plus ≡ 2 * terms f e 2 a d (suc n) j
  unfolding odd_terms terms
  odd⁺ e zero j h = ap (λ (w : ℕ). a ^ j * w) (one_value (at (2 * f j) 0)).0 ∙ go (a ^ j) (f j) (d ^ 0) a ∙ ap (λ (w : ℕ). 2 * (f j * a ^ j * d ^ w + 0)) (sym (none e j h))
    where
      go : (p g P a : ℕ) → p * (2 * g * P + a * 0) ≡ 2 * (g * p * P + 0)
      go p g P a = omega arith

      none : (e j : ℕ) → e ≡ j + 0 → e - j ≡ 0
      none e j h = omega arith
  odd⁺ e (suc n) j h =
      let m : ℕ = twos n in
      let u : ℕ = (value d (at a 0) (suc m) (odd_terms n (2 + j))).plus in
      ap (λ (w : ℕ). a ^ j * w) (two_values m (at (2 * f j) 0) (odd_terms n (2 + j))).0
      ∙ go (a ^ j) (f j) (d ^ suc (suc m)) (d ^ suc m) a u
      ∙ ap (λ (w : ℕ). 2 * (f j * a ^ j * d ^ suc (suc m)) + w) (ap (λ (w : ℕ). w * u) (sym (two a j)) ∙ odd⁺ e n (2 + j) (next e j m h))
      ∙ ap (λ (w : ℕ). 2 * (f j * a ^ j * d ^ w) + 2 * terms f e 2 a d (suc n) (2 + j)) (sym (left e j m h))
      ∙ twice (f j * a ^ j * d ^ (e - j)) (terms f e 2 a d (suc n) (2 + j))
    where
      go : (p g P Q a u : ℕ) → p * (2 * g * P + a * (0 * Q + a * u)) ≡ 2 * (g * p * P) + a * (a * p) * u
      go p g P Q a u = omega arith

      left : (e j m : ℕ) → e ≡ j + suc (suc m) → e - j ≡ suc (suc m)
      left e j m h = omega arith

      next : (e j m : ℕ) → e ≡ j + suc (suc m) → e ≡ 2 + j + m
      next e j m h = omega arith

      twice : (x y : ℕ) → 2 * x + 2 * y ≡ 2 * (x + y)
      twice x y = omega arith

  odd⁻ : (n j : ℕ) → (value d (at a 0) (suc (twos n)) (odd_terms n j)).minus ≡ 0
  unfolding odd_terms
  odd⁻ zero j = (one_value (at (2 * f j) 0)).1 ∙ go (d ^ 0) a
    where
      go : (P a : ℕ) → 0 * P + a * 0 ≡ 0
      go P a = omega arith
  odd⁻ (suc n) j = (two_values (twos n) (at (2 * f j) 0) (odd_terms n (2 + j))).1 ∙ go (d ^ suc (suc (twos n))) (d ^ suc (twos n)) a (value d (at a 0) (suc (twos n)) (odd_terms n (2 + j))).minus (odd⁻ n (2 + j))
    where
      go : (P Q a u : ℕ) → u ≡ 0 → 0 * P + a * (0 * Q + a * u) ≡ 0
      go P Q a u e = rw e (omega arith)

  pub log_value : value d (at a 0) 42 log_coefficients ≡ at (2 * terms f 41 2 a d 21 1) 0
  unfolding log_coefficients
  log_value =
      let n₀ = natural d a 41 (at 0 0) (odd_terms 20 1) in
      pair (n₀.0 ∙ go (d ^ 41) a (a ^ 1) (value d (at a 0) 41 (odd_terms 20 1)).plus (pow_one a) ∙ odd⁺ 41 20 1 refl)
      (n₀.1 ∙ none (d ^ 41) a (value d (at a 0) 41 (odd_terms 20 1)).minus (odd⁻ 20 1))
    where
      go : (P a p u : ℕ) → p ≡ a → 0 * P + a * u ≡ p * u
      go P a p u e = rw e (omega arith)

      none : (P a u : ℕ) → u ≡ 0 → 0 * P + a * u ≡ 0
      none P a u e = rw e (omega arith)

-- ---- every coefficient times k
unfoldable pub multiplied : ℕ → List Signed → List Signed
multiplied k [] = []
multiplied k (c ∷ cs) = at (k * c.plus) (k * c.minus) ∷ multiplied k cs

pub multiplied_value : (k D : ℕ) (x : Signed) (n : ℕ) (cs : List Signed) → value D x n (multiplied k cs) ≡ stretched k (value D x n cs)
unfolding value multiplied stretched
multiplied_value k D x zero cs = pair (none k) (none k)
  where
    none : (k : ℕ) → 0 ≡ k * 0
    none k = omega arith
multiplied_value k D x (suc n) [] = pair (none k) (none k)
  where
    none : (k : ℕ) → 0 ≡ k * 0
    none k = omega arith
multiplied_value k D x (suc n) (c ∷ cs) =
    rw (multiplied_value k D x n cs)
    (pair (go k c.plus (D ^ n) x.plus x.minus (value D x n cs).plus (value D x n cs).minus) (go k c.minus (D ^ n) x.plus x.minus (value D x n cs).minus (value D x n cs).plus))
  where
    go : (k c P a b u v : ℕ) → k * c * P + (a * (k * u) + b * (k * v)) ≡ k * (c * P + (a * u + b * v))
    go k c P a b u v = omega arith

-- L over 3 L(2) + L(5/4), over 41! times that sum's numerator
unfoldable pub common_coefficients : List Signed
common_coefficients = multiplied ten.over log_coefficients

pub common_value : (a d : ℕ) → value d (at a 0) 42 common_coefficients ≡ at (ten.over * (2 * terms (reciprocal 41) 41 2 a d 21 1)) (ten.over * 0)
unfolding common_coefficients stretched
common_value a d = multiplied_value ten.over d (at a 0) 42 log_coefficients ∙ ap (stretched ten.over) (log_value a d)
