-- The value at a / d of a polynomial whose terms alternate in sign is the difference of two sums of terms, four degrees apart.
use mathlib.Core.Path.{◌≡◌, sym, ap, ◌∙◌}
use mathlib.Core.List.{List, ◌∷◌}
use Prim.Native.Nat.{ℕ, zero, suc, ◌+◌, ◌-◌, ◌*◌, ◌^◌}
use native.Mathlib.Nat.{pow-succ', pow-zero}
use native.Mathlib.Omega.{arith}
use lib.Pow.{pow-add}
use Rattle.elementary_series.specs.Series.{terms}
use Rattle.elementary_cells.specs.Polynomials.{Signed, at, alternating}
use Rattle.elementary_cells.proofs.Polynomials.{value}

-- at a fraction that is not negative
pub natural : (d a m : ℕ) (c : Signed) (cs : List Signed)
    → ((value d (at a 0) (suc m) (c ∷ cs)).plus ≡ c.plus * d ^ m + a * (value d (at a 0) m cs).plus) × ((value d (at a 0) (suc m) (c ∷ cs)).minus ≡ c.minus * d ^ m + a * (value d (at a 0) m cs).minus)
unfolding value
natural d a m c cs = (go (c.plus * d ^ m) a (value d (at a 0) m cs).plus (value d (at a 0) m cs).minus, go (c.minus * d ^ m) a (value d (at a 0) m cs).minus (value d (at a 0) m cs).plus)
  where
    go : (p a u v : ℕ) → p + (a * u + 0 * v) ≡ p + a * u
    go p a u v = omega arith

four_values : (d a m : ℕ) (c₀ c₁ c₂ c₃ : Signed) (cs : List Signed)
    → ((value d (at a 0) (suc (suc (suc (suc (suc m))))) (c₀ ∷ c₁ ∷ c₂ ∷ c₃ ∷ cs)).plus ≡ c₀.plus * d ^ suc (suc (suc (suc m))) + a * (c₁.plus * d ^ suc (suc (suc m)) + a * (c₂.plus * d ^ suc (suc m) + a * (c₃.plus * d ^ suc m + a * (value d (at a 0) (suc m) cs).plus))))
    × ((value d (at a 0) (suc (suc (suc (suc (suc m))))) (c₀ ∷ c₁ ∷ c₂ ∷ c₃ ∷ cs)).minus ≡ c₀.minus * d ^ suc (suc (suc (suc m))) + a * (c₁.minus * d ^ suc (suc (suc m)) + a * (c₂.minus * d ^ suc (suc m) + a * (c₃.minus * d ^ suc m + a * (value d (at a 0) (suc m) cs).minus))))
four_values d a m c₀ c₁ c₂ c₃ cs =
    let n₀ = natural d a (suc (suc (suc (suc m)))) c₀ (c₁ ∷ c₂ ∷ c₃ ∷ cs) in
    let n₁ = natural d a (suc (suc (suc m))) c₁ (c₂ ∷ c₃ ∷ cs) in
    let n₂ = natural d a (suc (suc m)) c₂ (c₃ ∷ cs) in
    let n₃ = natural d a (suc m) c₃ cs in (
      n₀.0 ∙ ap (λ (w : ℕ). c₀.plus * d ^ suc (suc (suc (suc m))) + a * w) (n₁.0 ∙ ap (λ (w : ℕ). c₁.plus * d ^ suc (suc (suc m)) + a * w) (n₂.0 ∙ ap (λ (w : ℕ). c₂.plus * d ^ suc (suc m) + a * w) n₃.0)),
      n₀.1 ∙ ap (λ (w : ℕ). c₀.minus * d ^ suc (suc (suc (suc m))) + a * w) (n₁.1 ∙ ap (λ (w : ℕ). c₁.minus * d ^ suc (suc (suc m)) + a * w) (n₂.1 ∙ ap (λ (w : ℕ). c₂.minus * d ^ suc (suc m) + a * w) n₃.1)),
    )

pub two : (a j : ℕ) → a ^ (2 + j) ≡ a * (a * a ^ j)
two a j = pow-add a 2 j ∙ ap (λ (w : ℕ). w * a ^ j) (pow-succ' a 1 ∙ ap (λ (w : ℕ). a * w) (pow-succ' a 0 ∙ ap (λ (w : ℕ). a * w) (pow-zero a))) ∙ go a (a ^ j)
  where
    go : (a p : ℕ) → a * (a * 1) * p ≡ a * (a * p)
    go a p = omega arith

abbrev pub fours : ℕ → ℕ → ℕ
fours zero t = t
fours (suc n) t = suc (suc (suc (suc (fours n t))))

abbrev pub more : ℕ → ℕ → ℕ
more zero c = c
more (suc n) c = suc (more n c)

module _ (f : ℕ → ℕ) (a d e t c : ℕ) (tail : ℕ → List Signed)
    (last⁺ : (j : ℕ) → e ≡ j + t → a ^ j * (value d (at a 0) (suc t) (tail j)).plus ≡ terms f e 4 a d 1 j)
    (last⁻ : (j : ℕ) → e ≡ j + t → a ^ j * (value d (at a 0) (suc t) (tail j)).minus ≡ terms f e 4 a d c (2 + j)) where
  four : (a j : ℕ) → a ^ (4 + j) ≡ a * (a * (a * (a * a ^ j)))
  four a j = pow-add a 4 j ∙ ap (λ (w : ℕ). w * a ^ j) (pow-succ' a 3 ∙ ap (λ (w : ℕ). a * w) (pow-succ' a 2 ∙ ap (λ (w : ℕ). a * w) (pow-succ' a 1 ∙ ap (λ (w : ℕ). a * w) (pow-succ' a 0 ∙ ap (λ (w : ℕ). a * w) (pow-zero a))))) ∙ go a (a ^ j)
    where
      go : (a p : ℕ) → a * (a * (a * (a * 1))) * p ≡ a * (a * (a * (a * p)))
      go a p = omega arith

  pub blocks⁺ : (n j : ℕ) → e ≡ j + fours n t → a ^ j * (value d (at a 0) (suc (fours n t)) (alternating f n j tail)).plus ≡ terms f e 4 a d (more n 1) j
  unfolding alternating terms
  blocks⁺ zero j h = last⁺ j h
  blocks⁺ (suc n) j h =
      let m : ℕ = fours n t in
      let u : ℕ = (value d (at a 0) (suc m) (alternating f n (4 + j) tail)).plus in
      let k : e - j ≡ suc (suc (suc (suc m))) = left e j m h in
      ap (λ (w : ℕ). a ^ j * w) (four_values d a m (at (f j) 0) (at 0 0) (at 0 (f (2 + j))) (at 0 0) (alternating f n (4 + j) tail)).0
      ∙ go (a ^ j) (f j) (d ^ suc (suc (suc (suc m)))) (d ^ suc (suc (suc m))) (d ^ suc (suc m)) (d ^ suc m) a u
      ∙ ap (λ (w : ℕ). f j * a ^ j * d ^ w + a * (a * (a * (a * a ^ j))) * u) (sym k)
      ∙ ap (λ (w : ℕ). f j * a ^ j * d ^ (e - j) + w) (ap (λ (w : ℕ). w * u) (sym (four a j)) ∙ blocks⁺ n (4 + j) (next e j m h))
    where
      go : (p g P Q R S a u : ℕ) → p * (g * P + a * (0 * Q + a * (0 * R + a * (0 * S + a * u)))) ≡ g * p * P + a * (a * (a * (a * p))) * u
      go p g P Q R S a u = omega arith

      left : (e j m : ℕ) → e ≡ j + suc (suc (suc (suc m))) → e - j ≡ suc (suc (suc (suc m)))
      left e j m h = omega arith

      next : (e j m : ℕ) → e ≡ j + suc (suc (suc (suc m))) → e ≡ 4 + j + m
      next e j m h = omega arith

  pub blocks⁻ : (n j : ℕ) → e ≡ j + fours n t → a ^ j * (value d (at a 0) (suc (fours n t)) (alternating f n j tail)).minus ≡ terms f e 4 a d (more n c) (2 + j)
  unfolding alternating terms
  blocks⁻ zero j h = last⁻ j h
  blocks⁻ (suc n) j h =
      let m : ℕ = fours n t in
      let v : ℕ = (value d (at a 0) (suc m) (alternating f n (4 + j) tail)).minus in
      let k : e - (2 + j) ≡ suc (suc m) = left e j m h in
      ap (λ (w : ℕ). a ^ j * w) (four_values d a m (at (f j) 0) (at 0 0) (at 0 (f (2 + j))) (at 0 0) (alternating f n (4 + j) tail)).1
      ∙ go (a ^ j) (f (2 + j)) (d ^ suc (suc (suc (suc m)))) (d ^ suc (suc (suc m))) (d ^ suc (suc m)) (d ^ suc m) a v
      ∙ ap (λ (w : ℕ). f (2 + j) * w * d ^ suc (suc m) + a * (a * (a * (a * a ^ j))) * v) (sym (two a j))
      ∙ ap (λ (w : ℕ). f (2 + j) * a ^ (2 + j) * d ^ w + a * (a * (a * (a * a ^ j))) * v) (sym k)
      ∙ ap (λ (w : ℕ). f (2 + j) * a ^ (2 + j) * d ^ (e - (2 + j)) + w)
      (ap (λ (w : ℕ). w * v) (sym (four a j)) ∙ blocks⁻ n (4 + j) (next e j m h) ∙ ap (λ (w : ℕ). terms f e 4 a d (more n c) w) (swap j))
    where
      go : (p g P Q R S a v : ℕ) → p * (0 * P + a * (0 * Q + a * (g * R + a * (0 * S + a * v)))) ≡ g * (a * (a * p)) * R + a * (a * (a * (a * p))) * v
      go p g P Q R S a v = omega arith

      left : (e j m : ℕ) → e ≡ j + suc (suc (suc (suc m))) → e - (2 + j) ≡ suc (suc m)
      left e j m h = omega arith

      next : (e j m : ℕ) → e ≡ j + suc (suc (suc (suc m))) → e ≡ 4 + j + m
      next e j m h = omega arith

      swap : (j : ℕ) → 2 + (4 + j) ≡ 4 + (2 + j)
      swap j = omega arith
