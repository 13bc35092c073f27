-- The Taylor sum of the arctangent is the value of its coefficients at a fraction.
use mathlib.Core.Path.{◌≡◌, refl, sym, ap, ◌∙◌}
use mathlib.Core.List.{List, [], ◌∷◌}
use Prim.Native.Nat.{ℕ, ◌+◌, ◌-◌, ◌*◌, ◌^◌, ◌≤◌}
use native.Mathlib.Omega.{arith}
use lib.Dec.{lit≤}
use lib.ListN.{length}
use Rattle.elementary_series.specs.Series.{terms, reciprocal}
use Rattle.elementary_series.proofs.PowerSums.{pow_one}
use Rattle.elementary_cells.specs.Polynomials.{Signed, at, scale, alternating}
use Rattle.elementary_cells.proofs.Ring.{pair}
use Rattle.elementary_cells.proofs.Polynomials.{value}
use Rattle.elementary_cells.proofs.AlternatingSums.{natural, blocks⁺, blocks⁻}
use Rattle.elementary_arctangent_table.specs.Sum.{taylor}
use Rattle.elementary_arctangent_table.specs.Table.{arc_coefficients}

abbrev f : ℕ → ℕ
f = reciprocal 81

tail : ℕ → List Signed
tail j = at (f j) 0 ∷ []

pub long : length (scale 64 82 arc_coefficients) ≤ 82
unfolding scale arc_coefficients alternating
long = lit≤ tt

module _ (a d : ℕ) where
  -- the term of degree 81, the last
  last⁺ : (j : ℕ) → 81 ≡ j + 0 → a ^ j * (value d (at a 0) 1 (tail j)).plus ≡ terms f 81 4 a d 1 j
  unfolding terms tail value
  last⁺ j h = go (a ^ j) (f j) (d ^ 0) a ∙ ap (λ (w : ℕ). f j * a ^ j * d ^ w + 0) (sym (left j h))
    where
      left : (j : ℕ) → 81 ≡ j + 0 → 81 - j ≡ 0
      left j h = omega arith

      go : (p g P a : ℕ) → p * (g * P + (a * 0 + 0 * 0)) ≡ g * p * P + 0
      go p g P a = omega arith

  last⁻ : (j : ℕ) → 81 ≡ j + 0 → a ^ j * (value d (at a 0) 1 (tail j)).minus ≡ terms f 81 4 a d 0 (2 + j)
  unfolding terms tail value
  last⁻ j h = go (a ^ j) (d ^ 0) a
    where
      go : (p P a : ℕ) → p * (0 * P + (a * 0 + 0 * 0)) ≡ 0
      go p P a = omega arith

  pub arc_value : value d (at a 0) 82 arc_coefficients ≡ at (taylor a d).plus (taylor a d).minus
  unfolding arc_coefficients tail
  arc_value =
      let n = natural d a 81 (at 0 0) (alternating f 20 1 tail) in
      let u = blocks⁺ f a d 81 0 0 tail last⁺ last⁻ 20 1 refl in
      let v = blocks⁻ f a d 81 0 0 tail last⁺ last⁻ 20 1 refl in
      pair (n.0 ∙ go (d ^ 81) a (a ^ 1) (value d (at a 0) 81 (alternating f 20 1 tail)).plus (pow_one a) ∙ u) (n.1 ∙ go (d ^ 81) a (a ^ 1) (value d (at a 0) 81 (alternating f 20 1 tail)).minus (pow_one a) ∙ v)
    where
      go : (P a p u : ℕ) → p ≡ a → 0 * P + a * u ≡ p * u
      go P a p u e = rw e (omega arith)
