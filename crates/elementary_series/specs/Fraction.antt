-- Module 2: fractions with a sign, as a difference of two whole numbers over a third, and how near a float is to one. Definitions only.
use Rattle.std.specs.Prelude.{ℕ, ◌+◌, ◌*◌, ◌^◌, ◌≤◌, true, false, Float}
use Rattle.std.specs.Float.{nan, inf, fin}
use Rattle.std.specs.Float.Ieee.{up, down}
use Rattle.ieee754_rounding.specs.Distance.{distance}

-- (plus - minus) / over
pub record Fraction : Type 0 where
  pub plus : ℕ
  pub minus : ℕ
  pub over : ℕ

abbrev pub sum : Fraction → Fraction → Fraction
sum f g = record { plus = f.plus * g.over + g.plus * f.over; minus = f.minus * g.over + g.minus * f.over; over = f.over * g.over }

abbrev pub negated : Fraction → Fraction
negated f = record { plus = f.minus; minus = f.plus; over = f.over }

abbrev pub times : ℕ → Fraction → Fraction
times k f = record { plus = k * f.plus; minus = k * f.minus; over = f.over }

-- the float x is finite, and |x - f| is at most 2 ^ -k
unfoldable pub Near : ℕ → Float → Fraction → Type 0
Near k nan f = ⊥
Near k (inf s) f = ⊥
Near k (fin false m e) f = distance (m * up e * f.over + f.minus * down e) (f.plus * down e) * 2 ^ k ≤ f.over * down e
Near k (fin true m e) f = distance (m * up e * f.over + f.plus * down e) (f.minus * down e) * 2 ^ k ≤ f.over * down e
