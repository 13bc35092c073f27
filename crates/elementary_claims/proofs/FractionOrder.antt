-- The order of fractions: it goes on, and sums, multiples and opposites keep it or turn it round.
use mathlib.Core.Path.{◌≡◌, refl, sym, ap, ◌∙◌}
use Prim.Native.Nat.{ℕ, ◌+◌, ◌*◌, ◌≤◌, ◌<◌}
use native.Mathlib.Nat.{le_trans, le_of_eq, le_of_mul-le-mul_right, add_assoc, add_comm, add_left_comm, add-le-add, add-mul, mul_assoc, mul_comm, mul_left_comm, mul-le-mul_right}
use native.Mathlib.Omega.{arith}
use Rattle.elementary_fixed_point.specs.Fraction.{Fraction, sum, negated, times}
use Rattle.elementary_claims.specs.Machin.{AtMost}

pub at_most_trans : (f g h : Fraction) → 0 < g.over → AtMost f g → AtMost g h → AtMost f h
at_most_trans f g h p a b = record {
  is = le_of_mul-le-mul_right {k = g.over} (lin f.plus f.minus f.over g.plus g.minus g.over h.plus h.minus h.over (mul-le-mul_right h.over a.is) (mul-le-mul_right f.over b.is)) p;
}
  where
    lin : (fp fm fo gp gm go hp hm ho : ℕ) → (fp * go + gm * fo) * ho ≤ (gp * fo + fm * go) * ho → (gp * ho + hm * go) * fo ≤ (hp * go + gm * ho) * fo → (fp * ho + hm * fo) * go ≤ (hp * fo + fm * ho) * go
    lin fp fm fo gp gm go hp hm ho a b = omega arith

-- a sum's products, regrouped
regroup : (a b c d u v w x : ℕ) → (a * c + b * d) * (u * v) + (w * v + x * u) * (d * c) ≡ (a * u + w * d) * (c * v) + (b * v + x * c) * (d * u)
regroup a b c d u v w x = simp (add-mul, mul_assoc, mul_comm, mul_left_comm, add_assoc, add_comm, add_left_comm) refl

pub sum_most : (f g f' g' : Fraction) → AtMost f f' → AtMost g g' → AtMost (sum f g) (sum f' g')
sum_most f g f' g' a b =
    let fo : ℕ = f.over in
    let go : ℕ = g.over in
    let o : ℕ = f'.over in
    let r : ℕ = g'.over in
    record {
      is = le_trans (le_of_eq (regroup f.plus g.plus go fo o r f'.minus g'.minus))
          (le_trans (add-le-add (mul-le-mul_right (go * r) a.is) (mul-le-mul_right (fo * o) b.is))
          (le_of_eq
          (ap (λ (z : ℕ). (f'.plus * fo + f.minus * o) * z + (g'.plus * go + g.minus * r) * (fo * o)) (mul_comm go r)
          ∙ ap (λ (z : ℕ). (f'.plus * fo + f.minus * o) * (r * go) + (g'.plus * go + g.minus * r) * z) (mul_comm fo o)
          ∙ sym (regroup f'.plus g'.plus r o fo go f.minus g.minus))));
    }

pub times_most : (k : ℕ) (f g : Fraction) → AtMost f g → AtMost (times k f) (times k g)
times_most k f g a = record { is = lin k f.plus f.minus f.over g.plus g.minus g.over (mul-le-mul_right k a.is) }
  where
    lin : (k fp fm fo gp gm go : ℕ) → (fp * go + gm * fo) * k ≤ (gp * fo + fm * go) * k → k * fp * go + k * gm * fo ≤ k * gp * fo + k * fm * go
    lin k fp fm fo gp gm go a = omega arith

pub negated_most : (f g : Fraction) → AtMost f g → AtMost (negated g) (negated f)
negated_most f g a = record { is = lin (f.plus * g.over) (g.minus * f.over) (g.plus * f.over) (f.minus * g.over) a.is }
  where
    lin : (x y z w : ℕ) → x + y ≤ z + w → y + x ≤ w + z
    lin x y z w a = omega arith
