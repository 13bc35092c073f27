-- The fixed-point quotient of two whole numbers that are floats.
use mathlib.Core.Path.{◌≡◌, refl, sym, ap, ◌∙◌, subst}
use mathlib.Core.Bool.{Bool, true, false}
use Prim.Native.Nat.{ℕ, ◌+◌, ◌*◌, ◌^◌, ◌≤◌, ◌<◌}
use native.Mathlib.Nat.{le_trans, le_of_eq, mul_assoc, mul_comm, mul_left_comm, mul-one, mul-pos, mul-le-mul_right}
use lib.IntN.{pos}
use lib.Dec.{T}
use lib.Ieee.{Float, nan, inf, fin, binary64, round, of_int}
use lib.Ieee.Exact.{HasValue}
use lib.Ieee.Back.{round_whole}
use lib.Ieee.Positive.{num, den, den_pos}
use Rattle.elementary_fixed_point.specs.Ratio.{ratio}
use Rattle.elementary_fixed_point.specs.Code.Bounds.{nonnegative, Proper, Enclosure}
use Rattle.elementary_fixed_point.proofs.Enclosures.{enclosure_cancel, enclosure_is}
use Rattle.elementary_fixed_point.proofs.RatioBound.{ratio_near}

-- a whole number up to 2 ^ 53 is a float
whole : (k : ℕ) → k ≤ 2 ^ 53 → T (nonnegative (of_int binary64 (pos k))) × (num (of_int binary64 (pos k)) ≡ k * den (of_int binary64 (pos k)))
unfolding of_int
whole k h = go (round binary64 false k 1) (round_whole binary64 false k h)
  where
    go : (x : Float) → HasValue x false k 1 → T (nonnegative x) × (num x ≡ k * den x)
    go nan v = absurd v
    go (inf s) v = absurd v
    go (fin true m e) v = absurd (subst (λ (b : Bool). T b) v.0 tt)
    go (fin false m e) v = (tt, sym (mul-one (num (fin false m e))) ∙ v.1)

module _ (u v : ℕ) (uv : u ≤ v) (vp : 0 < v) (vl : v ≤ 2 ^ 53) where
  abbrev fu : Float
  fu = of_int binary64 (pos u)

  abbrev fv : Float
  fv = of_int binary64 (pos v)

  iu : T (nonnegative fu) × (num fu ≡ u * den fu)
  iu = whole u (le_trans uv vl)

  iv : T (nonnegative fv) × (num fv ≡ v * den fv)
  iv = whole v vl

  pub whole_proper : Proper fu fv
  whole_proper = record {
    left = iu.0;
    right = iv.0;
    above = subst (λ (z : ℕ). 0 < z) (sym iv.1) (mul-pos vp (den_pos fv));
    upto = le_trans (le_of_eq (ap (λ (z : ℕ). z * den fv) iu.1 ∙ mul_assoc u (den fu) (den fv) ∙ ap (λ (z : ℕ). u * z) (mul_comm (den fu) (den fv)) ∙ sym (mul_assoc u (den fv) (den fu))))
        (le_trans (mul-le-mul_right (den fu) (mul-le-mul_right (den fv) uv)) (le_of_eq (ap (λ (z : ℕ). z * den fu) (sym iv.1))));
  }

  pub whole_ratio : Enclosure (ratio fu fv) (ratio fu fv + 513) (u * 2 ^ 61) v
  whole_ratio =
      let c : ℕ = den fv * den fu in
      let cp : 0 < c = mul-pos (den_pos fv) (den_pos fu) in
      enclosure_cancel (u * 2 ^ 61) v c cp
      (enclosure_is (u * 2 ^ 61 * c) (v * c)
      (ap (λ (z : ℕ). z * den fv * 2 ^ 61) iu.1 ∙ turn u (den fu) (den fv) (2 ^ 61))
      (ap (λ (z : ℕ). z * den fu) iv.1 ∙ mul_assoc v (den fv) (den fu))
      (ratio_near fu fv whole_proper))
    where
      turn : (u a b p : ℕ) → u * a * b * p ≡ u * p * (b * a)
      turn u a b p = simp (mul_assoc, mul_comm, mul_left_comm) refl
