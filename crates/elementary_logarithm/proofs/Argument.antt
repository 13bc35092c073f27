-- w = (m - 1) / (m + 1) in units of 2 ^ -64: how far below it the quotient of whole numbers is.
use mathlib.Core.Path.{◌≡◌, sym, ap, ◌∙◌}
use Prim.Native.Nat.{ℕ, ◌+◌, ◌-◌, ◌*◌, ◌/◌, ◌^◌, ◌≤◌, ◌<◌}
use native.Mathlib.Nat.{le_refl, le_trans, le_of_eq, mul_assoc, mul_comm, mul_right_comm, mul-le-mul_left, mul-le-mul_right, le_of_mul-le-mul_right, add-le-add, add-mul, mul-add, mul-one, le-div_iff_mul-le}
use native.Mathlib.Omega.{arith}
use lib.IntN.{pos}
use lib.Dec.{lit<}
use lib.Ieee.{binary64, of_int}
use Rattle.elementary_fixed_point.specs.Ratio.{ratio}
use Rattle.elementary_fixed_point.specs.Code.Bounds.{Proper, Enclosure}
use Rattle.elementary_fixed_point.proofs.Enclosures.{enclosure_finer}
use Rattle.elementary_logarithm.specs.Steps.{argument}
use Rattle.elementary_logarithm.proofs.SeriesBound.{δ}
use Rattle.elementary_logarithm.proofs.WholeRatio.{whole_proper, whole_ratio}

module _ (s : ℕ) (from : 2 ^ 52 ≤ s) (upto : s < 2 ^ 53) where
  abbrev u : ℕ
  u = s - 2 ^ 52

  -- half of the divisor, rounded up
  abbrev v : ℕ
  v = (s + 2 ^ 52 + 1) / 2

  abbrev r : ℕ
  r = ratio (of_int binary64 (pos u)) (of_int binary64 (pos v))

  uv : u ≤ v
  uv = go s upto
    where
      go : (s : ℕ) → s < 2 ^ 53 → s - 2 ^ 52 ≤ (s + 2 ^ 52 + 1) / 2
      go s h = omega arith

  vp : 0 < v
  vp = go s
    where
      go : (s : ℕ) → 0 < (s + 2 ^ 52 + 1) / 2
      go s = omega arith

  pub v_upto : v ≤ 2 ^ 53
  v_upto = go s upto
    where
      go : (s : ℕ) → s < 2 ^ 53 → (s + 2 ^ 52 + 1) / 2 ≤ 2 ^ 53
      go s h = omega arith

  pub argument_proper : Proper (of_int binary64 (pos u)) (of_int binary64 (pos v))
  argument_proper = whole_proper u v uv vp v_upto

  er : Enclosure r (r + 513) (u * 2 ^ 61) v
  er = whole_ratio u v uv vp v_upto

  r_upto : r ≤ 2 ^ 61
  r_upto = le_of_mul-le-mul_right {m = r} {n = 2 ^ 61} {k = v} (le_trans er.low (le_trans (mul-le-mul_right (2 ^ 61) uv) (le_of_eq (mul_comm v (2 ^ 61))))) vp

  -- twice v is the divisor, or one more
  ev : Enclosure r (r + 770) (u * 2 ^ 62) (s + 2 ^ 52)
  ev = record {
    low = le_trans (mul-le-mul_left r (twice s)) (le_trans (le_of_eq (sym (mul_assoc r v 2))) (le_trans (mul-le-mul_right 2 er.low) (le_of_eq (mul_assoc u (2 ^ 61) 2))));
    high = le_trans (le_of_eq (sym (mul_assoc u (2 ^ 61) 2)))
        (le_trans (mul-le-mul_right 2 er.high)
        (le_trans (le_of_eq (mul_assoc (r + 513) v 2))
        (le_trans (mul-le-mul_left (r + 513) (once s))
        (le_trans (le_of_eq (mul-add (r + 513) (s + 2 ^ 52) 1 ∙ ap (λ (z : ℕ). (r + 513) * (s + 2 ^ 52) + z) (mul-one (r + 513))))
        (le_trans (add-le-add (le_refl ((r + 513) * (s + 2 ^ 52))) (few r s r_upto from))
        (le_of_eq (sym (add-mul (r + 513) 257 (s + 2 ^ 52)) ∙ ap (λ (z : ℕ). z * (s + 2 ^ 52)) (total r))))))));
  }
    where
      twice : (s : ℕ) → s + 2 ^ 52 ≤ (s + 2 ^ 52 + 1) / 2 * 2
      twice s = omega arith

      once : (s : ℕ) → (s + 2 ^ 52 + 1) / 2 * 2 ≤ s + 2 ^ 52 + 1
      once s = omega arith

      few : (r s : ℕ) → r ≤ 2 ^ 61 → 2 ^ 52 ≤ s → r + 513 ≤ 257 * (s + 2 ^ 52)
      few r s a b = omega arith

      total : (r : ℕ) → r + 513 + 257 ≡ r + 770
      total r = omega arith

  pub argument_near : Enclosure (argument s) (argument s + δ) ((s - 2 ^ 52) * 2 ^ 64) (s + 2 ^ 52)
  unfolding argument
  argument_near = enclosure_finer r 770 u (s + 2 ^ 52) (2 ^ 62) 4 ev

  -- w is at most a third
  pub argument_upto : argument s ≤ 2 ^ 64 / 3
  argument_upto =
      (le-div_iff_mul-le {k = 3} {x = argument s} {y = 2 ^ 64} (lit< tt)).1
      (le_of_mul-le-mul_right {m = argument s * 3} {n = 2 ^ 64} {k = s + 2 ^ 52}
      (le_trans (le_of_eq (mul_right_comm (argument s) 3 (s + 2 ^ 52))) (le_trans (mul-le-mul_right 3 argument_near.low) (third s upto)))
      (some s))
    where
      third : (s : ℕ) → s < 2 ^ 53 → (s - 2 ^ 52) * 2 ^ 64 * 3 ≤ 2 ^ 64 * (s + 2 ^ 52)
      third s h = omega arith

      some : (s : ℕ) → 0 < s + 2 ^ 52
      some s = omega arith
