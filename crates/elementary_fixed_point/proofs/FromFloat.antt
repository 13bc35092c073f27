-- A float from 0 to below 8 in units of 2 ^ -61: the product is exact, its whole part fits 64 bits, and it is the fraction rounded down.
use Rattle.std.proofs.Common.{◌≡◌, ℕ, ◌+◌, ◌-◌, ◌*◌, ◌/◌, ◌^◌, ◌<◌, ◌≤◌, min, Bool, true, false, T, pos, sym, ap, ◌∙◌, subst, le_trans, le_of_eq, lt_of_lt_of_le, lt_of_le_of_lt, le_of_lt, mul-le-mul_right, zero-lt-suc, mul_comm, div-lt_iff_lt-mul, lt_of_mul-lt-mul_right, mul-lt-mul_of_pos_right, mul-pos, one-mul, mul-one, mul_right_comm, div-mul-le_self, le_of_mul-le-mul_right, arith, lit<, lt→ltb, pow_pos}
use native.Mathlib.Nat.{mul-div-mul_right, lt-div-mul-add}
use lib.Ieee.{Float, nan, inf, fin, binary64, up, down, mul, lt, fits, to_unsigned}
use lib.Ieee.Fits.{down_pos}
use lib.Ieee.Exact.{HasValue}
use lib.Ieee.Positive.{num, den, den_pos}
use Rattle.elementary_fixed_point.specs.Conversion.{fixed}
use Rattle.elementary_fixed_point.specs.Code.Bounds.{Fixable, Enclosure}
use Rattle.elementary_fixed_point.proofs.PowerOfTwo.{times_exact}

-- a quotient rounded down encloses it
pub floor_encloses : (n d : ℕ) → 0 < d → Enclosure (n / d) (n / d + 1) n d
floor_encloses n d dp = record { low = div-mul-le_self n d; high = le_of_lt (lt_of_lt_of_le (lt-div-mul-add {a = n} {b = d} dp) (le_of_eq (next (n / d) d))) }
  where
    next : (q d : ℕ) → q * d + d ≡ (q + 1) * d
    next q d = omega arith

-- what the truncation asks of the product, and what it gives
pub record Whole (r : Float) : Type 0 where
  pub above : T (lt (fin true 1 (pos 0)) (mul binary64 r (fin false 1 (pos 61))))
  pub under : T (lt (mul binary64 r (fin false 1 (pos 61))) (fin false 1 (pos 64)))
  pub is : fixed r ≡ num r * 2 ^ 61 / den r

-- n / d below 2 ^ 64, as a float x that has this value
module _ (n d : ℕ) (dp : 0 < d) (small : n < 2 ^ 64 * d) where
  record Part (x : Float) : Type 0 where
    above : T (lt (fin true 1 (pos 0)) x)
    under : T (lt x (fin false 1 (pos 64)))
    is : to_unsigned 64 x ≡ n / d

  part : (x : Float) → HasValue x false n d → Part x
  unfolding lt to_unsigned
  part nan v = absurd v
  part (inf s) v = absurd v
  part (fin true M E) v = absurd (subst (λ (b : Bool). T b) v.0 tt)
  part (fin false M E) v =
      let dE : 0 < down E = down_pos E in
      let bound : M * up E < 2 ^ 64 * down E =
      lt_of_mul-lt-mul_right d (lt_of_le_of_lt (le_of_eq v.1) (lt_of_lt_of_le (mul-lt-mul_of_pos_right small dE) (le_of_eq (mul_right_comm (2 ^ 64) d (down E))))) in
      record {
        above = lt→ltb 0 (1 * 1 * down E + M * up E * 1) (first (down E) (M * up E) dE);
        under = lt→ltb (M * up E * 1) (1 * 2 ^ 64 * down E) (lt_of_le_of_lt (le_of_eq (mul-one (M * up E))) bound);
        is = capped (M * up E / down E) ((div-lt_iff_lt-mul dE).1 bound) ∙ sym (mul-div-mul_right {m = d} (M * up E) (down E) dp) ∙ ap (λ (z : ℕ). z / (down E * d)) v.1 ∙ ap (λ (z : ℕ). n * down E / z) (mul_comm (down E) d) ∙ mul-div-mul_right {m = down E} n d dE;
      }
    where
      first : (d a : ℕ) → 0 < d → 0 < 1 * 1 * d + a * 1
      first d a h = omega arith

      capped : (v : ℕ) → v < 2 ^ 64 → min v (2 ^ 64 - 1) ≡ v
      capped v h = omega arith

pub whole : (r : Float) → T (fits binary64 r) → Fixable r → Whole r
unfolding fixed
whole nan f h = absurd h.from
whole (inf s) f h = absurd h.from
whole (fin true m e) f h = absurd h.from
whole (fin false m e) f h =
    let n : ℕ = m * up e * (1 * 2 ^ 61) in
    let d : ℕ = down e * 1 in
    let is : n ≡ m * up e * 2 ^ 61 = ap (λ (z : ℕ). m * up e * z) (one-mul (2 ^ 61)) in
    let small : n < 2 ^ 64 * d = lt_of_le_of_lt (le_of_eq is) (lt_of_lt_of_le (mul-lt-mul_of_pos_right h.below (pow_pos 61)) (le_of_eq (mul_right_comm 8 (down e) (2 ^ 61) ∙ ap (λ (z : ℕ). 2 ^ 64 * z) (sym (mul-one (down e)))))) in
    let dp : 0 < d = mul-pos (down_pos e) (zero-lt-suc 0) in
    let p = part n d dp small (mul binary64 (fin false m e) (fin false 1 (pos 61))) (times_exact binary64 m e f 61 (lt_of_lt_of_le small (mul-le-mul_right d (le_of_lt (lit< {m = 2 ^ 64} {n = 2 ^ 1024} tt))))) in
    record { above = p.above; under = p.under; is = p.is ∙ ap (λ (z : ℕ). z / d) is ∙ ap (λ (z : ℕ). m * up e * 2 ^ 61 / z) (mul-one (down e)) }

-- so it encloses the float
pub fixed_encloses : (r : Float) → T (fits binary64 r) → Fixable r → Enclosure (fixed r) (fixed r + 1) (num r * 2 ^ 61) (den r)
fixed_encloses r f h = subst (λ (z : ℕ). Enclosure z (z + 1) (num r * 2 ^ 61) (den r)) (sym (whole r f h).is) (floor_encloses (num r * 2 ^ 61) (den r) (den_pos r))

-- a bound on the fraction is one on the whole number
pub enclosed_upto : {l h n d : ℕ} (top : ℕ) → 0 < d → n ≤ top * d → Enclosure l h n d → l ≤ top
enclosed_upto top dp b e = le_of_mul-le-mul_right (le_trans e.low b) dp
