-- The quotient of two floats, 0 ≤ a ≤ b, in units of 2 ^ -61: by how much its rounding can move it.
use Rattle.std.proofs.Common.{◌≡◌, ℕ, ◌+◌, ◌-◌, ◌*◌, ◌^◌, ◌<◌, ◌≤◌, Bool, true, false, cond, T, eqb, sym, ap, ◌∙◌, subst, le_trans, le_of_eq, le_refl, lt_of_lt_of_le, lt_of_le_of_lt, add-le-add, lt_irrefl, mul-le-mul_right, mul_assoc, mul_comm, add-mul, lt_of_mul-lt-mul_right, mul-lt-mul_of_pos_right, mul-pos, one-mul, zero-mul, mul-add, mul_right_comm, le_of_mul-le-mul_right, arith, lit<, eqb→eq, pow_pos, pow-add}
use native.Mathlib.Nat.{mul-sub}
use lib.Pow.{pow-lt}
use lib.Ieee.{Float, nan, inf, fin, binary64, up, down, div, round, fits}
use lib.Ieee.Fits.{down_pos, round-fits}
use lib.Ieee.Exact.{HasValue}
use lib.Ieee.Positive.{num, den}
use lib.Ieee.Scale.{grid, round_val}
use Rattle.ieee754_rounding.proofs.RoundingError.{absolute, no_overflow}
use Rattle.elementary_fixed_point.specs.Conversion.{fixed}
use Rattle.elementary_fixed_point.specs.Ratio.{ratio}
use Rattle.elementary_fixed_point.specs.Code.Bounds.{Fixable, Proper, Enclosure, NearRatio}
use Rattle.elementary_fixed_point.proofs.FromFloat.{fixed_encloses}

-- y is a float near n / d, and so is its fixed-point number
record Fine (y : Float) (n d : ℕ) : Type 0 where
  fixable : Fixable y
  low : fixed y * d ≤ n * 2 ^ 61 + 256 * d
  high : n * 2 ^ 61 ≤ (fixed y + 257) * d

-- from the fixed-point number x of m / k, which is v of the smallest values, P of which make 1, to n / d: G of the smallest values are 256 units
module _ (P G : ℕ) (Pp : 0 < P) (unit : G * 2 ^ 61 ≡ 256 * P) (x m k v n d : ℕ) (kp : 0 < k) (e : m * P ≡ v * k) where
  low_step : x * k ≤ m * 2 ^ 61 → v * d ≤ n * P + d * G → x * d ≤ n * 2 ^ 61 + 256 * d
  low_step a c =
      let one : x * P ≤ v * 2 ^ 61 =
      le_of_mul-le-mul_right {m = x * P} {n = v * 2 ^ 61} {k = k}
      (le_trans (le_of_eq (mul_right_comm x P k)) (le_trans (mul-le-mul_right P a) (le_of_eq (mul_right_comm m (2 ^ 61) P ∙ ap (λ (z : ℕ). z * 2 ^ 61) e ∙ mul_right_comm v k (2 ^ 61))))) kp in
      le_of_mul-le-mul_right {m = x * d} {n = n * 2 ^ 61 + 256 * d} {k = P}
      (le_trans (le_of_eq (mul_right_comm x d P))
      (le_trans (mul-le-mul_right d one)
      (le_trans (le_of_eq (mul_right_comm v (2 ^ 61) d))
      (le_trans (mul-le-mul_right (2 ^ 61) c)
      (le_of_eq (add-mul (n * P) (d * G) (2 ^ 61) ∙ ap (λ (z : ℕ). z + d * G * 2 ^ 61) (mul_right_comm n P (2 ^ 61)) ∙ ap (λ (z : ℕ). n * 2 ^ 61 * P + z) (units d) ∙ sym (add-mul (n * 2 ^ 61) (256 * d) P)))))))
      Pp
    where
      units : (d : ℕ) → d * G * 2 ^ 61 ≡ 256 * d * P
      units d = mul_assoc d G (2 ^ 61) ∙ ap (λ (z : ℕ). d * z) unit ∙ sym (mul_assoc d 256 P) ∙ ap (λ (z : ℕ). z * P) (mul_comm d 256)

  high_step : m * 2 ^ 61 ≤ (x + 1) * k → n * P ≤ v * d + d * G → n * 2 ^ 61 ≤ (x + 257) * d
  high_step a c =
      let one : v * 2 ^ 61 ≤ (x + 1) * P =
      le_of_mul-le-mul_right {m = v * 2 ^ 61} {n = (x + 1) * P} {k = k}
      (le_trans (le_of_eq (mul_right_comm v (2 ^ 61) k ∙ ap (λ (z : ℕ). z * 2 ^ 61) (sym e) ∙ mul_right_comm m P (2 ^ 61))) (le_trans (mul-le-mul_right P a) (le_of_eq (mul_right_comm (x + 1) k P)))) kp in
      le_of_mul-le-mul_right {m = n * 2 ^ 61} {n = (x + 257) * d} {k = P}
      (le_trans (le_of_eq (mul_right_comm n (2 ^ 61) P))
      (le_trans (mul-le-mul_right (2 ^ 61) c)
      (le_trans (le_of_eq (add-mul (v * d) (d * G) (2 ^ 61) ∙ ap (λ (z : ℕ). z + d * G * 2 ^ 61) (mul_right_comm v d (2 ^ 61)) ∙ ap (λ (z : ℕ). v * 2 ^ 61 * d + z) (units d)))
      (le_trans (add-le-add (mul-le-mul_right d one) (le_refl (256 * d * P)))
      (le_of_eq (ap (λ (z : ℕ). z + 256 * d * P) (mul_right_comm (x + 1) P d) ∙ sym (add-mul ((x + 1) * d) (256 * d) P) ∙ ap (λ (z : ℕ). z * P) (sym (add-mul (x + 1) 256 d) ∙ ap (λ (z : ℕ). z * d) (add x))))))))
      Pp
    where
      units : (d : ℕ) → d * G * 2 ^ 61 ≡ 256 * d * P
      units d = mul_assoc d G (2 ^ 61) ∙ ap (λ (z : ℕ). d * z) unit ∙ sym (mul_assoc d 256 P) ∙ ap (λ (z : ℕ). z * P) (mul_comm d 256)

      add : (x : ℕ) → x + 1 + 256 ≡ x + 257
      add x = omega arith

  -- m / k is at most n / d + 2 ^ -53, so it is below 8
  in_range_lem : 0 < d → n ≤ d → v * d ≤ n * P + d * G → P + G < 8 * P → m < 8 * k
  in_range_lem dp h c few =
      let two : v ≤ P + G =
      le_of_mul-le-mul_right {m = v} {n = P + G} {k = d}
      (le_trans c (le_trans (add-le-add (mul-le-mul_right P h) (le_refl (d * G))) (le_of_eq (sym (mul-add d P G) ∙ mul_comm d (P + G))))) dp in
      lt_of_mul-lt-mul_right P
      (lt_of_le_of_lt (le_of_eq e) (lt_of_lt_of_le (mul-lt-mul_of_pos_right (lt_of_le_of_lt two few) kp) (le_of_eq (mul_right_comm 8 P k))))

fine : (n d : ℕ) → 0 < d → n ≤ d → Fine (round binary64 false n d) n d
fine n d dp h =
    let P : ℕ = 2 ^ 1074 in
    let G : ℕ = 2 ^ 1021 in
    let near = absolute binary64 n d 1075 dp (lt_of_le_of_lt (mul-le-mul_right P h) (lt_of_le_of_lt (le_of_eq (mul_comm d P)) (mul-lt-mul_of_pos_right (pow-lt {i = 1074} {j = 1075} (le_refl 1075)) dp))) in
    let v = round_val binary64 n d (no_overflow binary64 n d 0 dp (lit< tt) (le_trans h (le_of_eq (sym (one-mul d))))) in
    go P G (pow_pos 1074) (sym (pow-add 2 1021 61) ∙ pow-add 2 8 1074) (lit< {m = P + G} {n = 8 * P} tt) (grid binary64 n d)
    (halves (grid binary64 n d * d) (n * P) (d * G) near.under) (halves (n * P) (grid binary64 n d * d) (d * G) near.over) (round binary64 false n d) (round-fits binary64 false n d) v
  where
    halves' : (x y g : ℕ) → 2 * x ≤ 2 * y + 2 * g → x ≤ y + g
    halves' x y g h = omega arith

    halves : (x y z : ℕ) → 2 * x ≤ 2 * y + d * 2 ^ 1022 → x ≤ y + d * 2 ^ 1021
    halves x y z h = halves' x y (d * 2 ^ 1021) (le_trans h (le_of_eq (ap (λ (w : ℕ). 2 * y + d * w) (pow-add 2 1 1021) ∙ ap (λ (w : ℕ). 2 * y + w) (turn d (2 ^ 1021)))))
      where
        turn : (d g : ℕ) → d * (2 ^ 1 * g) ≡ 2 * (d * g)
        turn d g = sym (mul_assoc d 2 g) ∙ ap (λ (z : ℕ). z * g) (mul_comm d 2) ∙ mul_assoc 2 d g

    go : (P G : ℕ) → 0 < P → G * 2 ^ 61 ≡ 256 * P → P + G < 8 * P → (v : ℕ) → v * d ≤ n * P + d * G → n * P ≤ v * d + d * G → (y : Float) → T (fits binary64 y) → HasValue y false v P → Fine y n d
    go P G Pp unit few v below above nan f hv = absurd hv
    go P G Pp unit few v below above (inf s) f hv = absurd hv
    go P G Pp unit few v below above (fin true m e) f hv = absurd (subst (λ (b : Bool). T b) hv.0 tt)
    go P G Pp unit few v below above (fin false m e) f hv =
        let kp : 0 < down e = down_pos e in
        let ok : Fixable (fin false m e) = record { from = tt; below = in_range_lem P G Pp unit (fixed (fin false m e)) (m * up e) (down e) v n d kp hv.1 dp h below few } in
        let w = fixed_encloses (fin false m e) f ok in
        record {
          fixable = ok;
          low = low_step P G Pp unit (fixed (fin false m e)) (m * up e) (down e) v n d kp hv.1 w.low below;
          high = high_step P G Pp unit (fixed (fin false m e)) (m * up e) (down e) v n d kp hv.1 w.high above;
        }

at : (a b : Float) → Proper a b → Fine (div binary64 a b) (num a * den b) (num b * den a)
unfolding div
at nan b h = absurd h.left
at (inf s) b h = absurd h.left
at (fin true m e) b h = absurd h.left
at (fin false m e) nan h = absurd h.right
at (fin false m e) (inf s) h = absurd h.right
at (fin false m e) (fin true n d) h = absurd h.right
at (fin false m e) (fin false n d) h = go (eqb n 0) (eqb→eq n 0)
  where
    go : (b : Bool) → (T b → n ≡ 0) → Fine (cond b (cond (eqb m 0) nan (inf false)) (round binary64 false (m * up e * down d) (n * up d * down e))) (m * up e * down d) (n * up d * down e)
    go true f = absurd (none n (up d) (f tt) h.above)
      where
        none : (n u : ℕ) → n ≡ 0 → 0 < n * u → ⊥
        none n u p q = lt_irrefl 0 (subst (λ (z : ℕ). 0 < z) (ap (λ (z : ℕ). z * u) p ∙ zero-mul u) q)
    go false f = fine (m * up e * down d) (n * up d * down e) (mul-pos h.above (down_pos e)) h.upto

-- without 256 units, or 0
lowered : (x n d : ℕ) → x * d ≤ n + 256 * d → n ≤ (x + 257) * d → Enclosure (x - 256) (x - 256 + 513) n d
lowered x n d a b = record {
  low = le_trans (le_of_eq (mul_comm (x - 256) d ∙ mul-sub d x 256 ∙ ap (λ (z : ℕ). z - d * 256) (mul_comm d x) ∙ ap (λ (z : ℕ). x * d - z) (mul_comm d 256))) (off (x * d) n (256 * d) a);
  high = le_trans b (mul-le-mul_right d (fill x));
}
  where
    off : (p n q : ℕ) → p ≤ n + q → p - q ≤ n
    off p n q h = omega arith

    fill : (x : ℕ) → x + 257 ≤ x - 256 + 513
    fill x = omega arith

pub ratio_near : (a b : Float) → Proper a b → NearRatio a b (ratio a b)
unfolding ratio
ratio_near a b h = let w = at a b h in lowered (fixed (div binary64 a b)) (num a * den b * 2 ^ 61) (num b * den a) w.low w.high

pub quotient_fixable : (a b : Float) → Proper a b → Fixable (div binary64 a b)
quotient_fixable a b h = (at a b h).fixable

-- at most 1
pub ratio_upto : (a b : Float) → Proper a b → ratio a b ≤ 2 ^ 61
ratio_upto a b h =
    let e = ratio_near a b h in
    le_of_mul-le-mul_right {m = ratio a b} {n = 2 ^ 61} {k = num b * den a}
    (le_trans e.low (le_trans (mul-le-mul_right (2 ^ 61) h.upto) (le_of_eq (mul_comm (num b * den a) (2 ^ 61))))) (bottom a b h)
  where
    bottom : (a b : Float) → Proper a b → 0 < num b * den a
    bottom nan b h = absurd h.left
    bottom (inf s) b h = absurd h.left
    bottom (fin s m e) b h = mul-pos h.above (down_pos e)
