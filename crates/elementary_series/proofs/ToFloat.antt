-- From a fixed-point number near a fraction to a float near it: d units of 2 ^ -k, rounded to the nearest float.
use mathlib.Core.Path.{◌≡◌, refl, sym, ap, ◌∙◌, subst}
use mathlib.Core.Bool.{Bool, true, false, not}
use Prim.Native.Nat.{ℕ, suc, ◌+◌, ◌-◌, ◌*◌, ◌^◌, ◌≤◌, ◌<◌}
use native.Mathlib.Nat.{le_trans, le_of_eq, le_of_lt, lt_of_lt_of_le, not-le_of_lt, zero-lt-suc, mul_assoc, mul_comm, mul_left_comm, mul_right_comm, mul-one, add-mul, mul-add, mul-sub, mul-le-mul_left, mul-le-mul_right, mul-lt-mul_of_pos_right, le_of_mul-le-mul_right, le_of_mul-le-mul_left, add-le-add}
use native.Mathlib.Omega.{arith}
use lib.IntN.{pos, negsuc}
use lib.Dec.{T, ltb, ltb→lt, nltb→le, lit<}
use lib.Pow.{pow_pos, pow-add, pow_mono}
use lib.Ieee.{Float, nan, inf, fin, binary64, up, down, round, neg, of_int, fits}
use lib.Ieee.Fits.{round-fits}
use lib.Ieee.Exact.{HasValue}
use lib.Ieee.Back.{round_whole}
use lib.Ieee.Scale.{grid, round_val}
use Rattle.ieee754_rounding.proofs.RoundingError.{absolute, no_overflow}
use Rattle.ieee754_rounding.specs.Distance.{distance}
use Rattle.elementary_series.specs.Fraction.{Fraction, negated, Near}
use Rattle.elementary_series.specs.Conversion.{scaled}
use Rattle.elementary_series.specs.Code.Bounds.{Approximates}
use Rattle.ieee754_rounding.proofs.FormatValues.{fitting}
use Rattle.elementary_series.proofs.PowerOfTwo.{over_exact}

-- w is c units of 2 ^ -k, and c is d rounded
pub record Scaled (k d : ℕ) (w : Float) : Type 0 where
  pub c : ℕ
  pub under : c ≤ d + 1024
  pub over : d ≤ c + 1024
  pub some : 0 < d → 0 < c
  pub exact : d < 2 ^ 53 → c ≡ d
  pub value : HasValue w false c (2 ^ k)

-- ---- d as a float: a whole number too
record Rounded (d : ℕ) (x : Float) : Type 0 where
  c : ℕ
  q : ℕ
  i : ℕ
  is : c ≡ q * 2 ^ i
  short : q < 2 ^ 53
  under : c ≤ d + 1024
  over : d ≤ c + 1024
  exact : d < 2 ^ 53 → c ≡ d
  value : HasValue x false c 1

-- g of the smallest values, P of which make 1
module _ (d g P : ℕ) (dl : 2 ^ 53 ≤ d) (Pp : 0 < P) (under : g ≤ (d + 1024) * P) (over : d * P ≤ g + 1024 * P) where
  at : (x : Float) → T (fits binary64 x) → HasValue x false g P → Rounded d x
  at nan f v = absurd v
  at (inf s) f v = absurd v
  at (fin true m e) f v = absurd (subst (λ (b : Bool). T b) v.0 tt)
  at (fin false m (pos i)) f v =
      let is : m * 2 ^ i * P ≡ g = v.1 ∙ mul-one g in
      record {
        c = m * 2 ^ i;
        q = m;
        i = i;
        is = refl;
        short = (fitting binary64 false m (pos i) f).small;
        under = le_of_mul-le-mul_right (le_trans (le_of_eq is) under) Pp;
        over = le_of_mul-le-mul_right (le_trans over (le_of_eq (ap (λ (z : ℕ). z + 1024 * P) (sym is) ∙ sym (add-mul (m * 2 ^ i) 1024 P)))) Pp;
        exact = λ (h : d < 2 ^ 53). absurd (not-le_of_lt h dl);
        value = (refl, refl);
      }
  -- 2 ^ 53 and more has no fraction
  at (fin false m (negsuc i)) f v =
      let twice : 2 * g ≤ m * P =
      le_trans (mul-le-mul_right g (pow_mono {i = 1} {j = suc i} (one-le i))) (le_of_eq (mul_comm (2 ^ suc i) g ∙ sym v.1 ∙ ap (λ (z : ℕ). z * P) (mul-one m))) in
      let most : 2 * d ≤ m + 2048 =
      le_of_mul-le-mul_right {m = 2 * d} {n = m + 2048} {k = P}
      (le_trans (le_of_eq (mul_assoc 2 d P)) (le_trans (mul-le-mul_left 2 over) (le_trans (le_of_eq (mul-add 2 g (1024 * P))) (le_trans (add-le-add twice (le_of_eq (sym (mul_assoc 2 1024 P)))) (le_of_eq (sym (add-mul m 2048 P))))))) Pp in
      absurd (never d m dl (fitting binary64 false m (negsuc i) f).small most)
    where
      one-le : (i : ℕ) → 1 ≤ suc i
      one-le i = omega arith

      never : (d m : ℕ) → 2 ^ 53 ≤ d → m < 2 ^ 53 → 2 * d ≤ m + 2048 → ⊥
      never d m a b c = omega arith

rounded : (d : ℕ) → d < 2 ^ 64 → Rounded d (round binary64 false d 1)
rounded d h = go (ltb d (2 ^ 53)) (ltb→lt d (2 ^ 53)) (nltb→le d (2 ^ 53))
  where
    more : (d : ℕ) → d ≤ d + 1024
    more d = omega arith

    halves : (g n P : ℕ) → 2 * (g * 1) ≤ 2 * n + 1 * (2 * P) → g ≤ n + P
    halves g n P h = omega arith

    halves' : (g n P : ℕ) → 2 * n ≤ 2 * (g * 1) + 1 * (2 * P) → n ≤ g + P
    halves' g n P h = omega arith

    go : (b : Bool) → (T b → d < 2 ^ 53) → (T (not b) → 2 ^ 53 ≤ d) → Rounded d (round binary64 false d 1)
    go true f g = record {
      c = d;
      q = d;
      i = 0;
      is = sym (mul-one d);
      short = f tt;
      under = more d;
      over = more d;
      exact = λ (z : d < 2 ^ 53). refl;
      value = round_whole binary64 false d (le_of_lt (f tt));
    }
    go false f g =
        let P : ℕ = 2 ^ 1074 in
        let near = absolute binary64 d 1 1138 (zero-lt-suc 0) (lt_of_lt_of_le (mul-lt-mul_of_pos_right h (pow_pos 1074)) (le_of_eq (sym (pow-add 2 64 1074) ∙ sym (mul-one (2 ^ 1138))))) in
        let v = round_val binary64 d 1 (no_overflow binary64 d 1 64 (zero-lt-suc 0) (lit< tt) (le_trans (le_of_lt h) (le_of_eq (sym (mul-one (2 ^ 64)))))) in
        at d (grid binary64 d 1) P (g tt) (pow_pos 1074)
        (le_trans (halves (grid binary64 d 1) (d * P) (1024 * P) near.under) (le_of_eq (sym (add-mul d 1024 P))))
        (halves' (grid binary64 d 1) (d * P) (1024 * P) near.over)
        (round binary64 false d 1) (round-fits binary64 false d 1) v

-- ---- the unit is 2 ^ -(k + 1)
pub scaled_near : (k d : ℕ) → suc k ≤ 1074 → d < 2 ^ 64 → Scaled (suc k) d (scaled d (fin false 1 (negsuc k)))
unfolding scaled of_int
scaled_near k d h dl =
    let r = rounded d dl in
    record {
      c = r.c;
      under = r.under;
      over = r.over;
      some = some d r.c r.over r.exact;
      exact = r.exact;
      value = over_exact (round binary64 false d 1) r.c r.q r.i k r.value r.is r.short (top d r.c dl r.under) h;
    }
  where
    top : (d c : ℕ) → d < 2 ^ 64 → c ≤ d + 1024 → c ≤ 2 ^ 65
    top d c a b = omega arith

    some : (d c : ℕ) → d ≤ c + 1024 → (d < 2 ^ 53 → c ≡ d) → 0 < d → 0 < c
    some d c o e z = go (ltb d (2 ^ 53)) (ltb→lt d (2 ^ 53)) (nltb→le d (2 ^ 53))
      where
        large : (d c : ℕ) → 2 ^ 53 ≤ d → d ≤ c + 1024 → 0 < c
        large d c a b = omega arith

        go : (b : Bool) → (T b → d < 2 ^ 53) → (T (not b) → 2 ^ 53 ≤ d) → 0 < c
        go true f g = subst (λ (x : ℕ). 0 < x) (sym (e (f tt))) z
        go false f g = large d c (g tt) o

-- ---- near a fraction

pub near_neg : (k : ℕ) (v : Float) (f : Fraction) → Near k v f → Near k (neg v) (negated f)
unfolding Near neg
near_neg k nan f h = h
near_neg k (inf s) f h = h
near_neg k (fin false m e) f h = h
near_neg k (fin true m e) f h = h

-- |x - y| z-ths of q at most, q of which are at most 2 ^ -k
pub within_distance : (x y z q U k : ℕ) → 0 < q → q * 2 ^ k ≤ U → x * U ≤ y * U + q * z → y * U ≤ x * U + q * z → distance x y * 2 ^ k ≤ z
within_distance x y z q U k qp room a b =
    le_of_mul-le-mul_left {m = distance x y * 2 ^ k} {n = z} {k = q}
    (le_trans (le_of_eq (mul_left_comm q (distance x y) (2 ^ k)))
    (le_trans (mul-le-mul_left (distance x y) room)
    (le_trans (le_of_eq (add-mul (x - y) (y - x) U ∙ ap (λ (w : ℕ). w + (y - x) * U) (sub_mul x y) ∙ ap (λ (w : ℕ). x * U - y * U + w) (sub_mul y x))) (either (x * U) (y * U) (q * z) a b))))
    qp
  where
    sub_mul : (u v : ℕ) → (u - v) * U ≡ u * U - v * U
    sub_mul u v = mul_comm (u - v) U ∙ mul-sub U u v ∙ ap (λ (w : ℕ). w - U * v) (mul_comm U u) ∙ ap (λ (w : ℕ). u * U - w) (mul_comm U v)

    either : (u v w : ℕ) → u ≤ v + w → v ≤ u + w → u - v + (v - u) ≤ w
    either u v w a b = omega arith

-- the two sides, in units in which z is 1
sides : (X Y cz dz Mz Pz Ez rz : ℕ) → X ≡ cz + Mz → Y ≡ Pz → cz ≤ dz + rz → dz ≤ cz + rz → dz + Mz ≤ Pz + Ez → Pz ≤ Mz + (dz + Ez) → (X ≤ Y + (Ez + rz)) × (Y ≤ X + (Ez + rz))
sides X Y cz dz Mz Pz Ez rz a b c d e f = (omega arith, omega arith)

module _ (U c d E r : ℕ) (f : Fraction) (under : c ≤ d + r) (over : d ≤ c + r) (h : Approximates U d E f) (m' K : ℕ) (v : m' * U ≡ c * K) where
  abbrev D : ℕ
  D = f.over

  pub near_sides : ((m' * D + f.minus * K) * U ≤ f.plus * K * U + (E + r) * (D * K)) × (f.plus * K * U ≤ (m' * D + f.minus * K) * U + (E + r) * (D * K))
  near_sides =
      let z : ℕ = D * K in
      let s =
      sides ((m' * D + f.minus * K) * U) (f.plus * K * U) (c * z) (d * z) (f.minus * U * K) (f.plus * U * K) (E * z) (r * z)
      (add-mul (m' * D) (f.minus * K) U ∙ ap (λ (z : ℕ). z + f.minus * K * U) (mul_right_comm m' D U ∙ ap (λ (z : ℕ). z * D) v ∙ mul_right_comm c K D ∙ mul_assoc c D K) ∙ ap (λ (z : ℕ). c * (D * K) + z) (mul_right_comm f.minus K U))
      (mul_right_comm f.plus K U)
      (le_trans (mul-le-mul_right z under) (le_of_eq (add-mul d r z)))
      (le_trans (mul-le-mul_right z over) (le_of_eq (add-mul c r z)))
      (le_trans (le_of_eq (sym (add-mul (d * D) (f.minus * U) K ∙ ap (λ (z : ℕ). z + f.minus * U * K) (mul_assoc d D K)))) (le_trans (mul-le-mul_right K h.low) (le_of_eq (add-mul (f.plus * U) (E * D) K ∙ ap (λ (z : ℕ). f.plus * U * K + z) (mul_assoc E D K)))))
      (le_trans (mul-le-mul_right K h.high) (le_of_eq (add-mul (f.minus * U) ((d + E) * D) K ∙ ap (λ (z : ℕ). f.minus * U * K + z) (mul_assoc (d + E) D K ∙ add-mul d E z)))) in
      (subst (λ (x : ℕ). (m' * D + f.minus * K) * U ≤ f.plus * K * U + x) (sym (add-mul E r z)) s.0, subst (λ (x : ℕ). f.plus * K * U ≤ (m' * D + f.minus * K) * U + x) (sym (add-mul E r z)) s.1)

-- d units of 2 ^ -u, within E of the fraction, as a float: within 2 ^ -k of it
pub near_scaled : (k u d E : ℕ) (f : Fraction) (w : Float) → (E + 1024) * 2 ^ k ≤ 2 ^ u → Scaled u d w → Approximates (2 ^ u) d E f → Near k w f
unfolding Near
near_scaled k u d E f nan room s h = absurd s.value
near_scaled k u d E f (inf t) room s h = absurd s.value
near_scaled k u d E f (fin true m e) room s h = absurd (subst (λ (b : Bool). T b) s.value.0 tt)
near_scaled k u d E f (fin false m e) room s h =
    let g = near_sides (2 ^ u) s.c d E 1024 f s.under s.over h (m * up e) (down e) s.value.1 in
    within_distance (m * up e * f.over + f.minus * down e) (f.plus * down e) (f.over * down e) (E + 1024) (2 ^ u) k (some E) room g.0 g.1
  where
    some : (E : ℕ) → 0 < E + 1024
    some E = omega arith
