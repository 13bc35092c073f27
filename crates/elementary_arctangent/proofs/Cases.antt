-- What is promised of atan2 holds of its steps: the special cases one by one, then two finite numbers that are not 0. The code's tests come to the same.
use mathlib.Core.Path.{◌≡◌, refl, sym, ap, ◌∙◌, subst}
use mathlib.Core.Bool.{Bool, true, false, not, cond, ◌&&◌, true≢false}
use Prim.Native.Nat.{ℕ, zero, suc, ◌-◌, ◌*◌, ◌^◌, ◌≤◌, ◌<◌, zero-le}
use native.Mathlib.Nat.{le_trans, le_of_eq, lt_of_le_of_lt, lt_irrefl, zero-lt-suc, zero-mul, mul-one, mul-pos}
use native.Mathlib.Omega.{arith}
use lib.IntN.{ℤ, negsuc}
use lib.Dec.{T, eqb, eqb→eq, lt→ltb, not_T, lit<, lit≤}
use lib.Ieee.{Float, nan, inf, fin, binary64, up, down, div, eq, is_nan, fits, round, of_bits}
use lib.Ieee.Bits.{is_true, is_false, cond_no}
use lib.Ieee.Fits.{up_pos, down_pos, and_i, and_l, eq→eqb}
use lib.Ieee.Positive.{num, den, positive}
use lib.Ieee.Scale.{finite, grid}
use Rattle.ieee754.specs.Binary64.{pi, half_pi, quarter_pi, three_quarters_pi}
use Rattle.ieee754.specs.Sign.{absolute, plus_zero, sign_bit, signed}
use Rattle.elementary_fixed_point.specs.Fraction.{Fraction, negated, Near}
use Rattle.elementary_fixed_point.specs.Conversion.{scaled}
use Rattle.elementary_fixed_point.specs.Code.Bounds.{Approximates}
use Rattle.elementary_fixed_point.proofs.Approximations.{approximates_more}
use Rattle.elementary_fixed_point.proofs.ToFloat.{Scaled, scaled_near, near_neg, near_scaled}
use Rattle.elementary_arctangent.specs.Angle.{A, upper_half, quadrant}
use Rattle.elementary_arctangent.specs.Promise.{Arctangent}
use Rattle.elementary_arctangent.specs.Steps.{straight_angle, first_quadrant, regular_angle, atan2_of}
use Rattle.elementary_arctangent.specs.SpecialCases.{special}
use Rattle.elementary_arctangent.specs.Code.Tests.{is_small, upper_angle, atan2_by_tests}
use Rattle.elementary_arctangent.proofs.Tables.{straight_angle_is}
use Rattle.elementary_arctangent.proofs.AngleBound.{quadrant-le, quadrant-near, turned_le, turned_near}
use Rattle.elementary_arctangent.proofs.SmallQuotient.{zero_angle, quotient_value, quotient_near, small_below, small_upto}
use Rattle.elementary_arctangent.proofs.Range.{InRange, nonnegative_value, sign_is, range_signed, pi_range, diagonal_range, half_range, straight_is, nothing_is, scaled_upto}

-- ---- a number of units of 2 ^ -62
abbrev unit : Float
unit = fin false 1 (negsuc 61)

-- what is known of the result without its sign
record Good (left : Bool) (n d : ℕ) (w : Float) : Type 0 where
  range : InRange w
  near : Near 40 w (upper_half left n d)

below_top : (k : ℕ) → k ≤ straight_angle → k < 2 ^ 64
below_top k h = lt_of_le_of_lt (le_trans h (le_of_eq straight_angle_is)) (lit< tt)

units_good : (left : Bool) (s n d : ℕ) → cond left (straight_angle - s) s ≤ straight_angle → Approximates (2 ^ 62) (cond left (straight_angle - s) s) 1795923 (upper_half left n d) → Good left n d (scaled (cond left (straight_angle - s) s) unit)
units_good left s n d h a =
    let k : ℕ = cond left (straight_angle - s) s in
    let w : Scaled 62 k (scaled k unit) = scaled_near 61 k (lit≤ tt) (below_top k h) in
    record {
      range = record { from = nonnegative_value (scaled k unit) w.c (2 ^ 62) w.value; upto = scaled_upto k h };
      near = near_scaled 40 62 k 1795923 (upper_half left n d) (scaled k unit) (lit≤ tt) w a;
    }

-- ---- y = 0
ends : (left : Bool) → scaled (cond left (straight_angle - 0) 0) unit ≡ cond left pi plus_zero
ends true = ap (λ (z : ℕ). scaled z unit) (whole straight_angle) ∙ straight_is
  where
    whole : (z : ℕ) → z - 0 ≡ z
    whole z = omega arith
ends false = nothing_is

zero_good : (left : Bool) (n d : ℕ) → n ≡ 0 → Good left n d (cond left pi plus_zero)
zero_good left n d h =
    subst (λ (z : ℕ). Good left z d (cond left pi plus_zero)) (sym h)
    (subst (Good left 0 d) (ends left)
    (units_good left 0 0 d (turned_le left 0 zero-le) (turned_near left 0 0 d zero-le (approximates_more (2 ^ 62) 0 (2 ^ 14) 1795922 (A 0 d) (lit≤ tt) (zero_angle d)))))

-- ---- both finite and above 0
div_is : (m : ℕ) (e : ℤ) (n : ℕ) (d : ℤ) → div binary64 (fin false m e) (fin false (suc n) d) ≡ round binary64 false (m * up e * down d) (suc n * up d * down e)
unfolding div
div_is m e n d = cond_no (eqb (suc n) 0) (cond (eqb m 0) nan (inf false)) (round binary64 false (m * up e * down d) (suc n * up d * down e)) (not_T (eqb (suc n) 0) (λ t. none n (eqb→eq (suc n) 0 t)))
  where
    none : (n : ℕ) → suc n ≡ 0 → ⊥
    none n h = omega arith

module _ (m : ℕ) (e : ℤ) (n : ℕ) (d : ℤ) where
  abbrev a : Float
  a = fin false (suc m) e

  abbrev b : Float
  b = fin false (suc n) d

  abbrev N : ℕ
  N = suc m * up e * down d

  abbrev D : ℕ
  D = suc n * up d * down e

  Dp : 0 < D
  Dp = mul-pos (mul-pos (zero-lt-suc n) (up_pos d)) (down_pos e)

  module _ (fa : T (fits binary64 a)) (fb : T (fits binary64 b)) where
    pa : T (positive a)
    pa = lt→ltb 0 (suc m) (zero-lt-suc m)

    pb : T (positive b)
    pb = lt→ltb 0 (suc n) (zero-lt-suc n)

    small-good : T (is_small a b) → Good false N D (div binary64 a b)
    unfolding upper_half of_bits
    small-good t =
        let few : N * 2 ^ 16 ≤ D = small_below (suc m) e (suc n) d fa t in
        let q : Float = round binary64 false N D in
        subst (Good false N D) (sym (div_is (suc m) e n d))
        (record { range = record { from = nonnegative_value q (grid binary64 N D) (2 ^ 1074) (quotient_value N D Dp few); upto = small_upto N D Dp few }; near = quotient_near N D Dp few })

    angle-good : (left : Bool) → Good left N D (scaled (cond left (straight_angle - first_quadrant a b) (first_quadrant a b)) unit)
    angle-good left = units_good left (first_quadrant a b) N D (turned_le left (first_quadrant a b) (quadrant-le a b pa pb fa fb)) (turned_near left (first_quadrant a b) N D (quadrant-le a b pa pb fa fb) (quadrant-near a b pa pb fa fb))

    regular-good : (left : Bool) → Good left N D (regular_angle left a b)
    unfolding regular_angle of_bits
    regular-good left = go (is_small a b) left (λ (t : T (is_small a b)). small-good t)
      where
        go : (c left : Bool) → (T c → Good false N D (div binary64 a b)) → Good left N D (cond (c && not left) (div binary64 a b) (scaled (cond left (straight_angle - first_quadrant a b) (first_quadrant a b)) unit))
        go true false f = f tt
        go true true f = angle-good true
        go false left f = angle-good left

-- ---- the tests of the steps
pub zero_yes : (e : ℤ) → eq (fin false 0 e) plus_zero ≡ true
unfolding eq
zero_yes e = is_true (eqb (0 * up e * 1) (0 * 1 * down e) && true) (and_i (eqb (0 * up e * 1) (0 * 1 * down e)) true (eq→eqb (ap (λ (z : ℕ). z * 1) (zero-mul (up e)) ∙ sym (zero-mul (down e)))) tt)

pub zero_no : (m : ℕ) (e : ℤ) → eq (fin false (suc m) e) plus_zero ≡ false
unfolding eq
zero_no m e = is_false (eqb (suc m * up e * 1) (0 * 1 * down e) && true) (not_T (eqb (suc m * up e * 1) (0 * 1 * down e) && true) (λ t. none (eqb→eq (suc m * up e * 1) (0 * 1 * down e) (and_l (eqb (suc m * up e * 1) (0 * 1 * down e)) true t))))
  where
    none : suc m * up e * 1 ≡ 0 * 1 * down e → ⊥
    none h = lt_irrefl 0 (subst (λ (z : ℕ). 0 < z) (sym (mul-one (suc m * up e)) ∙ h ∙ zero-mul (down e)) (mul-pos (zero-lt-suc m) (up_pos e)))

finite_no : (m : ℕ) (e : ℤ) → eq (fin false m e) (inf false) ≡ false
unfolding eq
finite_no m e = refl

same : (b : Bool) (x : Float) → cond b x x ≡ x
same true x = refl
same false x = refl

upper_zero : (left : Bool) (e : ℤ) (b : Float) → upper_angle left (fin false 0 e) b ≡ cond left pi plus_zero
unfolding upper_angle
upper_zero left e b = simp (zero_yes e) refl

upper_far : (left : Bool) (m : ℕ) (e : ℤ) → upper_angle left (fin false m e) (inf false) ≡ cond left pi plus_zero
unfolding upper_angle eq
upper_far left m e = same (eq (fin false m e) plus_zero) (cond left pi plus_zero)

upper_high : (left : Bool) (m : ℕ) (e d : ℤ) → upper_angle left (fin false (suc m) e) (fin false 0 d) ≡ half_pi
unfolding upper_angle
upper_high left m e d = simp (zero_no m e, finite_no 0 d, finite_no (suc m) e, zero_yes d) refl

upper_regular : (left : Bool) (m : ℕ) (e : ℤ) (n : ℕ) (d : ℤ) → upper_angle left (fin false (suc m) e) (fin false (suc n) d) ≡ regular_angle left (fin false (suc m) e) (fin false (suc n) d)
unfolding upper_angle
upper_regular left m e n d = simp (zero_no m e, finite_no (suc n) d, finite_no (suc m) e, zero_no n d) refl

pub by_tests : (y x : Float) → atan2_of y x ≡ atan2_by_tests y x
unfolding atan2_of atan2_by_tests special is_nan absolute upper_angle eq
by_tests nan x = refl
by_tests (inf s) nan = refl
by_tests (fin s m e) nan = refl
by_tests (inf s) (inf true) = refl
by_tests (inf s) (inf false) = refl
by_tests (inf s) (fin t n d) = refl
by_tests (fin s m e) (inf true) = ap (signed s) (sym (upper_far true m e))
by_tests (fin s m e) (inf false) = ap (signed s) (sym (upper_far false m e))
by_tests (fin s zero e) (fin true n d) = ap (signed s) (sym (upper_zero true e (fin false n d)))
by_tests (fin s zero e) (fin false n d) = ap (signed s) (sym (upper_zero false e (fin false n d)))
by_tests (fin s (suc m) e) (fin t zero d) = ap (signed s) (sym (upper_high t m e d))
by_tests (fin s (suc m) e) (fin t (suc n) d) = ap (signed s) (sym (upper_regular t m e n d))

-- ---- the promise

-- a value in the range, with y's sign
with : (y x : Float) (w : Float) → InRange w → signed (sign_bit y) w ≡ special y x (signed (sign_bit y) w)
    → (T (finite y) → T (finite x) → 0 < num x → Near 40 w (upper_half (sign_bit x) (num y * den x) (num x * den y))) → Arctangent y x (signed (sign_bit y) w)
unfolding quadrant
with y x w r e near = record {
  standard = e;
  sign = λ h. sign_is (sign_bit y) w r.from;
  bounded = λ h. range_signed (sign_bit y) w r;
  near = λ p q z. go (sign_bit y) (near p q z);
}
  where
    f : Fraction
    f = upper_half (sign_bit x) (num y * den x) (num x * den y)

    go : (s : Bool) → Near 40 w f → Near 40 (signed s w) (cond s (negated f) f)
    go true h = near_neg 40 w f h
    go false h = h

nothing : (y x : Float) → nan ≡ special y x nan → (T (finite y) → T (finite x) → ⊥) → Arctangent y x nan
unfolding is_nan
nothing y x e never = record {
  standard = e;
  sign = λ h. absurd h;
  bounded = λ h. absurd h;
  near = λ p q z. absurd (never p q);
}

finite_case : (s : Bool) (m : ℕ) (e : ℤ) (t : Bool) (n : ℕ) (d : ℤ) → T (fits binary64 (fin s m e)) → T (fits binary64 (fin t n d)) → Arctangent (fin s m e) (fin t n d) (atan2_of (fin s m e) (fin t n d))
unfolding atan2_of special absolute fits
finite_case s zero e t n d fa fb = go t
  where
    near : (t : Bool) → T true → T true → 0 < n * up d → Near 40 (cond t pi plus_zero) (upper_half t (0 * up e * down d) (n * up d * down e))
    near t p q z = (zero_good t (0 * up e * down d) (n * up d * down e) (ap (λ (k : ℕ). k * down d) (zero-mul (up e)) ∙ zero-mul (down d))).near

    go : (t : Bool) → Arctangent (fin s 0 e) (fin t n d) (atan2_of (fin s 0 e) (fin t n d))
    go true = with (fin s 0 e) (fin true n d) pi (pi_range true) refl (near true)
    go false = with (fin s 0 e) (fin false n d) plus_zero (pi_range false) refl (near false)
finite_case s (suc m) e t zero d fa fb = with (fin s (suc m) e) (fin t 0 d) half_pi half_range refl (λ p q z. absurd (lt_irrefl 0 (subst (λ (k : ℕ). 0 < k) (zero-mul (up d)) z)))
finite_case s (suc m) e t (suc n) d fa fb =
    let g = regular-good m e n d fa fb t in
    with (fin s (suc m) e) (fin t (suc n) d) (regular_angle t (fin false (suc m) e) (fin false (suc n) d)) g.range refl (λ p q z. g.near)

pub promise_holds : (y x : Float) → T (fits binary64 y) → T (fits binary64 x) → Arctangent y x (atan2_of y x)
unfolding atan2_of special
promise_holds nan x fy fx = nothing nan x refl (λ p q. p)
promise_holds (inf s) nan fy fx = nothing (inf s) nan refl (λ p q. p)
promise_holds (fin s m e) nan fy fx = nothing (fin s m e) nan refl (λ p q. q)
promise_holds (inf s) (inf true) fy fx = with (inf s) (inf true) three_quarters_pi (diagonal_range true) refl (λ p q z. absurd p)
promise_holds (inf s) (inf false) fy fx = with (inf s) (inf false) quarter_pi (diagonal_range false) refl (λ p q z. absurd p)
promise_holds (inf s) (fin t n d) fy fx = with (inf s) (fin t n d) half_pi half_range refl (λ p q z. absurd p)
promise_holds (fin s m e) (inf true) fy fx = with (fin s m e) (inf true) pi (pi_range true) refl (λ p q z. absurd q)
promise_holds (fin s m e) (inf false) fy fx = with (fin s m e) (inf false) plus_zero (pi_range false) refl (λ p q z. absurd q)
promise_holds (fin s m e) (fin t n d) fy fx = finite_case s m e t n d fy fx

-- ---- what the code asks
pub positive_of : (a : Float) → T (not (is_nan a)) → sign_bit a ≡ false → eq a plus_zero ≡ false → eq a (inf false) ≡ false → T (positive a)
unfolding eq is_nan
positive_of nan n s z i = absurd n
positive_of (inf true) n s z i = absurd (true≢false s)
positive_of (inf false) n s z i = absurd (true≢false i)
positive_of (fin true m e) n s z i = absurd (true≢false s)
positive_of (fin false zero e) n s z i = absurd (true≢false (sym (zero_yes e) ∙ z))
positive_of (fin false (suc m) e) n s z i = lt→ltb 0 (suc m) (zero-lt-suc m)
