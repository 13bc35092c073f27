-- A float from 0 to the f64 nearest π: with a sign it has this sign, and lies between -π and π.
use mathlib.Core.Path.{◌≡◌, refl, sym, ap, subst}
use mathlib.Core.Bool.{Bool, true, false, not, cond, ◌&&◌, ◌||◌}
use Prim.Native.Nat.{ℕ, ◌+◌, ◌*◌, ◌^◌, ◌≤◌, ◌<◌}
use native.Mathlib.Omega.{arith}
use lib.IntN.{negsuc}
use lib.Dec.{T, ltb, eqb, lt→ltb, nltb→le}
use lib.Count.{count_trailing_zeros}
use lib.Ieee.{Float, nan, inf, fin, binary64, up, down, span, climb, size, odd, units, round, mul, neg, lt, le, eq, of_int, of_bits}
use lib.Ieee.Fits.{down_pos, and_i, eq→eqb}
use lib.Ieee.Exact.{HasValue}
use Rattle.ieee754.specs.Binary64.{pi, half_pi, quarter_pi, three_quarters_pi}
use Rattle.ieee754.specs.Sign.{plus_zero, sign_bit, signed}
use Rattle.elementary_fixed_point.specs.Conversion.{scaled}
use Rattle.elementary_fixed_point.specs.Code.Bounds.{nonnegative}
use Rattle.elementary_fixed_point.proofs.ToFloat.{scaled_mono}
use Rattle.elementary_arctangent.specs.Steps.{straight_angle}
use Rattle.elementary_arctangent.proofs.Tables.{straight_angle_is}
use Rattle.elementary_arctangent.proofs.Doubling.{either}

pub record InRange (w : Float) : Type 0 where
  pub from : T (nonnegative w)
  pub upto : T (le w pi)

pub nonnegative_value : (w : Float) (c k : ℕ) → HasValue w false c k → T (nonnegative w)
nonnegative_value nan c k v = absurd v
nonnegative_value (inf s) c k v = absurd v
nonnegative_value (fin true m e) c k v = absurd (subst (λ (b : Bool). T b) v.0 tt)
nonnegative_value (fin false m e) c k v = tt

pub sign_is : (s : Bool) (w : Float) → T (nonnegative w) → sign_bit (signed s w) ≡ s
unfolding neg
sign_is s nan h = absurd h
sign_is s (inf t) h = absurd h
sign_is s (fin true m e) h = absurd h
sign_is true (fin false m e) h = refl
sign_is false (fin false m e) h = refl

-- ---- π is 884279719003555 / 2 ^ 48
upto_fin : (x y : ℕ) → x ≤ y → T (ltb x y || (eqb x y && true)) × T (ltb x y || (eqb y x && true))
upto_fin x y h = go (ltb x y) (nltb→le x y)
  where
    antisym : (x y : ℕ) → x ≤ y → y ≤ x → x ≡ y
    antisym x y h k = omega arith

    go : (b : Bool) → (T (not b) → y ≤ x) → T (b || (eqb x y && true)) × T (b || (eqb y x && true))
    go true f = (tt, tt)
    go false f = (and_i (eqb x y) true (eq→eqb (antisym x y h (f tt))) tt, and_i (eqb y x) true (eq→eqb (sym (antisym x y h (f tt)))) tt)

or_left : (a b : Bool) → T a → T (a || b)
or_left true b t = tt
or_left false b t = absurd t

positive_sum : (x k : ℕ) → 0 < k → T (ltb 0 (x + 884279719003555 * 1 * k)) × T (ltb 0 (884279719003555 * 1 * k + x))
positive_sum x k h = (lt→ltb 0 (x + 884279719003555 * 1 * k) (go x k h), lt→ltb 0 (884279719003555 * 1 * k + x) (back x k h))
  where
    go : (x k : ℕ) → 0 < k → 0 < x + 884279719003555 * 1 * k
    go x k h = omega arith

    back : (x k : ℕ) → 0 < k → 0 < 884279719003555 * 1 * k + x
    back x k h = omega arith

pub range_signed : (s : Bool) (w : Float) → InRange w → T (le (neg pi) (signed s w) && le (signed s w) pi)
unfolding neg le lt eq of_bits
range_signed s nan h = absurd h.from
range_signed s (inf t) h = absurd h.from
range_signed s (fin true m e) h = absurd h.from
range_signed true (fin false m e) h =
    let x : ℕ = m * up e * 2 ^ 48 in
    let y : ℕ = 884279719003555 * 1 * down e in
    and_i (ltb x y || (eqb y x && true)) (ltb 0 (x + y) || eq (fin true m e) (fin false 884279719003555 (negsuc 47)))
    (upto_fin x y (either x y h.upto)).1
    (or_left (ltb 0 (x + y)) (eq (fin true m e) (fin false 884279719003555 (negsuc 47))) (positive_sum x (down e) (down_pos e)).0)
range_signed false (fin false m e) h =
    let x : ℕ = m * up e * 2 ^ 48 in
    let y : ℕ = 884279719003555 * 1 * down e in
    and_i (ltb 0 (y + x) || eq (fin true 884279719003555 (negsuc 47)) (fin false m e)) (ltb x y || (eqb x y && true))
    (or_left (ltb 0 (y + x)) (eq (fin true 884279719003555 (negsuc 47)) (fin false m e)) (positive_sum x (down e) (down_pos e)).1)
    (upto_fin x y (either x y h.upto)).0

-- ---- the constants
pub pi_range : (left : Bool) → InRange (cond left pi plus_zero)
unfolding le lt eq of_bits
pi_range true = record { from = tt; upto = tt }
pi_range false = record { from = tt; upto = tt }

pub diagonal_range : (left : Bool) → InRange (cond left three_quarters_pi quarter_pi)
unfolding le lt eq of_bits
diagonal_range true = record { from = tt; upto = tt }
diagonal_range false = record { from = tt; upto = tt }

pub half_range : InRange half_pi
unfolding le lt eq of_bits
half_range = record { from = tt; upto = tt }

-- ---- a number of units of 2 ^ -62
abbrev unit : Float
unit = fin false 1 (negsuc 61)

pub straight_is : scaled straight_angle unit ≡ pi
unfolding scaled of_int mul round size span climb units odd count_trailing_zeros of_bits
straight_is = ap (λ (z : ℕ). mul binary64 (round binary64 false z 1) unit) straight_angle_is

pub nothing_is : scaled 0 unit ≡ plus_zero
unfolding scaled of_int mul round size span climb units odd count_trailing_zeros
nothing_is = refl

pub scaled_upto : (d : ℕ) → d ≤ straight_angle → T (le (scaled d unit) pi)
scaled_upto d h = subst (λ (z : Float). T (le (scaled d unit) z)) straight_is (scaled_mono 61 d straight_angle h (subst (λ (z : ℕ). z < 2 ^ 64) (sym straight_angle_is) (lib.Dec.lit< tt)))
