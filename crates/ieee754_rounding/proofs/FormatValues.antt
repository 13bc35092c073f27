-- The finite values of a format: each is a whole number of its smallest value with at most `prec` digits before the zeros, rounds to itself, and
-- lies between the largest and its opposite; below a value there is a next one. For any format. Assumes nothing.
use mathlib.Core.Path.{◌≡◌, refl, sym, ap, ◌∙◌}
use mathlib.Core.Logic.{inl, inr}
use mathlib.Core.Bool.{Bool, true, false, not, ◌&&◌, true≢false}
use Prim.Native.Nat.{ℕ, zero, suc, ◌+◌, ◌-◌, ◌*◌, ◌%◌, ◌^◌, ◌≤◌, ◌<◌}
use native.Mathlib.Nat.{le_trans, le_of_eq, le_of_lt, lt_of_le_of_lt, lt_of_lt_of_le, lt_of_not-le, not-le_of_lt, lt_of_mul-lt-mul_right, mul-lt-mul_of_pos_right, mul_assoc, mul_comm, mul_right_comm, mul-one, one-mul, zero-mul, mul-pos, mul-le-mul, mul-le-mul_left, mul-le-mul_right, le_of_mul-le-mul_right, eq_of_mul-eq-mul_right}
use native.Mathlib.Omega.{arith}
use lib.IntN.{ℤ, pos, negsuc}
use lib.Dec.{T, ltb, leb, eqb, ltb→lt, leb→le, eqb→eq}
use lib.Pow.{pow-add, pow_pos, pow_mono, pow-lt}
use lib.Ieee.{Float, nan, inf, fin, Format, prec, emax, low, up, down, neg, lt, le, is_nan, round, fits}
use lib.Ieee.Fits.{and_l, and_r, up_pos, down_pos, reach, two, two-le_pos}
use lib.Ieee.Exact.{HasValue, round_exact}
use lib.Ieee.Order.{le_of_values}
use lib.Ieee.Scale.{finite, overflow}
use Rattle.ieee754_rounding.proofs.Comparison.{lt_or_le}
use Rattle.ieee754_rounding.proofs.FloatOrder.{over, under, le_of, lowest, highest, right_number, lt_not_le}
use Rattle.ieee754_rounding.proofs.FloatOrder as FloatOrder

-- ---- what `fits` says, whatever the sign

pub record Fitting (f : Format) (m : ℕ) (e : ℤ) : Type 0 where
  pub small : m < 2 ^ prec f
  pub deep : down e ≤ 2 ^ low f
  pub below_top : m * up e < 2 ^ suc (emax f) * down e

pub fitting : (f : Format) (s : Bool) (m : ℕ) (e : ℤ) → T (fits f (fin s m e)) → Fitting f m e
unfolding fits
fitting f s zero e t =
    record {
      small = pow_pos (prec f);
      deep = le_trans (one_of (up e) (down e) (eqb→eq (up e * down e) 1 t) (up_pos e)) (pow_pos (low f));
      below_top = lt_of_le_of_lt (le_of_eq (zero-mul (up e))) (mul-pos (pow_pos (suc (emax f))) (down_pos e));
    }
  where
    one_of : (u d : ℕ) → u * d ≡ 1 → 0 < u → d ≤ 1
    one_of u d h p = le_trans (le_of_eq (sym (one-mul d))) (le_trans (mul-le-mul_right d p) (le_of_eq h))
fitting f s (suc m) e t =
    let a : Bool = eqb (suc m % 2) 1 in
    let b : Bool = ltb (suc m) (2 ^ prec f) in
    let c : Bool = leb (down e) (2 ^ low f) in
    let d : Bool = ltb (suc m * up e) (2 ^ suc (emax f) * down e) in
    record {
      small = ltb→lt (suc m) (2 ^ prec f) (and_r a b (and_l (a && b) c (and_l (a && b && c) d t)));
      deep = leb→le (down e) (2 ^ low f) (and_r (a && b) c (and_l (a && b && c) d t));
      below_top = ltb→lt (suc m * up e) (2 ^ suc (emax f) * down e) (and_r (a && b && c) d t);
    }

-- the sign is of no account to what fits
pub fits_unsigned : (f : Format) (s : Bool) (m : ℕ) (e : ℤ) → T (fits f (fin s m e)) → T (fits f (fin false m e))
unfolding fits
fits_unsigned f s zero e t = t
fits_unsigned f s (suc m) e t = t

-- ---- a value in units, that is, in smallest values of the format

-- n / d is below 2 ^ (emax + 1), and is u units
pub under_top : (f : Format) (u n d : ℕ) → u * d ≡ n * 2 ^ low f → n < 2 ^ suc (emax f) * d → u < overflow f
under_top f u n d is h =
    lt_of_lt_of_le
    (lt_of_mul-lt-mul_right d (lt_of_le_of_lt (le_of_eq is) (lt_of_lt_of_le (mul-lt-mul_of_pos_right h (pow_pos (low f))) (le_of_eq (mul_right_comm (2 ^ suc (emax f)) d (2 ^ low f))))))
    (le_of_eq (mul_comm (2 ^ suc (emax f)) (2 ^ low f) ∙ sym (pow-add 2 (low f) (suc (emax f)))))

-- m * 2 ^ e is m * 2 ^ places units
pub record Grid (f : Format) (m : ℕ) (e : ℤ) : Type 0 where
  pub places : ℕ
  pub small : m < 2 ^ prec f
  pub is : m * up e * 2 ^ low f ≡ m * 2 ^ places * down e
  pub fine : m * 2 ^ places < overflow f

few : (k l : ℕ) → 2 ^ suc k ≤ 2 ^ l → suc k ≤ l
few k l h = trim k l (lt_of_not-le (λ (g : suc l ≤ suc k). not-le_of_lt (pow-lt {i = l} {j = suc k} g) h))
  where
    trim : (k l : ℕ) → suc k < suc l → suc k ≤ l
    trim k l h = omega arith

back : (j k : ℕ) → k ≤ j → j ≡ j - k + k
back j k h = omega arith

-- 2 ^ j of which 2 ^ k is taken out
pub split_power : (m j k : ℕ) → k ≤ j → m * 2 ^ j ≡ m * 2 ^ (j - k) * 2 ^ k
split_power m j k h = ap (λ (z : ℕ). m * 2 ^ z) (back j k h) ∙ ap (λ (z : ℕ). m * z) (pow-add 2 (j - k) k) ∙ sym (mul_assoc m (2 ^ (j - k)) (2 ^ k))

places_of : (m l : ℕ) (e : ℤ) → down e ≤ 2 ^ l → (j : ℕ) × (m * up e * 2 ^ l ≡ m * 2 ^ j * down e)
places_of m l (pos k) h = (k + l, mul_assoc m (2 ^ k) (2 ^ l) ∙ ap (λ (z : ℕ). m * z) (sym (pow-add 2 k l)) ∙ sym (mul-one (m * 2 ^ (k + l))))
places_of m l (negsuc k) h = (l - suc k, ap (λ (z : ℕ). z * 2 ^ l) (mul-one m) ∙ split_power m l (suc k) (few k l h))

pub grid_of : (f : Format) (s : Bool) (m : ℕ) (e : ℤ) → T (fits f (fin s m e)) → Grid f m e
grid_of f s m e t =
    let g = fitting f s m e t in
    let p = places_of m (low f) e g.deep in
    record { places = p.0; small = g.small; is = p.1; fine = under_top f (m * 2 ^ p.0) (m * up e) (down e) (sym p.1) g.below_top }

-- from one fraction to another of the same size
pub rescale : (x : Float) (s : Bool) (w l num den : ℕ) → 0 < l → num * l ≡ w * den → HasValue x s w l → HasValue x s num den
rescale nan s w l num den p h v = v
rescale (inf t) s w l num den p h v = v
rescale (fin t m e) s w l num den p h v = (
  v.0,
  eq_of_mul-eq-mul_right l p (m * up e * den) (num * down e)
      (mul_right_comm (m * up e) den l ∙ ap (λ (x : ℕ). x * den) v.1 ∙ mul_right_comm w (down e) den ∙ ap (λ (x : ℕ). x * down e) (sym h) ∙ mul_right_comm num l (down e)),
)

-- rounded it is itself
pub own_value : (f : Format) (s : Bool) (m : ℕ) (e : ℤ) → T (fits f (fin s m e)) → HasValue (round f s (m * up e) (down e)) s (m * up e) (down e)
own_value f s m e t =
    let g = grid_of f s m e t in
    round_exact f s (m * up e) (down e) m g.places (down_pos e) g.small g.fine g.is

-- ---- the largest
abbrev pub largest : Format → Float
largest f = fin false (2 ^ prec f - 1) (pos (suc (emax f) - prec f))

less : (a b : ℕ) → a < b → a ≤ b - 1
less a b h = omega arith

capped : (m j p k : ℕ) → m < 2 ^ p → m * 2 ^ j < 2 ^ p * 2 ^ k → m * 2 ^ j ≤ (2 ^ p - 1) * 2 ^ k
capped m j p k h l = elim (lt_or_le j k) [
  | inl a ↦ mul-le-mul (less m (2 ^ p) h) (pow_mono (le_of_lt a))
  | inr a ↦
      let e = split_power m j k a in
      le_trans (le_of_eq e) (mul-le-mul_right (2 ^ k) (less (m * 2 ^ (j - k)) (2 ^ p) (lt_of_mul-lt-mul_right (2 ^ k) (lt_of_le_of_lt (le_of_eq (sym e)) l))))
]

size_most : (f : Format) (s : Bool) (m : ℕ) (e : ℤ) → T (fits f (fin s m e)) → m * up e ≤ (2 ^ prec f - 1) * 2 ^ (suc (emax f) - prec f) * down e
size_most f s m e t =
    let g = grid_of f s m e t in
    let k = suc (emax f) - prec f in
    let K = k + low f in
    let top : overflow f ≡ 2 ^ prec f * 2 ^ K = ap (λ (z : ℕ). 2 ^ z) (total (low f) (suc (emax f)) (prec f) (reach f)) ∙ pow-add 2 (prec f) K in
    let c : m * 2 ^ g.places ≤ (2 ^ prec f - 1) * 2 ^ K = capped m g.places (prec f) K g.small (lt_of_lt_of_le g.fine (le_of_eq top)) in
    le_of_mul-le-mul_right
    (le_trans (le_of_eq g.is)
    (le_trans (mul-le-mul_right (down e) c)
    (le_of_eq (ap (λ (z : ℕ). (2 ^ prec f - 1) * z * down e) (pow-add 2 k (low f)) ∙ turn (2 ^ prec f - 1) (2 ^ k) (2 ^ low f) (down e)))))
    (pow_pos (low f))
  where
    total : (l s p : ℕ) → p ≤ s → l + s ≡ p + (s - p + l)
    total l s p h = omega arith

    turn : (a b c d : ℕ) → a * (b * c) * d ≡ a * b * d * c
    turn a b c d = omega arith

pub at_most_largest : (f : Format) (x : Float) → T (fits f x) → T (finite x) → T (le x (largest f))
at_most_largest f nan t p = absurd p
at_most_largest f (inf s) t p = absurd p
at_most_largest f (fin s m e) t p =
    le_of s m e false (2 ^ prec f - 1) (pos (suc (emax f) - prec f)) (signs s (m * up e) (down e) ((2 ^ prec f - 1) * 2 ^ (suc (emax f) - prec f)) (size_most f s m e t))
  where
    signs : (s : Bool) (a d b : ℕ) → a ≤ b * d → over s a * 1 + 0 * d ≤ b * d + under s a * 1
    signs true a d b h = omega arith
    signs false a d b h = omega arith

pub at_least_largest : (f : Format) (x : Float) → T (fits f x) → T (finite x) → T (le (neg (largest f)) x)
unfolding neg
at_least_largest f nan t p = absurd p
at_least_largest f (inf s) t p = absurd p
at_least_largest f (fin s m e) t p =
    le_of true (2 ^ prec f - 1) (pos (suc (emax f) - prec f)) s m e (signs s (m * up e) (down e) ((2 ^ prec f - 1) * 2 ^ (suc (emax f) - prec f)) (size_most f s m e t))
  where
    signs : (s : Bool) (a d b : ℕ) → a ≤ b * d → 0 * d + under s a * 1 ≤ over s a * 1 + b * d
    signs true a d b h = omega arith
    signs false a d b h = omega arith

-- ---- the next value down: from n units of 2 ^ i, n having `prec` digits and not being the least such, it is n - 1 of them

-- p digits at smaller places are less than the least number of p digits
pub fewer_places : (p i j : ℕ) → 0 < p → j < i → 2 ^ p * 2 ^ j ≤ 2 ^ (p - 1) * 2 ^ i
fewer_places p i j P a = le_trans (mul-le-mul_left (2 ^ p) (pow_mono (less j i a))) (le_of_eq (sym (pow-add 2 p (i - 1)) ∙ ap (λ (z : ℕ). 2 ^ z) (moved p i j P a) ∙ pow-add 2 (p - 1) i))
  where
    moved : (p i j : ℕ) → 0 < p → j < i → p + (i - 1) ≡ p - 1 + i
    moved p i j P h = omega arith

next_down : (p m j n i : ℕ) → 0 < p → m < 2 ^ p → 2 ^ (p - 1) < n → m * 2 ^ j < n * 2 ^ i → m * 2 ^ j ≤ (n - 1) * 2 ^ i
next_down p m j n i P small big h = elim (lt_or_le j i) [
  | inl a ↦ le_trans (mul-le-mul_right (2 ^ j) (le_of_lt small)) (le_trans (fewer_places p i j P a) (mul-le-mul_right (2 ^ i) (less (2 ^ (p - 1)) n big)))
  | inr a ↦
      let e = split_power m j i a in
      le_trans (le_of_eq e) (mul-le-mul_right (2 ^ i) (less (m * 2 ^ (j - i)) n (lt_of_mul-lt-mul_right (2 ^ i) (lt_of_le_of_lt (le_of_eq (sym e)) h))))
]

value_number : (x : Float) (a c : ℕ) → HasValue x false a c → T (not (is_nan x)) × T (le (fin false 0 (pos 0)) x)
value_number x a c v = (right_number (fin false 0 (pos 0)) x (not_negative x v), not_negative x v)
  where
    not_negative : (x : Float) → HasValue x false a c → T (le (fin false 0 (pos 0)) x)
    not_negative nan v = absurd v
    not_negative (inf s) v = absurd v
    not_negative (fin true m e) v = absurd (true≢false v.0)
    not_negative (fin false m e) v = le_of false 0 (pos 0) false m e (least (m * up e) (down e))
      where
        least : (a d : ℕ) → 0 * 1 * d + 0 * 1 ≤ a * 1 + 0 * d
        least a d = omega arith

-- a value of the format below x is at most the next one down, x'
pub before_next : (f : Format) (y x x' : Float) (n i : ℕ) → T (fits f y) → 2 ^ (prec f - 1) < n → HasValue x false (n * 2 ^ i) (2 ^ low f) → HasValue x' false ((n - 1) * 2 ^ i) (2 ^ low f)
    → T (lt y x) → T (le y x')
before_next f nan x x' n i t big v v' h = absurd (unfold lt in h)
before_next f (inf true) x x' n i t big v v' h = lowest x' (value_number x' ((n - 1) * 2 ^ i) (2 ^ low f) v').0
before_next f (inf false) x x' n i t big v v' h = absurd (lt_not_le (inf false) x h (highest x (value_number x (n * 2 ^ i) (2 ^ low f) v).0))
before_next f (fin true m e) x x' n i t big v v' h =
    FloatOrder.le_trans (fin true m e) (fin false 0 (pos 0)) x' (le_of true m e false 0 (pos 0) (least (m * up e) (down e))) (value_number x' ((n - 1) * 2 ^ i) (2 ^ low f) v').1
  where
    least : (a d : ℕ) → 0 * 1 + 0 * d ≤ 0 * 1 * d + a * 1
    least a d = omega arith
before_next f (fin false m e) x x' n i t big v v' h =
    let g = grid_of f false m e t in
    let l = 2 ^ low f in
    let w : HasValue (fin false m e) false (m * 2 ^ g.places) l = (refl, g.is) in
    elim (lt_or_le (m * 2 ^ g.places) (n * 2 ^ i)) [
      | inl a ↦
          le_of_values (fin false m e) x' (m * 2 ^ g.places) l ((n - 1) * 2 ^ i) l (pow_pos (low f)) (pow_pos (low f)) w v'
          (mul-le-mul_right l (next_down (prec f) m g.places n i (two-le_pos (prec f) (two f)) g.small big a))
      | inr a ↦ absurd (lt_not_le (fin false m e) x h (le_of_values x (fin false m e) (n * 2 ^ i) l (m * 2 ^ g.places) l (pow_pos (low f)) (pow_pos (low f)) v w (mul-le-mul_right l a)))
    ]
