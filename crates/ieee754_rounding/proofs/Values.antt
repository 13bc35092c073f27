-- A finite value as a difference of whole numbers of units, and the same by sign and size. For any format. Assumes nothing.
use mathlib.Core.Path.{◌≡◌, refl, sym, ap}
use mathlib.Core.Bool.{Bool, true, false, cond, true≢false}
use Prim.Native.Nat.{ℕ, ◌+◌, ◌-◌, ◌*◌, ◌^◌, ◌≤◌}
use native.Mathlib.Nat.{le_of_mul-le-mul_right, add-mul}
use native.Mathlib.Omega.{arith}
use lib.Ieee.{Float, nan, inf, fin, Format, low, up, down, neg}
use lib.Ieee.Fits.{down_pos}
use lib.Ieee.Exact.{HasValue}
use Rattle.ieee754_rounding.specs.Code.Errors.{Val}

-- ---- the same by sign and size
pub record Sized (f : Format) (x : Float) (p q : ℕ) : Type 0 where
  pub sign : Bool
  pub size : ℕ
  pub val : HasValue x sign size (2 ^ low f)
  pub is : cond sign q p ≡ cond sign p q + size

pub sized : (f : Format) (x : Float) (p q : ℕ) → Val f x p q → Sized f x p q
sized f nan p q v = absurd v
sized f (inf s) p q v = absurd v
sized f (fin false m e) p q v =
    let h : q ≤ p = le_of_mul-le-mul_right (part (m * up e * 2 ^ low f) (q * down e) (p * down e) v) (down_pos e) in
    record { sign = false; size = p - q; val = (refl, taken (m * up e * 2 ^ low f) q p (down e) v h); is = back q p h }
  where
    part : (a b c : ℕ) → a + b ≡ c → b ≤ c
    part a b c e = omega arith

    back : (a b : ℕ) → a ≤ b → b ≡ a + (b - a)
    back a b h = omega arith

    taken : (a q p d : ℕ) → a + q * d ≡ p * d → q ≤ p → a ≡ (p - q) * d
    taken a q p d e h =
        let g : (q + (p - q)) * d ≡ q * d + (p - q) * d = add-mul q (p - q) d in
        let k : (q + (p - q)) * d ≡ p * d = ap (λ (z : ℕ). z * d) (sym (back q p h)) in
        omega arith
sized f (fin true m e) p q v =
    let h : p ≤ q = le_of_mul-le-mul_right (part (m * up e * 2 ^ low f) (p * down e) (q * down e) v) (down_pos e) in
    record { sign = true; size = q - p; val = (refl, taken (m * up e * 2 ^ low f) p q (down e) v h); is = back p q h }
  where
    part : (a b c : ℕ) → a + b ≡ c → b ≤ c
    part a b c e = omega arith

    back : (a b : ℕ) → a ≤ b → b ≡ a + (b - a)
    back a b h = omega arith

    taken : (a q p d : ℕ) → a + q * d ≡ p * d → q ≤ p → a ≡ (p - q) * d
    taken a q p d e h =
        let g : (q + (p - q)) * d ≡ q * d + (p - q) * d = add-mul q (p - q) d in
        let k : (q + (p - q)) * d ≡ p * d = ap (λ (z : ℕ). z * d) (sym (back q p h)) in
        omega arith

pub plain : (f : Format) (x : Float) (s : Bool) (g : ℕ) → HasValue x s g (2 ^ low f) → Val f x (cond s 0 g) (cond s g 0)
plain f nan s g v = v
plain f (inf t) s g v = v
plain f (fin true m e) true g v = zero_more (m * up e * 2 ^ low f) (down e) (g * down e) v.1
  where
    zero_more : (a d b : ℕ) → a ≡ b → a + 0 * d ≡ b
    zero_more a d b e = omega arith
plain f (fin true m e) false g v = absurd (true≢false v.0)
plain f (fin false m e) true g v = absurd (true≢false (sym v.0))
plain f (fin false m e) false g v = zero_more (m * up e * 2 ^ low f) (down e) (g * down e) v.1
  where
    zero_more : (a d b : ℕ) → a ≡ b → a + 0 * d ≡ b
    zero_more a d b e = omega arith

-- ---- the sign changed
pub neg_val : (f : Format) (x : Float) (p q : ℕ) → Val f x p q → Val f (neg x) q p
unfolding neg
neg_val f nan p q v = v
neg_val f (inf s) p q v = v
neg_val f (fin true m e) p q v = v
neg_val f (fin false m e) p q v = v
