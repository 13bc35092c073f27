-- A sum keeps the order of its first term: x + z and x - z, rounded, grow with x, in either format, subnormal results and overflow included.
-- Assumes nothing.
use mathlib.Core.Path.{◌≡◌, refl, sym, ap, subst}
use mathlib.Core.Bool.{Bool, true, false, not, ◌&&◌, cond}
use Prim.Native.Nat.{ℕ, zero, suc, ◌+◌, ◌-◌, ◌*◌, ◌^◌, ◌≤◌, ◌<◌}
use native.Mathlib.Nat.{le_refl, mul-pos, mul-le-mul_right}
use native.Mathlib.Omega.{arith}
use lib.IntN.{ℤ, pos}
use borrow.Author.Tests.{le-ltb}
use lib.Dec.{T, ltb, ltb→lt, nltb→le}
use lib.Ieee.{Float, nan, inf, fin, Format, prec, low, emax, up, down, neg, le, lt, eq, is_nan, odd, units, round, sum, add, sub}
use lib.Ieee.Fits.{down_pos, round_is}
use lib.Ieee.Order.{drop, kept, round_mono}
use lib.Ieee.Scale.{finite}
use Rattle.ieee754_rounding.proofs.FloatOrder.{over, under, of_le, lowest, highest, above_highest, below_lowest, left_number, right_number, neg_le, le_trans}
use Rattle.ieee754_rounding.proofs.Opposites.{neg_round, round_zero}

-- ---- a rounded fraction is no NaN
odd_number : (d : ℕ) (s : Bool) (q k l : ℕ) → T (not (is_nan (odd d s q k l)))
unfolding odd is_nan
odd_number d s zero k l = tt
odd_number d s (suc q) k l = tt

units_number : (f : Format) (s : Bool) (q k : ℕ) → T (not (is_nan (units f s q k)))
unfolding units is_nan
units_number f s q k = go (ltb (q * 2 ^ k) (2 ^ (low f + suc (emax f))))
  where
    go : (b : Bool) → T (not (is_nan (cond b (odd (suc (prec f)) s q k (low f)) (inf s))))
    go true = odd_number (suc (prec f)) s q k (low f)
    go false = tt

round_number : (f : Format) (s : Bool) (a c : ℕ) → T (not (is_nan (round f s a c)))
round_number f s a c =
    subst (λ (z : Float). T (not (is_nan z))) (sym (round_is f s a c)) (units_number f s (kept (prec f) (a * 2 ^ low f) c) (drop (prec f) (a * 2 ^ low f) c))

-- ---- both signs
pub round_above : (f : Format) (a c : ℕ) → 0 < c → T (le (fin false 0 (pos 0)) (round f false a c))
round_above f a c C = subst (λ (z : Float). T (le z (round f false a c))) (round_zero f false c C) (round_mono f 0 c a c C C (small a c))
  where
    small : (a c : ℕ) → 0 * c ≤ a * c
    small a c = omega arith

round_below : (f : Format) (a c : ℕ) → 0 < c → T (le (round f true a c) (fin true 0 (pos 0)))
unfolding neg
round_below f a c C = subst (λ (z : Float). T (le z (fin true 0 (pos 0)))) (neg_round f false a c) (neg_le (fin false 0 (pos 0)) (round f false a c) (round_above f a c C))

round_mono_minus : (f : Format) (a b c d : ℕ) → 0 < b → 0 < d → c * b ≤ a * d → T (le (round f true a b) (round f true c d))
round_mono_minus f a b c d B D h =
    subst (λ (z : Float). T (le z (round f true c d))) (neg_round f false a b)
    (subst (λ (z : Float). T (le (neg (round f false a b)) z)) (neg_round f false c d) (neg_le (round f false c d) (round f false a b) (round_mono f c d a b D B h)))

zeros : (s t : Bool) → T (le (fin s 0 (pos 0)) (fin t 0 (pos 0)))
unfolding le lt eq
zeros true true = tt
zeros true false = tt
zeros false true = tt
zeros false false = tt

-- z is (p - q) / c, rounded once
record Rounded (f : Format) (z : Float) (p q c : ℕ) : Type 0 where
  sign : Bool
  size : ℕ
  is : z ≡ round f sign size c
  by : cond sign q p ≡ cond sign p q + size

rounded_mono : (f : Format) (x y : Float) (p q c p' q' c' : ℕ) → 0 < c → 0 < c' → Rounded f x p q c → Rounded f y p' q' c'
    → p * c' + q' * c ≤ p' * c + q * c' → T (le x y)
rounded_mono f x y p q c p' q' c' C C' r r' h =
    subst (λ (z : Float). T (le z y)) (sym r.is)
    (subst (λ (z : Float). T (le (round f r.sign r.size c) z)) (sym r'.is) (go r.sign r'.sign r.size r'.size r.by r'.by))
  where
    both : (p q c p' q' c' n n' : ℕ) → p ≡ q + n → p' ≡ q' + n' → p * c' + q' * c ≤ p' * c + q * c' → n * c' ≤ n' * c
    both p q c p' q' c' n n' e e' h =
        let a : p * c' ≡ (q + n) * c' = ap (λ (z : ℕ). z * c') e in
        let b : p' * c ≡ (q' + n') * c = ap (λ (z : ℕ). z * c) e' in
        omega arith

    minus : (p q c p' q' c' n n' : ℕ) → q ≡ p + n → q' ≡ p' + n' → p * c' + q' * c ≤ p' * c + q * c' → n' * c ≤ n * c'
    minus p q c p' q' c' n n' e e' h =
        let a : q * c' ≡ (p + n) * c' = ap (λ (z : ℕ). z * c') e in
        let b : q' * c ≡ (p' + n') * c = ap (λ (z : ℕ). z * c) e' in
        omega arith

    -- p - q is not negative and p' - q' is not positive, so both are 0
    neither : (p q c p' q' c' n n' : ℕ) → p ≡ q + n → q' ≡ p' + n' → p * c' + q' * c ≤ p' * c + q * c' → n * c' + n' * c ≤ 0
    neither p q c p' q' c' n n' e e' h =
        let a : p * c' ≡ (q + n) * c' = ap (λ (z : ℕ). z * c') e in
        let b : q' * c ≡ (p' + n') * c = ap (λ (z : ℕ). z * c) e' in
        omega arith

    nought : (n c : ℕ) → 0 < c → n * c ≤ 0 → n ≡ 0
    nought n c C h = let a : n * 1 ≤ n * c = native.Mathlib.Nat.mul-le-mul_left n C in omega arith

    first : (a b : ℕ) → a + b ≤ 0 → a ≤ 0
    first a b h = omega arith

    second : (a b : ℕ) → a + b ≤ 0 → b ≤ 0
    second a b h = omega arith

    go : (s t : Bool) (n n' : ℕ) → cond s q p ≡ cond s p q + n → cond t q' p' ≡ cond t p' q' + n' → T (le (round f s n c) (round f t n' c'))
    go false false n n' e e' = round_mono f n c n' c' C C' (both p q c p' q' c' n n' e e' h)
    go true true n n' e e' = round_mono_minus f n c n' c' C C' (minus p q c p' q' c' n n' e e' h)
    go true false n n' e e' =
        le_trans (round f true n c) (fin true 0 (pos 0)) (round f false n' c') (round_below f n c C)
        (le_trans (fin true 0 (pos 0)) (fin false 0 (pos 0)) (round f false n' c') (zeros true false) (round_above f n' c' C'))
    go false true n n' e e' =
        let z = neither p q c p' q' c' n n' e e' h in
        let a : n ≡ 0 = nought n c' C' (first (n * c') (n' * c) z) in
        let b : n' ≡ 0 = nought n' c C (second (n * c') (n' * c) z) in
        rw (a, b, round_zero f false c C, round_zero f true c' C') (zeros false true)

-- ---- a sum
sum_rounded : (f : Format) (s : Bool) (a : ℕ) (t : Bool) (b c : ℕ) → Rounded f (sum f s a t b c) (over s a + over t b) (under s a + under t b) c
unfolding sum
sum_rounded f true a true b c = record { sign = true; size = a + b; is = refl; by = omega arith }
sum_rounded f false a false b c = record { sign = false; size = a + b; is = refl; by = omega arith }
sum_rounded f true a false b c = go (ltb a b) (ltb b a) (ltb→lt a b) (nltb→le a b) (ltb→lt b a) (nltb→le b a)
  where
    go : (x y : Bool) → (T x → a < b) → (T (not x) → b ≤ a) → (T y → b < a) → (T (not y) → a ≤ b)
        → Rounded f (cond x (round f false (b - a) c) (round f (true && y) (a - b) c)) (0 + b) (a + 0) c
    go true y p q v w = let h = p tt in record { sign = false; size = b - a; is = refl; by = omega arith }
    go false true p q v w = let h = q tt in record { sign = true; size = a - b; is = refl; by = omega arith }
    go false false p q v w = let h = q tt in let k = w tt in record { sign = false; size = a - b; is = refl; by = omega arith }
sum_rounded f false a true b c = go (ltb a b) (ltb→lt a b) (nltb→le a b)
  where
    go : (x : Bool) → (T x → a < b) → (T (not x) → b ≤ a) → Rounded f (cond x (round f true (b - a) c) (round f false (a - b) c)) (a + 0) (0 + b) c
    go true p q = let h = p tt in record { sign = true; size = b - a; is = refl; by = omega arith }
    go false p q = let h = q tt in record { sign = false; size = a - b; is = refl; by = omega arith }

-- the same amount K / g added to X / e and to Y / d
shifted : (s t w : Bool) (X Y K e d g : ℕ) → over s X * d + under t Y * e ≤ over t Y * e + under s X * d
    → (over s (X * g) + over w (K * e)) * (d * g) + (under t (Y * g) + under w (K * d)) * (e * g)
    ≤ (over t (Y * g) + over w (K * d)) * (e * g) + (under s (X * g) + under w (K * e)) * (d * g)
shifted true true true X Y K e d g h = omega (arith, mul-le-mul_right (g * g) h)
shifted true true false X Y K e d g h = omega (arith, mul-le-mul_right (g * g) h)
shifted true false true X Y K e d g h = omega (arith, mul-le-mul_right (g * g) h)
shifted true false false X Y K e d g h = omega (arith, mul-le-mul_right (g * g) h)
shifted false true true X Y K e d g h = omega (arith, mul-le-mul_right (g * g) h)
shifted false true false X Y K e d g h = omega (arith, mul-le-mul_right (g * g) h)
shifted false false true X Y K e d g h = omega (arith, mul-le-mul_right (g * g) h)
shifted false false false X Y K e d g h = omega (arith, mul-le-mul_right (g * g) h)

finite_mono : (f : Format) (s : Bool) (m : ℕ) (e : ℤ) (t : Bool) (n : ℕ) (d : ℤ) (w : Bool) (k : ℕ) (g : ℤ) → T (le (fin s m e) (fin t n d))
    → T (le (add f (fin s m e) (fin w k g)) (add f (fin t n d) (fin w k g)))
unfolding add
finite_mono f s m e t n d w k g h =
    rounded_mono f _ _ _ _ (down e * down g) _ _ (down d * down g) (mul-pos (down_pos e) (down_pos g)) (mul-pos (down_pos d) (down_pos g))
    (sum_rounded f s (m * up e * down g) w (k * up g * down e) (down e * down g))
    (sum_rounded f t (n * up d * down g) w (k * up g * down d) (down d * down g))
    (shifted s t w (m * up e) (n * up d) (k * up g) (down e) (down d) (down g) (of_le s m e t n d h))

-- a sum with a finite term is a NaN only where the other term is one
sum_number : (f : Format) (s : Bool) (a : ℕ) (t : Bool) (b c : ℕ) → T (not (is_nan (sum f s a t b c)))
sum_number f s a t b c =
    let r = sum_rounded f s a t b c in
    subst (λ (z : Float). T (not (is_nan z))) (sym r.is) (round_number f r.sign r.size c)

add_number : (f : Format) (x z : Float) → T (not (is_nan x)) → T (finite z) → T (not (is_nan (add f x z)))
unfolding add is_nan
add_number f nan z h p = absurd h
add_number f (inf s) nan h p = absurd p
add_number f (inf s) (inf t) h p = absurd p
add_number f (inf s) (fin t n d) h p = tt
add_number f (fin s m e) nan h p = absurd p
add_number f (fin s m e) (inf t) h p = absurd p
add_number f (fin s m e) (fin t n d) h p = sum_number f s (m * up e * down d) t (n * up d * down e) (down e * down d)

with_infinity : (f : Format) (s : Bool) (w : Bool) (k : ℕ) (g : ℤ) → inf s ≡ add f (inf s) (fin w k g)
unfolding add
with_infinity f s w k g = refl

by_term : (f : Format) (x y : Float) (w : Bool) (k : ℕ) (g : ℤ) → T (le x y) → T (le (add f x (fin w k g)) (add f y (fin w k g)))
by_term f nan y w k g h = absurd (unfold is_nan in left_number nan y h)
by_term f (inf s) nan w k g h = absurd (unfold is_nan in right_number (inf s) nan h)
by_term f (inf s) (inf t) w k g h = subst (λ (z : Float). T (le z (add f (inf t) (fin w k g)))) (with_infinity f s w k g) (subst (λ (z : Float). T (le (inf s) z)) (with_infinity f t w k g) h)
by_term f (inf true) (fin t n d) w k g h =
    subst (λ (z : Float). T (le z (add f (fin t n d) (fin w k g)))) (with_infinity f true w k g)
    (lowest (add f (fin t n d) (fin w k g)) (add_number f (fin t n d) (fin w k g) (unfold is_nan in tt) tt))
by_term f (inf false) (fin t n d) w k g h = absurd (above_highest t n d h)
by_term f (fin s m e) nan w k g h = absurd (unfold is_nan in right_number (fin s m e) nan h)
by_term f (fin s m e) (inf true) w k g h = absurd (below_lowest s m e h)
by_term f (fin s m e) (inf false) w k g h =
    subst (λ (z : Float). T (le (add f (fin s m e) (fin w k g)) z)) (with_infinity f false w k g)
    (highest (add f (fin s m e) (fin w k g)) (add_number f (fin s m e) (fin w k g) (unfold is_nan in tt) tt))
by_term f (fin s m e) (fin t n d) w k g h = finite_mono f s m e t n d w k g h

pub add_mono : (f : Format) (x y z : Float) → T (finite z) → T (le x y) → T (le (add f x z) (add f y z))
add_mono f x y nan p h = absurd p
add_mono f x y (inf s) p h = absurd p
add_mono f x y (fin w k g) p h = by_term f x y w k g h

neg_finite : (z : Float) → T (finite z) → T (finite (neg z))
unfolding neg
neg_finite nan p = p
neg_finite (inf s) p = p
neg_finite (fin s m e) p = p

pub sub_mono : (f : Format) (x y z : Float) → T (finite z) → T (le x y) → T (le (sub f x z) (sub f y z))
unfolding sub
sub_mono f x y z p h = add_mono f x y (neg z) (neg_finite z p) h

-- ---- a number and its opposite
cancels : (f : Format) (s : Bool) (a c : ℕ) → 0 < c → sum f (not s) a s a c ≡ fin false 0 (pos 0)
unfolding sum
cancels f true a c C = let e : a - a ≡ 0 = omega arith in rw (le-ltb a a (le_refl a), e) (round_zero f false c C)
cancels f false a c C = let e : a - a ≡ 0 = omega arith in rw (le-ltb a a (le_refl a), e) (round_zero f false c C)

pub opposite_sum : (f : Format) (z : Float) → T (finite z) → add f (neg z) z ≡ fin false 0 (pos 0)
unfolding add neg
opposite_sum f nan p = absurd p
opposite_sum f (inf s) p = absurd p
opposite_sum f (fin s m e) p = cancels f s (m * up e * down e) (down e * down e) (mul-pos (down_pos e) (down_pos e))
