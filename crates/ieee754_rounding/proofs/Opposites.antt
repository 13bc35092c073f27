-- Two floats are opposite where one is the other with its sign turned, or both are zeros. A product with one factor turned is turned, and
-- sums of opposite terms are opposite: only the sign of a zero can differ, since x - x is +0 whichever way the signs stand.
use mathlib.Core.Path.{◌≡◌, refl, ap, sym, ◌∙◌}
use mathlib.Core.Bool.{Bool, true, false, not, ◌&&◌, cond}
use Prim.Native.Nat.{ℕ, zero, suc, ◌+◌, ◌*◌, ◌-◌, ◌^◌, ◌<◌}
use native.Mathlib.Nat.{zero-mul, mul_assoc, mul-pos}
use native.Mathlib.Omega.{arith}
use lib.Dec.{ltb, eqb}
use borrow.Author.Tests.{lt-ltb}
use lib.IntN.{ℤ, pos}
use lib.Ieee.{Float, nan, inf, fin, Format, binary32, binary64, up, down, low, prec, emax, unlike, neg, round, units, odd, sum, add, mul, size, span, climb}
use lib.Ieee.Fits.{up_pos, down_pos}
use lib.Ieee.Scale.{round_same}
use Rattle.ieee754_rounding.proofs.Commutation.{add_commutes, no_difference}

pub data Opposite : Float → Float → Type 0 where
  turned : (x : Float) → Opposite x (neg x)
  zeros : (s t : Bool) (e d : ℤ) → Opposite (fin s 0 e) (fin t 0 d)

-- ---- a sign turned

pub neg_neg : (x : Float) → neg (neg x) ≡ x
unfolding neg
neg_neg nan = refl
neg_neg (inf true) = refl
neg_neg (inf false) = refl
neg_neg (fin true m e) = refl
neg_neg (fin false m e) = refl

neg_cond : (b : Bool) (x y : Float) → neg (cond b x y) ≡ cond b (neg x) (neg y)
neg_cond true x y = refl
neg_cond false x y = refl

neg_odd : (d : ℕ) (s : Bool) (q k l : ℕ) → neg (odd d s q k l) ≡ odd d (not s) q k l
unfolding neg odd
neg_odd d s zero k l = refl
neg_odd d s (suc q) k l = refl

neg_units : (f : Format) (s : Bool) (q k : ℕ) → neg (units f s q k) ≡ units f (not s) q k
unfolding units neg
neg_units f s q k =
    let b = ltb (q * 2 ^ k) (2 ^ (low f + suc (emax f))) in
    neg_cond b (odd (suc (prec f)) s q k (low f)) (inf s) ∙ ap (λ (z : Float). cond b z (inf (not s))) (neg_odd (suc (prec f)) s q k (low f))

pub neg_round : (f : Format) (s : Bool) (n d : ℕ) → neg (round f s n d) ≡ round f (not s) n d
unfolding round
neg_round f s n d = neg_units f s _ _

unlike_not : (s t : Bool) → unlike s (not t) ≡ not (unlike s t)
unlike_not true true = refl
unlike_not true false = refl
unlike_not false true = refl
unlike_not false false = refl

pub mul_neg : (f : Format) (x y : Float) → mul f x (neg y) ≡ neg (mul f x y)
unfolding mul neg
mul_neg f nan y = refl
mul_neg f (inf s) nan = refl
mul_neg f (inf s) (inf t) = ap inf (unlike_not s t)
mul_neg f (inf s) (fin t n d) = ap (λ (b : Bool). cond (eqb n 0) nan (inf b)) (unlike_not s t) ∙ sym (neg_cond (eqb n 0) nan (inf (unlike s t)))
mul_neg f (fin s m e) nan = refl
mul_neg f (fin s m e) (inf t) = ap (λ (b : Bool). cond (eqb m 0) nan (inf b)) (unlike_not s t) ∙ sym (neg_cond (eqb m 0) nan (inf (unlike s t)))
mul_neg f (fin s m e) (fin t n d) =
    ap (λ (b : Bool). round f b (m * up e * (n * up d)) (down e * down d)) (unlike_not s t) ∙ sym (neg_round f (unlike s t) _ _)

-- ---- both terms turned

pub round_zero : (f : Format) (s : Bool) (c : ℕ) → 0 < c → round f s 0 c ≡ fin s 0 (pos 0)
unfolding round units odd size span climb
round_zero binary32 s c h = round_same binary32 s 0 c 0 1 h (omega arith) (omega arith)
round_zero binary64 s c h = round_same binary64 s 0 c 0 1 h (omega arith) (omega arith)

opposite_round : (f : Format) (s : Bool) (n c : ℕ) → Opposite (round f s n c) (round f (not s) n c)
opposite_round f s n c = rw neg_round at (turned (round f s n c))

opposite_zero : (f : Format) (s t : Bool) (n c : ℕ) → n ≡ 0 → 0 < c → Opposite (round f s n c) (round f t n c)
opposite_zero f s t n c e h = rw (e, round_zero f s c h, round_zero f t c h) (zeros s t (pos 0) (pos 0))

-- signs that differ; p and q are the two tests
differ : (f : Format) (s : Bool) (a b c : ℕ) → 0 < c → (p q : Bool) → ltb a b ≡ p → ltb b a ≡ q
    → Opposite
    (cond p (round f (not s) (b - a) c) (round f (s && q) (a - b) c))
    (cond p (round f s (b - a) c) (round f (not s && q) (a - b) c))
differ f true a b c h true q ep eq = opposite_round f false (b - a) c
differ f true a b c h false true ep eq = opposite_round f true (a - b) c
differ f true a b c h false false ep eq = opposite_zero f false false (a - b) c (no_difference a b ep eq) h
differ f false a b c h true q ep eq = opposite_round f true (b - a) c
differ f false a b c h false true ep eq = opposite_round f false (a - b) c
differ f false a b c h false false ep eq = opposite_zero f false false (a - b) c (no_difference a b ep eq) h

sum_neg : (f : Format) (s t : Bool) (a b c : ℕ) → 0 < c → Opposite (sum f s a t b c) (sum f (not s) a (not t) b c)
unfolding sum
sum_neg f true true a b c h = opposite_round f true (a + b) c
sum_neg f true false a b c h = differ f true a b c h (ltb a b) (ltb b a) refl refl
sum_neg f false true a b c h = differ f false a b c h (ltb a b) (ltb b a) refl refl
sum_neg f false false a b c h = opposite_round f false (a + b) c

pub add_neg : (f : Format) (x y : Float) → Opposite (add f x y) (add f (neg x) (neg y))
unfolding add neg
add_neg f nan y = turned nan
add_neg f (inf s) nan = turned nan
add_neg f (inf true) (inf true) = turned (inf true)
add_neg f (inf true) (inf false) = turned nan
add_neg f (inf false) (inf true) = turned nan
add_neg f (inf false) (inf false) = turned (inf false)
add_neg f (inf s) (fin t n d) = turned (inf s)
add_neg f (fin s m e) nan = turned nan
add_neg f (fin s m e) (inf t) = turned (inf t)
add_neg f (fin s m e) (fin t n d) =
    sum_neg f s t (m * up e * down d) (n * up d * down e) (down e * down d) (mul-pos (down_pos e) (down_pos d))

-- ---- a zero and a term

zero_sum : (f : Format) (s t : Bool) (b c : ℕ) → 0 < b → sum f s 0 t b c ≡ round f t b c
unfolding sum
zero_sum f true true b c h = let e : 0 + b ≡ b = omega arith in rw e
zero_sum f false false b c h = let e : 0 + b ≡ b = omega arith in rw e
zero_sum f true false b c h = let e : b - 0 ≡ b = omega arith in rw (lt-ltb 0 b h, e)
zero_sum f false true b c h = let e : b - 0 ≡ b = omega arith in rw (lt-ltb 0 b h, e)

-- the term, rounded
pub add_to_zero : (f : Format) (s t : Bool) (e d : ℤ) (n : ℕ) → add f (fin s 0 e) (fin t (suc n) d) ≡ round f t (suc n * up d) (down d)
unfolding add
add_to_zero f s t e d n =
    let z : 0 * up e * down d ≡ 0 = simp zero-mul in
    let p : 0 < suc n * up d * down e = mul-pos (mul-pos (omega arith) (up_pos d)) (down_pos e) in
    rw z
    (zero_sum f s t (suc n * up d * down e) (down e * down d) p
    ∙ round_same f t (suc n * up d * down e) (down e * down d) (suc n * up d) (down d) (mul-pos (down_pos e) (down_pos d)) (down_pos d)
    (mul_assoc (suc n * up d) (down e) (down d)))

sum_zeros : (f : Format) (s t : Bool) (c : ℕ) → 0 < c → sum f s 0 t 0 c ≡ fin (s && t) 0 (pos 0)
unfolding sum
sum_zeros f true true c h = round_zero f true c h
sum_zeros f true false c h = round_zero f false c h
sum_zeros f false true c h = round_zero f false c h
sum_zeros f false false c h = round_zero f false c h

pub add_zeros : (f : Format) (s t : Bool) (e d : ℤ) → add f (fin s 0 e) (fin t 0 d) ≡ fin (s && t) 0 (pos 0)
unfolding add
add_zeros f s t e d =
    let z : 0 * up e * down d ≡ 0 = simp zero-mul in
    let z' : 0 * up d * down e ≡ 0 = simp zero-mul in
    rw (z, z') (sum_zeros f s t (down e * down d) (mul-pos (down_pos e) (down_pos d)))

two_zeros : (f : Format) (s t s' t' : Bool) (e d e' d' : ℤ) → Opposite (add f (fin s 0 e) (fin t 0 d)) (add f (fin s' 0 e') (fin t' 0 d'))
two_zeros f s t s' t' e d e' d' = rw (add_zeros f s t e d, add_zeros f s' t' e' d') (zeros (s && t) (s' && t') (pos 0) (pos 0))

zero_nan : (f : Format) (s t : Bool) (e d : ℤ) → Opposite (add f (fin s 0 e) nan) (add f (fin t 0 d) (neg nan))
unfolding add neg
zero_nan f s t e d = turned nan

zero_inf : (f : Format) (s t : Bool) (e d : ℤ) (u : Bool) → Opposite (add f (fin s 0 e) (inf u)) (add f (fin t 0 d) (neg (inf u)))
unfolding add neg
zero_inf f s t e d u = turned (inf u)

zero_turned : (f : Format) (s t : Bool) (e d : ℤ) (x : Float) → Opposite (add f (fin s 0 e) x) (add f (fin t 0 d) (neg x))
unfolding neg
zero_turned f s t e d nan = zero_nan f s t e d
zero_turned f s t e d (inf u) = zero_inf f s t e d u
zero_turned f s t e d (fin u zero k) = two_zeros f s u t (not u) e k d k
zero_turned f s t e d (fin u (suc n) k) = rw (add_to_zero f s u e k n, add_to_zero f t (not u) d k n) (opposite_round f u (suc n * up k) (down k))

-- ---- opposite terms

pub add_opposite : (f : Format) {x x' y y' : Float} → Opposite x x' → Opposite y y' → Opposite (add f x y) (add f x' y')
add_opposite f (turned x) (turned y) = add_neg f x y
add_opposite f (zeros s t e d) (turned y) = zero_turned f s t e d y
add_opposite f (turned x) (zeros s t e d) =
    rw (add_commutes f x (fin s 0 e), add_commutes f (neg x) (fin t 0 d)) (zero_turned f s t e d x)
add_opposite f (zeros s t e d) (zeros s' t' e' d') = two_zeros f s s' t t' e e' d d'
