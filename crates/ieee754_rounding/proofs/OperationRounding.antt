-- Each operation on finite values is one `round` of the exact result. For any format. Assumes nothing.
use mathlib.Core.Path.{◌≡◌, refl, sym, ap, ◌∙◌}
use mathlib.Core.Bool.{Bool, true, false, not, ◌&&◌, cond, true≢false}
use Prim.Native.Nat.{ℕ, zero, suc, ◌+◌, ◌-◌, ◌*◌, ◌^◌, ◌≤◌, ◌<◌}
use native.Mathlib.Nat.{le_of_eq, lt_of_le_of_lt, lt_of_lt_of_le, one-mul, mul_assoc, mul_comm, mul_right_comm, mul-pos, add-mul, mul-lt-mul_of_pos_right, lt_of_mul-lt-mul_right, zero-lt-suc, mul-mul-mul_comm}
use native.Mathlib.Omega.{arith}
use lib.Dec.{T, ltb, eqb, ltb→lt, lt→ltb, nltb→le, eqb→eq, not_T}
use lib.Pow.{pow_pos}
use lib.Ieee.{Float, nan, inf, fin, Format, low, up, down, round, sum, add, sub, mul, div, neg, unlike}
use lib.Ieee.Bits.{cond_no}
use lib.Ieee.Fits.{down_pos}
use lib.Ieee.Exact.{HasValue}
use lib.Ieee.Scale.{round_same}
use Rattle.ieee754_rounding.specs.Code.Errors.{Val}
use Rattle.ieee754_rounding.proofs.Values.{sized, neg_val}

-- z is p - q over c, rounded once: `round` of the size, with the sign
pub record Rounds (f : Format) (z : Float) (c p q : ℕ) : Type 0 where
  pub sign : Bool
  pub size : ℕ
  pub is : z ≡ round f sign size (c * 2 ^ low f)
  pub by : cond sign q p ≡ cond sign p q + size

-- ---- addition
sum_same : (f : Format) (s t : Bool) (a b c a' b' c' : ℕ) → 0 < c → 0 < c' → a * c' ≡ a' * c → b * c' ≡ b' * c → sum f s a t b c ≡ sum f s a' t b' c'
unfolding sum
sum_same f s t a b c a' b' c' C C' e k =
    go (mathlib.Core.Bool.beq s t) (ltb a b) (ltb a' b') (ltb b a) (ltb b' a') (tests a b a' b' e k) (tests b a b' a' k e)
  where
    same : (x y : Bool) → (T x → T y) → (T y → T x) → x ≡ y
    same true true p q = refl
    same true false p q = absurd (p tt)
    same false true p q = absurd (q tt)
    same false false p q = refl

    over : (a b a' b' : ℕ) → a * c' ≡ a' * c → b * c' ≡ b' * c → a < b → a' < b'
    over a b a' b' e k h = lt_of_mul-lt-mul_right c (lt_of_le_of_lt (le_of_eq (sym e)) (lt_of_lt_of_le (mul-lt-mul_of_pos_right h C') (le_of_eq k)))

    over' : (a b a' b' : ℕ) → a * c' ≡ a' * c → b * c' ≡ b' * c → a' < b' → a < b
    over' a b a' b' e k h = lt_of_mul-lt-mul_right c' (lt_of_le_of_lt (le_of_eq e) (lt_of_lt_of_le (mul-lt-mul_of_pos_right h C) (le_of_eq (sym k))))

    tests : (a b a' b' : ℕ) → a * c' ≡ a' * c → b * c' ≡ b' * c → ltb a b ≡ ltb a' b'
    tests a b a' b' e k = same (ltb a b) (ltb a' b') (λ h. lt→ltb a' b' (over a b a' b' e k (ltb→lt a b h))) (λ h. lt→ltb a b (over' a b a' b' e k (ltb→lt a' b' h)))

    diff : (a b a' b' : ℕ) → a * c' ≡ a' * c → b * c' ≡ b' * c → (b - a) * c' ≡ (b' - a') * c
    diff a b a' b' e k = mul_comm (b - a) c' ∙ native.Mathlib.Nat.mul-sub c' b a ∙ ap (λ (z : ℕ). z - c' * a) (mul_comm c' b ∙ k) ∙ ap (λ (z : ℕ). b' * c - z) (mul_comm c' a ∙ e) ∙ ap (λ (z : ℕ). z - a' * c) (mul_comm b' c) ∙ ap (λ (z : ℕ). c * b' - z) (mul_comm a' c) ∙ sym (native.Mathlib.Nat.mul-sub c b' a') ∙ mul_comm c (b' - a')

    go : (r x x' y y' : Bool) → x ≡ x' → y ≡ y'
        → cond r (round f s (a + b) c) (cond x (round f t (b - a) c) (round f (s && y) (a - b) c)) ≡ cond r (round f s (a' + b') c') (cond x' (round f t (b' - a') c') (round f (s && y') (a' - b') c'))
    go true x x' y y' p q = round_same f s (a + b) c (a' + b') c' C C' (add-mul a b c' ∙ ap (λ (z : ℕ). z + b * c') e ∙ ap (λ (z : ℕ). a' * c + z) k ∙ sym (add-mul a' b' c))
    go false true true y y' p q = round_same f t (b - a) c (b' - a') c' C C' (diff a b a' b' e k)
    go false true false y y' p q = absurd (true≢false p)
    go false false true y y' p q = absurd (true≢false (sym p))
    go false false false y y' p q = ap (λ (z : Bool). round f (s && z) (a - b) c) q ∙ round_same f (s && y') (a - b) c (a' - b') c' C C' (diff b a b' a' k e)

add_sum : (f : Format) (x y : Float) (s t : Bool) (u v : ℕ) → HasValue x s u (2 ^ low f) → HasValue y t v (2 ^ low f) → add f x y ≡ sum f s u t v (2 ^ low f)
unfolding add
add_sum f nan y s t u v h k = absurd h
add_sum f (inf r) y s t u v h k = absurd h
add_sum f (fin r m e) nan s t u v h k = absurd k
add_sum f (fin r m e) (inf w) s t u v h k = absurd k
add_sum f (fin r m e) (fin w n d) s t u v h k =
    ap (λ (z : Bool). sum f z (m * up e * down d) w (n * up d * down e) (down e * down d)) h.0
    ∙ ap (λ (z : Bool). sum f s (m * up e * down d) z (n * up d * down e) (down e * down d)) k.0
    ∙ sum_same f s t (m * up e * down d) (n * up d * down e) (down e * down d) u v (2 ^ low f) (mul-pos (down_pos e) (down_pos d)) (pow_pos (low f))
    (mul_right_comm (m * up e) (down d) (2 ^ low f) ∙ ap (λ (z : ℕ). z * down d) h.1 ∙ mul_assoc u (down e) (down d))
    (mul_right_comm (n * up d) (down e) (2 ^ low f) ∙ ap (λ (z : ℕ). z * down e) k.1 ∙ mul_assoc v (down d) (down e) ∙ ap (λ (z : ℕ). v * z) (mul_comm (down d) (down e)))

sum_round : (f : Format) (s t : Bool) (p q u p' q' u' : ℕ) → cond s q p ≡ cond s p q + u → cond t q' p' ≡ cond t p' q' + u' → Rounds f (sum f s u t u' (2 ^ low f)) 1 (p + p') (q + q')
unfolding sum
sum_round f true true p q u p' q' u' e k = record { sign = true; size = u + u'; is = ap (λ (z : ℕ). round f true (u + u') z) (sym (one-mul (2 ^ low f))); by = omega arith }
sum_round f false false p q u p' q' u' e k = record { sign = false; size = u + u'; is = ap (λ (z : ℕ). round f false (u + u') z) (sym (one-mul (2 ^ low f))); by = omega arith }
sum_round f true false p q u p' q' u' e k = go (ltb u u') (ltb u' u) (ltb→lt u u') (nltb→le u u') (ltb→lt u' u) (nltb→le u' u)
  where
    go : (x y : Bool) → (T x → u < u') → (T (not x) → u' ≤ u) → (T y → u' < u) → (T (not y) → u ≤ u')
        → Rounds f (cond x (round f false (u' - u) (2 ^ low f)) (round f (true && y) (u - u') (2 ^ low f))) 1 (p + p') (q + q')
    go true y a b c d = let h = a tt in record { sign = false; size = u' - u; is = ap (λ (z : ℕ). round f false (u' - u) z) (sym (one-mul (2 ^ low f))); by = omega arith }
    go false true a b c d = let h = b tt in record { sign = true; size = u - u'; is = ap (λ (z : ℕ). round f true (u - u') z) (sym (one-mul (2 ^ low f))); by = omega arith }
    go false false a b c d = let h = b tt in let i = d tt in record { sign = false; size = u - u'; is = ap (λ (z : ℕ). round f false (u - u') z) (sym (one-mul (2 ^ low f))); by = omega arith }
sum_round f false true p q u p' q' u' e k = go (ltb u u') (ltb→lt u u') (nltb→le u u')
  where
    go : (x : Bool) → (T x → u < u') → (T (not x) → u' ≤ u)
        → Rounds f (cond x (round f true (u' - u) (2 ^ low f)) (round f false (u - u') (2 ^ low f))) 1 (p + p') (q + q')
    go true a b = let h = a tt in record { sign = true; size = u' - u; is = ap (λ (z : ℕ). round f true (u' - u) z) (sym (one-mul (2 ^ low f))); by = omega arith }
    go false a b = let h = b tt in record { sign = false; size = u - u'; is = ap (λ (z : ℕ). round f false (u - u') z) (sym (one-mul (2 ^ low f))); by = omega arith }

pub add_rounds : (f : Format) (x y : Float) (p q p' q' : ℕ) → Val f x p q → Val f y p' q' → Rounds f (add f x y) 1 (p + p') (q + q')
add_rounds f x y p q p' q' v w =
    let a = sized f x p q v in
    let b = sized f y p' q' w in
    let r = sum_round f a.sign b.sign p q a.size p' q' b.size a.is b.is in
    record { sign = r.sign; size = r.size; is = add_sum f x y a.sign b.sign a.size b.size a.val b.val ∙ r.is; by = r.by }

pub sub_rounds : (f : Format) (x y : Float) (p q p' q' : ℕ) → Val f x p q → Val f y p' q' → Rounds f (sub f x y) 1 (p + q') (q + p')
unfolding sub
sub_rounds f x y p q p' q' v w = add_rounds f x (neg y) p q q' p' v (neg_val f y p' q' w)

-- ---- multiplication: (p - q) * (p' - q') = (p * p' + q * q') - (p * q' + q * p'), in units of 2 ^ -low squared
mul_round : (f : Format) (x y : Float) (s t : Bool) (u v : ℕ) → HasValue x s u (2 ^ low f) → HasValue y t v (2 ^ low f) → mul f x y ≡ round f (unlike s t) (u * v) (2 ^ low f * 2 ^ low f)
unfolding mul
mul_round f nan y s t u v h k = absurd h
mul_round f (inf r) y s t u v h k = absurd h
mul_round f (fin r m e) nan s t u v h k = absurd k
mul_round f (fin r m e) (inf w) s t u v h k = absurd k
mul_round f (fin r m e) (fin w n d) s t u v h k =
    ap (λ (z : Bool). round f (unlike z w) (m * up e * (n * up d)) (down e * down d)) h.0
    ∙ ap (λ (z : Bool). round f (unlike s z) (m * up e * (n * up d)) (down e * down d)) k.0
    ∙ round_same f (unlike s t) (m * up e * (n * up d)) (down e * down d) (u * v) (2 ^ low f * 2 ^ low f) (mul-pos (down_pos e) (down_pos d)) (mul-pos (pow_pos (low f)) (pow_pos (low f)))
    (mul-mul-mul_comm (m * up e) (n * up d) (2 ^ low f) (2 ^ low f) ∙ ap (λ (z : ℕ). z * (n * up d * 2 ^ low f)) h.1 ∙ ap (λ (z : ℕ). u * down e * z) k.1 ∙ mul-mul-mul_comm u (down e) v (down d))

product : (s t : Bool) (p q u p' q' u' : ℕ) → cond s q p ≡ cond s p q + u → cond t q' p' ≡ cond t p' q' + u' → cond (unlike s t) (p * q' + q * p') (p * p' + q * q') ≡ cond (unlike s t) (p * p' + q * q') (p * q' + q * p') + u * u'
product true true p q u p' q' u' e k = ap (λ (z : ℕ). p * p' + z * q') e ∙ ap (λ (z : ℕ). p * p' + (p + u) * z) k ∙ go p u p' u' ∙ sym (ap (λ (z : ℕ). p * z + q * p' + u * u') k ∙ ap (λ (z : ℕ). p * (p' + u') + z * p' + u * u') e)
  where
    go : (p u p' u' : ℕ) → p * p' + (p + u) * (p' + u') ≡ p * (p' + u') + (p + u) * p' + u * u'
    go p u p' u' = omega arith
product true false p q u p' q' u' e k = ap (λ (z : ℕ). p * q' + z * p') e ∙ ap (λ (z : ℕ). p * q' + (p + u) * z) k ∙ go p u q' u' ∙ sym (ap (λ (z : ℕ). p * z + q * q' + u * u') k ∙ ap (λ (z : ℕ). p * (q' + u') + z * q' + u * u') e)
  where
    go : (p u p' u' : ℕ) → p * p' + (p + u) * (p' + u') ≡ p * (p' + u') + (p + u) * p' + u * u'
    go p u p' u' = omega arith
product false true p q u p' q' u' e k = ap (λ (z : ℕ). z * q' + q * p') e ∙ ap (λ (z : ℕ). (q + u) * z + q * p') k ∙ go q u p' u' ∙ sym (ap (λ (z : ℕ). z * p' + q * q' + u * u') e ∙ ap (λ (z : ℕ). (q + u) * p' + q * z + u * u') k)
  where
    go : (q u p' u' : ℕ) → (q + u) * (p' + u') + q * p' ≡ (q + u) * p' + q * (p' + u') + u * u'
    go q u p' u' = omega arith
product false false p q u p' q' u' e k = ap (λ (z : ℕ). z * p' + q * q') e ∙ ap (λ (z : ℕ). (q + u) * z + q * q') k ∙ go q u q' u' ∙ sym (ap (λ (z : ℕ). z * q' + q * p' + u * u') e ∙ ap (λ (z : ℕ). (q + u) * q' + q * z + u * u') k)
  where
    go : (q u p' u' : ℕ) → (q + u) * (p' + u') + q * p' ≡ (q + u) * p' + q * (p' + u') + u * u'
    go q u p' u' = omega arith

pub mul_rounds : (f : Format) (x y : Float) (p q p' q' : ℕ) → Val f x p q → Val f y p' q' → Rounds f (mul f x y) (2 ^ low f) (p * p' + q * q') (p * q' + q * p')
mul_rounds f x y p q p' q' v w =
    let a = sized f x p q v in
    let b = sized f y p' q' w in
    record {
      sign = unlike a.sign b.sign;
      size = a.size * b.size;
      is = mul_round f x y a.sign b.sign a.size b.size a.val b.val;
      by = product a.sign b.sign p q a.size p' q' b.size a.is b.is;
    }

-- ---- division by a y of v units with the sign t: x / y * v is x in units, or -x
div_round : (f : Format) (x y : Float) (s t : Bool) (u v : ℕ) → HasValue x s u (2 ^ low f) → HasValue y t v (2 ^ low f) → 0 < v → div f x y ≡ round f (unlike s t) (u * 2 ^ low f) (v * 2 ^ low f)
unfolding div
div_round f nan y s t u v h k pv = absurd h
div_round f (inf r) y s t u v h k pv = absurd h
div_round f (fin r m e) nan s t u v h k pv = absurd k
div_round f (fin r m e) (inf w) s t u v h k pv = absurd k
div_round f (fin r m e) (fin w n d) s t u v h k pv =
    let N : 0 < n * up d = pos_of (n * up d) (2 ^ low f) (lt_of_lt_of_le (mul-pos pv (down_pos d)) (le_of_eq (sym k.1))) in
    cond_no (eqb n 0) (cond (eqb m 0) nan (inf (unlike r w))) (round f (unlike r w) (m * up e * down d) (n * up d * down e)) (not_zero n (up d) N)
    ∙ ap (λ (z : Bool). round f (unlike z w) (m * up e * down d) (n * up d * down e)) h.0
    ∙ ap (λ (z : Bool). round f (unlike s z) (m * up e * down d) (n * up d * down e)) k.0
    ∙ round_same f (unlike s t) (m * up e * down d) (n * up d * down e) (u * 2 ^ low f) (v * 2 ^ low f) (mul-pos N (down_pos e)) (mul-pos pv (pow_pos (low f)))
    (cross (m * up e) (down d) (n * up d) (down e) u v (2 ^ low f) h.1 k.1)
  where
    pos_of : (a b : ℕ) → 0 < a * b → 0 < a
    pos_of zero b h = absurd (none b h)
      where
        none : (b : ℕ) → 0 < 0 * b → ⊥
        none b h = omega arith
    pos_of (suc a) b h = zero-lt-suc a

    not_zero : (a b : ℕ) → 0 < a * b → T (not (eqb a 0))
    not_zero a b h = not_T (eqb a 0) (λ t. no (pos_of a b h) (eqb→eq a 0 t))
      where
        no : 0 < a → a ≡ 0 → ⊥
        no h e = omega arith

    cross : (a d n e u v l : ℕ) → a * l ≡ u * e → n * l ≡ v * d → a * d * (v * l) ≡ u * l * (n * e)
    cross a d n e u v l p q = first a d v l ∙ ap (λ (z : ℕ). z * (v * d)) p ∙ ap (λ (z : ℕ). u * e * z) (sym q) ∙ last u e n l
      where
        first : (a d v l : ℕ) → a * d * (v * l) ≡ a * l * (v * d)
        first a d v l = omega arith

        last : (u e n l : ℕ) → u * e * (n * l) ≡ u * l * (n * e)
        last u e n l = omega arith

pub div_rounds : (f : Format) (x y : Float) (t : Bool) (p q v : ℕ) → Val f x p q → HasValue y t v (2 ^ low f) → 0 < v
    → Rounds f (div f x y) v (cond t q p * 2 ^ low f) (cond t p q * 2 ^ low f)
div_rounds f x y t p q v a b pv =
    let s = sized f x p q a in
    record {
      sign = unlike s.sign t;
      size = s.size * 2 ^ low f;
      is = div_round f x y s.sign t s.size v s.val b pv;
      by = scaled s.sign t p q s.size (2 ^ low f) s.is;
    }
  where
    more : (x y u l : ℕ) → x ≡ y + u → x * l ≡ y * l + u * l
    more x y u l e = ap (λ (z : ℕ). z * l) e ∙ add-mul y u l

    scaled : (s t : Bool) (p q u l : ℕ) → cond s q p ≡ cond s p q + u → cond (unlike s t) (cond t p q * l) (cond t q p * l) ≡ cond (unlike s t) (cond t q p * l) (cond t p q * l) + u * l
    scaled true true p q u l e = more q p u l e
    scaled true false p q u l e = more q p u l e
    scaled false true p q u l e = more p q u l e
    scaled false false p q u l e = more p q u l e
