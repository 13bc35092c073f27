-- The remainder of a number by one that is larger in size is that number, so a function may leave `%` out there. For any format. Assumes nothing.
use Rattle.std.proofs.Common.{◌≡◌, ℕ, ◌+◌, ◌*◌, ◌%◌, ◌<◌, Bool, true, false, cond, ◌||◌, T, eqb, ℤ, sym, refl, ap, ◌∙◌, subst, mod-eq_of_lt, mul_assoc, mul_comm, mul-pos, zero-mul, mul-one, arith, eqb→eq, ltb→lt}
use lib.Ieee.{Float, nan, inf, fin, Format, up, down, round, rem, lt, le, eq, fits, of_bits}
use lib.Ieee.Fits.{down_pos, round-fits, and_l}
use lib.Ieee.Scale.{round_same}
use lib.Ieee.Positive.{first_pos}
use Rattle.ieee754.specs.Sign.{plus_zero}
use Rattle.ieee754_rounding.proofs.FormatValues.{own_value}
use Rattle.ieee754.proofs.SameValue.{same_value}

-- a value of the format rounds to itself
pub round_own : (f : Format) (s : Bool) (m : ℕ) (e : ℤ) → T (fits f (fin s m e)) → fin s m e ≡ round f s (m * up e) (down e)
round_own f s m e h =
    same_value f (fin s m e) (round f s (m * up e) (down e)) s (m * up e) (down e) (down_pos e) h (round-fits f s (m * up e) (down e)) (refl, refl) (own_value f s m e h)

-- where the divisor is not 0
pub rem_is : (f : Format) (s t : Bool) (m n : ℕ) (e d : ℤ) → 0 < n
    → rem f (fin s m e) (fin t n d) ≡ round f s (m * up e * down d % (n * up d * down e)) (down e * down d)
unfolding rem
rem_is f s t m n e d h = divides (eqb n 0) (round f s (m * up e * down d % (n * up d * down e)) (down e * down d)) (eqb→eq n 0)
  where
    no_zero : (n : ℕ) → 0 < n → n ≡ 0 → ⊥
    no_zero n h e = omega arith

    divides : (b : Bool) (x : Float) → (T b → n ≡ 0) → cond b nan x ≡ x
    divides true x k = absurd (no_zero n h (k tt))
    divides false x k = refl

-- where |x| < |y|
pub rem_below : (f : Format) (s t : Bool) (m n : ℕ) (e d : ℤ) → T (fits f (fin s m e)) → m * up e * down d < n * up d * down e → fin s m e ≡ rem f (fin s m e) (fin t n d)
rem_below f s t m n e d p h =
    round_own f s m e p
    ∙ round_same f s (m * up e) (down e) (m * up e * down d) (down e * down d) (down_pos e) (mul-pos (down_pos e) (down_pos d))
    (ap (λ (z : ℕ). m * up e * z) (mul_comm (down e) (down d)) ∙ sym (mul_assoc (m * up e) (down d) (down e)))
    ∙ ap (λ (z : ℕ). round f s z (down e * down d)) (sym (mod-eq_of_lt h))
    ∙ sym (rem_is f s t m n e d (first_pos n (up d) (first_pos (n * up d) (down e) (some (m * up e * down d) (n * up d * down e) h))))
  where
    some : (a b : ℕ) → a < b → 0 < b
    some a b h = omega arith

pub zero_is : (f : Format) → of_bits f 0 ≡ plus_zero
unfolding of_bits
zero_is Format.binary32 = refl
zero_is Format.binary64 = refl

-- of the numbers with a minus sign only -0 is not below 0
minus_is_zero : (m : ℕ) (e : ℤ) → T (le plus_zero (fin true m e)) → m * up e ≡ 0
unfolding le lt eq
minus_is_zero m e g =
    sym (mul-one (m * up e))
    ∙ sym (eqb→eq (0 * 1 * down e) (m * up e * 1) (and_l (eqb (0 * 1 * down e) (m * up e * 1)) (false || eqb (0 * 1 * down e) 0) g))
    ∙ zero-mul (down e)

above : (a b : ℕ) → a ≡ 0 → 0 < a + b → a < b
above a b z h = omega arith

not_under : (a b : ℕ) → a ≡ 0 → b < a → ⊥
not_under a b z h = omega arith

-- for an x that is not negative, but for -0
small_by_value : (f : Format) (x y : Float) → T (fits f x) → T (le plus_zero x) → T (lt x y) → x ≡ rem f x y
unfolding le lt eq rem
small_by_value f nan y p g h = absurd h
small_by_value f (inf true) y p g h = absurd g
small_by_value f (inf false) nan p g h = absurd h
small_by_value f (inf false) (inf t) p g h = absurd h
small_by_value f (inf false) (fin t n d) p g h = absurd h
small_by_value f (fin s m e) nan p g h = absurd h
small_by_value f (fin s m e) (inf t) p g h = refl
small_by_value f (fin false m e) (fin false n d) p g h = rem_below f false false m n e d p (ltb→lt (m * up e * down d) (n * up d * down e) h)
small_by_value f (fin false m e) (fin true n d) p g h = absurd h
small_by_value f (fin true m e) (fin false n d) p g h =
    let a : ℕ = m * up e * down d in
    let b : ℕ = n * up d * down e in
    rem_below f true false m n e d p (above a b (ap (λ (z : ℕ). z * down d) (minus_is_zero m e g) ∙ zero-mul (down d)) (ltb→lt 0 (a + b) h))
small_by_value f (fin true m e) (fin true n d) p g h =
    let a : ℕ = m * up e * down d in
    let b : ℕ = n * up d * down e in
    absurd (not_under a b (ap (λ (z : ℕ). z * down d) (minus_is_zero m e g) ∙ zero-mul (down d)) (ltb→lt b a h))

pub small_remainder : (f : Format) (x y : Float) → T (fits f x) → T (le (of_bits f 0) x) → T (lt x y) → x ≡ rem f x y
small_remainder f x y p g h = small_by_value f x y p (subst (λ (z : Float). T (le z x)) (zero_is f) g) h
