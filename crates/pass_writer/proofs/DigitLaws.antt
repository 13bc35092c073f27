-- Laws of digits: how many there are, and that as many of them as a decimal number has write it.
use mathlib.Core.Path.{◌≡◌, refl, sym, ◌∙◌}
use mathlib.Core.Bool.{Bool, true, false, cond}
use mathlib.Core.List.{List, [], ◌∷◌, ◌++◌}
use Prim.Native.Nat.{ℕ, zero, suc, ◌+◌, ◌*◌, ◌/◌, ◌%◌, ◌^◌, ◌≤◌, ◌<◌, max}
use native.Mathlib.Numerals.{add-one}
use native.Mathlib.Nat.{pow-suc, le-div_iff_mul-le, div-lt_iff_lt-mul}
use native.Mathlib.Omega.{arith}
use lib.Dec.{ltb}
use lib.ListN.{length, length-append}
use lib.Ieee.{Float, binary64, to_bits}
use borrow.Author.Tests.{lt-ltb, le-ltb, ltb-true}
use Rattle.pass_writer.specs.Digits.{glyph_of, digits, decimal_from, decimal_text, float_text}

pub length_digits : (base k n : ℕ) → length (digits base k n) ≡ k
unfolding digits
length_digits base zero n = refl
length_digits base (suc k) n =
    length-append (digits base k (n / base)) (glyph_of (n % base) ∷ []) ∙ (let e = length_digits base k (n / base) in omega arith)

pub length_float : (x : Float) → length (float_text x) ≡ 16
unfolding float_text
length_float x = length_digits 16 16 (to_bits binary64 x)

-- the last digit, behind those of the number without it
pub digits_last : (base n i k b : ℕ) {front : List ℕ} → i + 1 ≡ k → b ≡ glyph_of (n % base) → front ≡ digits base i (n / base) → front ++ (b ∷ []) ≡ digits base k n
unfolding digits
digits_last base n i zero b m e f = absurd (omega arith)
digits_last base n i (suc k) b m e f = let z : i ≡ k = omega arith in rw (f, e, z)

pub no_digits : (base n : ℕ) (l : List ℕ) → length l ≡ 0 → l ≡ digits base (length l) n
unfolding digits
no_digits base n [] e = refl
no_digits base n (b ∷ l) e = absurd (omega arith)

-- as many digits as a decimal number has
digits_decimal : (k n : ℕ) → digits 10 (length (decimal_from k n)) n ≡ decimal_from k n
unfolding digits decimal_from
digits_decimal zero n = refl
digits_decimal (suc k) n = go (ltb n 10) refl (digits_decimal k (n / 10))
  where
    go : (b : Bool) → ltb n 10 ≡ b → digits 10 (length (decimal_from k (n / 10))) (n / 10) ≡ decimal_from k (n / 10)
        → digits 10 (length (cond b (glyph_of n ∷ []) (decimal_from k (n / 10) ++ (glyph_of (n % 10) ∷ [])))) n
        ≡ cond b (glyph_of n ∷ []) (decimal_from k (n / 10) ++ (glyph_of (n % 10) ∷ []))
    go true e more = let h : n < 10 = ltb-true _ _ e in let z : n % 10 ≡ n = omega arith in rw z
    go false e more = rw (length-append, add-one, more)

pub decimal_digits : (n : ℕ) → digits 10 (length (decimal_text n)) n ≡ decimal_text n
unfolding decimal_text
decimal_digits n = digits_decimal 20 n

-- the count of digits: the last one, and one more
length_last : (k n : ℕ) → n < 10 → length (decimal_from (suc k) n) ≡ 1
unfolding decimal_from
length_last k n h = rw (lt-ltb n 10 h)

length_more : (k n : ℕ) → 10 ≤ n → length (decimal_from (suc k) n) ≡ length (decimal_from k (n / 10)) + 1
unfolding decimal_from
length_more k n h = rw (le-ltb n 10 h) (length-append (decimal_from k (n / 10)) (glyph_of (n % 10) ∷ []))

power_above : (k : ℕ) → 0 < 10 ^ k
power_above zero = omega arith
power_above (suc k) = let h = power_above k in rw pow-suc (omega arith)

length_power : (m k n : ℕ) → k < m → 10 ^ k ≤ n → n < 10 * 10 ^ k → k + 1 ≡ length (decimal_from m n)
length_power zero k n m a b = absurd (omega arith)
length_power (suc m) zero n h a b = sym (length_last m n (omega arith))
length_power (suc m) (suc k) n h a b =
    let p : 0 < 10 ^ k = power_above k in
    let c : 10 ^ k * 10 ≤ n = rw pow-suc at a in
    let d : n < 10 * (10 ^ k * 10) = rw pow-suc at b in
    let e = length_power m k (n / 10) (omega arith) ((le-div_iff_mul-le {k = 10} {x = 10 ^ k} {y = n} (omega arith)).1 c)
    ((div-lt_iff_lt-mul {k = 10} {x = n} {y = 10 * 10 ^ k} (omega arith)).1 (omega arith)) in
    let f = length_more m n (omega arith) in
    omega arith

pub digits_counted : (n k : ℕ) → k < 20 → 10 ^ k ≤ max n 1 → max n 1 < 10 * 10 ^ k → k + 1 ≡ length (decimal_text n)
unfolding decimal_text
digits_counted zero k h a b = go k h a b
  where
    go : (k : ℕ) → k < 20 → 10 ^ k ≤ 1 → 1 < 10 * 10 ^ k → k + 1 ≡ length (decimal_from 20 0)
    go zero h a b = sym (length_last 19 0 (omega arith))
    go (suc k) h a b =
        let p : 0 < 10 ^ k = power_above k in
        let c : 10 ^ k * 10 ≤ 1 = rw pow-suc at a in
        absurd (omega arith)
digits_counted (suc n) k h a b = let m : max (suc n) 1 ≡ suc n = omega arith in length_power 20 k (suc n) h (rw m at a) (rw m at b)
