-- A float's sign by its bit pattern.
use mathlib.Core.Path.{◌≡◌, refl, sym, ap, ◌∙◌, subst}
use mathlib.Core.Bool.{Bool, true, false, not, cond}
use Prim.Native.Nat.{ℕ, zero, suc, ◌+◌, ◌-◌, ◌*◌, ◌/◌, ◌%◌, ◌^◌, ◌≤◌, ◌<◌}
use native.Mathlib.Omega.{arith}
use lib.Dec.{T, leb, eqb, leb→le, nleb→lt}
use lib.Ieee.{Float, nan, inf, fin, binary64, odd, of_fields, of_bits, to_bits, is_nan, fits}
use lib.Ieee.Bits.{of_bits-to_bits, to_bits-lt}
use lib.Ieee.Positive.{positive}
use Rattle.ieee754.specs.Sign.{absolute, sign_bit}

-- ---- the sign

sign_odd : (d : ℕ) (s : Bool) (q k l : ℕ) → sign_bit (odd d s q k l) ≡ s
unfolding odd
sign_odd d s zero k l = refl
sign_odd d s (suc q) k l = refl

sign_fields : (s : Bool) (x t : ℕ) → T (not (is_nan (of_fields binary64 s x t))) → sign_bit (of_fields binary64 s x t) ≡ s
unfolding of_fields is_nan
sign_fields s zero t h = sign_odd 53 s t 0 1074
sign_fields s (suc x) t h = go (eqb (suc x) 2047) (eqb t 0) h
  where
    go : (b c : Bool) → T (not (is_nan (cond b (cond c (inf s) nan) (odd 53 s (2 ^ 52 + t) x 1074)))) → sign_bit (cond b (cond c (inf s) nan) (odd 53 s (2 ^ 52 + t) x 1074)) ≡ s
    go true true h = refl
    go true false h = absurd h
    go false c h = sign_odd 53 s (2 ^ 52 + t) x 1074

sign_at : (b : ℕ) → T (not (is_nan (of_bits binary64 b))) → sign_bit (of_bits binary64 b) ≡ leb (2 ^ 63) b
unfolding of_bits
sign_at b h = sign_fields (leb (2 ^ 63) b) (b % 2 ^ 63 / 2 ^ 52) (b % 2 ^ 52) h

pub sign_bits : (x : Float) → T (fits binary64 x) → T (not (is_nan x)) → leb (2 ^ 63) (to_bits binary64 x) ≡ sign_bit x
sign_bits x F N = sym (sign_at (to_bits binary64 x) (subst (λ (z : Float). T (not (is_nan z))) (sym (of_bits-to_bits binary64 x F)) N)) ∙ ap sign_bit (of_bits-to_bits binary64 x F)

-- the same as a number
pub sign_bit_lem : (x : Float) → T (fits binary64 x) → T (not (is_nan x)) → to_bits binary64 x - to_bits binary64 x % 2 ^ 63 ≡ cond (sign_bit x) (2 ^ 63) 0
sign_bit_lem x F N = go (to_bits binary64 x) (leb (2 ^ 63) (to_bits binary64 x)) (leb→le (2 ^ 63) (to_bits binary64 x)) (nleb→lt (2 ^ 63) (to_bits binary64 x)) (to_bits-lt binary64 x F) ∙ ap (λ (s : Bool). cond s (2 ^ 63) 0) (sign_bits x F N)
  where
    set : (b : ℕ) → 2 ^ 63 ≤ b → b < 2 * 2 ^ 63 → b - b % 2 ^ 63 ≡ 2 ^ 63
    set b h k = omega arith

    clear : (b : ℕ) → b < 2 ^ 63 → b - b % 2 ^ 63 ≡ 0
    clear b h = omega arith

    go : (b : ℕ) (s : Bool) → (T s → 2 ^ 63 ≤ b) → (T (not s) → b < 2 ^ 63) → b < 2 * 2 ^ 63 → b - b % 2 ^ 63 ≡ cond s (2 ^ 63) 0
    go b true f g k = set b (f tt) k
    go b false f g k = clear b (g tt)

pub absolute_sign : (x : Float) → sign_bit (absolute x) ≡ false
unfolding absolute
absolute_sign nan = refl
absolute_sign (inf s) = refl
absolute_sign (fin s m e) = refl

-- what has a size above 0 is no NaN
pub positive_no_nan : (x : Float) → T (positive (absolute x)) → T (not (is_nan x))
unfolding absolute is_nan
positive_no_nan nan p = absurd p
positive_no_nan (inf s) p = tt
positive_no_nan (fin s m e) p = tt
