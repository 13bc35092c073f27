-- The size of an f64 by its bit pattern: the sign's bit cleared. Assumes nothing.
use Rattle.std.proofs.Common.{◌≡◌, ℕ, zero, suc, ◌+◌, ◌/◌, ◌%◌, ◌^◌, ◌<◌, Bool, true, false, cond, not, T, eqb, leb, sym, refl, ap, ◌∙◌, subst, arith}
use borrow.Author.Tests.{lt-leb}
use lib.Ieee.{Float, nan, inf, fin, binary64, odd, of_fields, of_bits, to_bits, nan_bits, is_nan, fits}
use lib.Ieee.Bits.{of_bits-to_bits, nan_bits_is}
use Rattle.ieee754.specs.Sign.{absolute}

size_odd : (d : ℕ) (s : Bool) (q k l : ℕ) → odd d false q k l ≡ absolute (odd d s q k l)
unfolding odd absolute
size_odd d s zero k l = refl
size_odd d s (suc q) k l = refl

size_fields : (s : Bool) (x t : ℕ) → of_fields binary64 false x t ≡ absolute (of_fields binary64 s x t)
unfolding of_fields absolute
size_fields s zero t = size_odd 53 s t 0 1074
size_fields s (suc x) t = go (eqb (suc x) 2047) (eqb t 0)
  where
    go : (b c : Bool) → cond b (cond c (inf false) nan) (odd 53 false (2 ^ 52 + t) x 1074) ≡ absolute (cond b (cond c (inf s) nan) (odd 53 s (2 ^ 52 + t) x 1074))
    go true true = refl
    go true false = refl
    go false c = size_odd 53 s (2 ^ 52 + t) x 1074

size_at : (b : ℕ) → of_bits binary64 (b % 2 ^ 63) ≡ absolute (of_bits binary64 b)
unfolding of_bits
size_at b =
    ap (λ (s : Bool). of_fields binary64 s (b % 2 ^ 63 % 2 ^ 63 / 2 ^ 52) (b % 2 ^ 63 % 2 ^ 52)) (lt-leb (2 ^ 63) (b % 2 ^ 63) (less b))
    ∙ ap (λ (z : ℕ). of_fields binary64 false (z / 2 ^ 52) (b % 2 ^ 63 % 2 ^ 52)) (again b)
    ∙ ap (λ (z : ℕ). of_fields binary64 false (b % 2 ^ 63 / 2 ^ 52) z) (digits b)
    ∙ size_fields (leb (2 ^ 63) b) (b % 2 ^ 63 / 2 ^ 52) (b % 2 ^ 52)
  where
    less : (b : ℕ) → b % 2 ^ 63 < 2 ^ 63
    less b = omega arith

    again : (b : ℕ) → b % 2 ^ 63 % 2 ^ 63 ≡ b % 2 ^ 63
    again b = omega arith

    digits : (b : ℕ) → b % 2 ^ 63 % 2 ^ 52 ≡ b % 2 ^ 52
    digits b = omega arith

pub size_bits : (x : Float) → T (fits binary64 x) → of_bits binary64 (to_bits binary64 x % 2 ^ 63) ≡ absolute x
size_bits x F = size_at (to_bits binary64 x) ∙ ap absolute (of_bits-to_bits binary64 x F)

pub absolute_no_nan : (x : Float) → T (not (is_nan x)) → T (not (is_nan (absolute x)))
unfolding absolute is_nan
absolute_no_nan nan h = h
absolute_no_nan (inf s) h = tt
absolute_no_nan (fin s m e) h = tt

pub size_no_nan : (x : Float) → T (fits binary64 x) → T (not (is_nan x)) → T (not (nan_bits binary64 (to_bits binary64 x % 2 ^ 63)))
size_no_nan x F N = subst (λ (b : Bool). T (not b)) (sym (nan_bits_is binary64 (to_bits binary64 x % 2 ^ 63))) (subst (λ (z : Float). T (not (is_nan z))) (sym (size_bits x F)) (absolute_no_nan x N))
