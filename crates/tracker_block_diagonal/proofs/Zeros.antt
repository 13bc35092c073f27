-- What stays +0 beside a zero: +0 plus or minus a zero of either sign, where the zero is a product with 0 of finite factors. And what a 0 leaves alone.
use mathlib.Core.Path.{◌≡◌, refl, sym, ap, ◌∙◌, subst}
use mathlib.Core.Bool.{Bool, true, false, not}
use Prim.Native.Nat.{ℕ, zero, suc, ◌*◌}
use native.Mathlib.Nat.{mul-pos}
use native.Mathlib.Omega.{arith}
use lib.Dec.{T}
use lib.IntN.{ℤ, pos}
use lib.Ieee.{Float, nan, inf, fin, binary64, up, down, unlike, neg, add, sub, mul, div, round, of_bits, fits}
use lib.Ieee.Scale.{finite}
use lib.Ieee.Fits.{up_pos, down_pos}
use lib.Ieee.Back.{whole_unique}
use lib.Ieee.Positive.{above}
use borrow.Author.Tests.{ne_eqb}
use Rattle.ieee754_rounding.proofs.Opposites.{round_zero, add_zeros, add_to_zero}
use Rattle.ieee754_rounding.proofs.Commutation.{mul_commutes, add_commutes}
use Rattle.ieee754.proofs.SmallRemainder.{round_own}
use Rattle.ieee754.specs.Sign.{absolute}
use Rattle.tracker_block_diagonal.proofs.Finite.{no}
use Rattle.sequences.proofs.Choices.{cond_no}
use Rattle.ieee754.specs.Binary64.{plus, minus, times, over}
use Rattle.ieee754.specs.Binary64 as float64

abbrev o : Float
o = float64.zero

-- +0 or -0
pub record Zero (x : Float) : Type 0 where
  pub sign : Bool
  pub is : x ≡ fin sign 0 (pos 0)

pub plus_zero_lem : Zero o
unfolding of_bits
plus_zero_lem = record { sign = false; is = refl }

-- ---- products

zero_product : (s t : Bool) (m n : ℕ) (e d : ℤ) → m * up e * (n * up d) ≡ 0 → Zero (mul binary64 (fin s m e) (fin t n d))
unfolding mul
zero_product s t m n e d h =
    record {
      sign = unlike s t;
      is =
          ap (λ (a : ℕ). round binary64 (unlike s t) a (down e * down d)) h
          ∙ round_zero binary64 (unlike s t) (down e * down d) (mul-pos (down_pos e) (down_pos d));
    }

by_finite : (s : Bool) (y : Float) → finite y ≡ true → Zero (mul binary64 (fin s 0 (pos 0)) y)
by_finite s nan h = no h
by_finite s (inf t) h = no h
by_finite s (fin t n d) h = zero_product s t 0 n (pos 0) d (flat (n * up d))
  where
    flat : (a : ℕ) → 0 * 1 * a ≡ 0
    flat a = omega arith

-- a zero times a finite number
pub zero_by : {x : Float} (y : Float) → Zero x → finite y ≡ true → Zero (times x y)
zero_by y z h = subst (λ (v : Float). Zero (times v y)) (sym z.is) (by_finite z.sign y h)

-- a finite number times 0
pub by_zero : (x : Float) → finite x ≡ true → Zero (times x o)
by_zero x h = subst Zero (mul_commutes binary64 o x) (zero_by x plus_zero_lem h)

-- ---- +0 and a zero

added : (s : Bool) → plus o (fin s 0 (pos 0)) ≡ o
unfolding of_bits
added s = add_zeros binary64 false s (pos 0) (pos 0)

taken : (s : Bool) → minus o (fin s 0 (pos 0)) ≡ o
unfolding of_bits sub neg
taken s = add_zeros binary64 false (not s) (pos 0) (pos 0)

pub plus_a_zero : {x : Float} → Zero x → plus o x ≡ o
plus_a_zero z = ap (plus o) z.is ∙ added z.sign

pub minus_a_zero : {x : Float} → Zero x → minus o x ≡ o
minus_a_zero z = ap (minus o) z.is ∙ taken z.sign

-- ---- what 0 leaves alone

-- a value of the format is its own nearest
own : (s : Bool) (m : ℕ) (e : ℤ) → T (fits binary64 (fin s m e)) → round binary64 s (m * up e) (down e) ≡ fin s m e
own s m e h = sym (round_own binary64 s m e h)

no_exponent : (s : Bool) (e : ℤ) → T (fits binary64 (fin s 0 e)) → fin s 0 (pos 0) ≡ fin s 0 e
unfolding fits
no_exponent s e h = whole_unique binary64 (fin s 0 (pos 0)) (fin s 0 e) s 0 (flat s) h (refl, refl) (refl, none (up e) (down e))
  where
    flat : (s : Bool) → T (fits binary64 (fin s 0 (pos 0)))
    flat s = tt

    none : (a b : ℕ) → 0 * a * 1 ≡ 0 * b
    none a b = omega arith

-- x + (-0)
kept : (x : Float) → T (fits binary64 x) → add binary64 (fin true 0 (pos 0)) x ≡ x
unfolding add
kept nan h = refl
kept (inf s) h = refl
kept (fin s zero e) h = add_zeros binary64 true s (pos 0) e ∙ no_exponent s e h
kept (fin s (suc m) e) h = add_to_zero binary64 true s (pos 0) e m ∙ own s (suc m) e h

minus_nothing : (x : Float) → T (fits binary64 x) → minus x o ≡ x
unfolding sub neg of_bits
minus_nothing x h = add_commutes binary64 x (fin true 0 (pos 0)) ∙ kept x h

pub zero_square : times o o ≡ o
unfolding mul round of_bits
zero_square = refl

-- x - 0 * 0
pub minus_zero_square : (x : Float) → T (fits binary64 x) → minus x (times o o) ≡ x
minus_zero_square x h = ap (minus x) zero_square ∙ minus_nothing x h

-- ---- by a number above 0

pub over_above : (s : Float) → T (above s) → over o s ≡ o
unfolding div of_bits
over_above nan h = absurd h
over_above (inf true) h = absurd h
over_above (inf false) h = refl
over_above (fin true m e) h = absurd h
over_above (fin false zero e) h = absurd h
over_above (fin false (suc m) e) h =
    let z : 0 * 1 * down e ≡ 0 = omega arith in
    cond_no _ _ (ne_eqb (suc m) 0 (λ (q : suc m ≡ 0). omega arith))
    ∙ ap (λ (a : ℕ). round binary64 false a (suc m * up e * 1)) z
    ∙ round_zero binary64 false (suc m * up e * 1) (mul-pos (mul-pos (omega arith) (up_pos e)) (omega arith))

pub absolute_above : (s : Float) → T (above s) → absolute s ≡ s
unfolding absolute
absolute_above nan h = absurd h
absolute_above (inf true) h = absurd h
absolute_above (inf false) h = refl
absolute_above (fin true m e) h = absurd h
absolute_above (fin false m e) h = refl
