-- A sum is finite only where its terms are, and a product only where its factors are. The library's test tells whether a float is.
use mathlib.Core.Path.{◌≡◌, refl, sym, ap, ◌∙◌}
use mathlib.Core.Bool.{Bool, true, false, ◌&&◌, cond, true≢false}
use lib.Dec.{eqb}
use lib.Ieee.{Float, nan, inf, fin, Format, unlike, neg, add, sub, mul}
use lib.Ieee.Scale.{finite}
use Rattle.std.specs.Float.{float_is_finite}
use Rattle.ieee754_rounding.proofs.Commutation.{mul_commutes}

-- a test that failed did not pass
pub no {ℓ} : {A : Type ℓ} → false ≡ true → A
no h = absurd (true≢false (sym h))

-- nan or an infinity
not_finite : (b s : Bool) → finite (cond b nan (inf s)) ≡ false
not_finite true s = refl
not_finite false s = refl

-- ---- sums

pub first_term : (f : Format) (x y : Float) → finite (add f x y) ≡ true → finite x ≡ true
unfolding add
first_term f nan y h = h
first_term f (inf s) nan h = no h
first_term f (inf true) (inf true) h = no h
first_term f (inf true) (inf false) h = no h
first_term f (inf false) (inf true) h = no h
first_term f (inf false) (inf false) h = no h
first_term f (inf s) (fin t n d) h = no h
first_term f (fin s m e) y h = refl

pub second_term : (f : Format) (x y : Float) → finite (add f x y) ≡ true → finite y ≡ true
unfolding add
second_term f nan y h = no h
second_term f (inf s) nan h = no h
second_term f (inf true) (inf true) h = no h
second_term f (inf true) (inf false) h = no h
second_term f (inf false) (inf true) h = no h
second_term f (inf false) (inf false) h = no h
second_term f (inf s) (fin t n d) h = refl
second_term f (fin s m e) nan h = no h
second_term f (fin s m e) (inf t) h = no h
second_term f (fin s m e) (fin t n d) h = refl

turned_back : (x : Float) → finite (neg x) ≡ true → finite x ≡ true
unfolding neg
turned_back nan h = h
turned_back (inf s) h = h
turned_back (fin s m e) h = refl

pub minuend : (f : Format) (x y : Float) → finite (sub f x y) ≡ true → finite x ≡ true
unfolding sub
minuend f x y h = first_term f x (neg y) h

pub subtrahend : (f : Format) (x y : Float) → finite (sub f x y) ≡ true → finite y ≡ true
unfolding sub
subtrahend f x y h = turned_back y (second_term f x (neg y) h)

-- ---- products

pub first_factor : (f : Format) (x y : Float) → finite (mul f x y) ≡ true → finite x ≡ true
unfolding mul
first_factor f nan y h = h
first_factor f (inf s) nan h = no h
first_factor f (inf s) (inf t) h = no h
first_factor f (inf s) (fin t n d) h = no (sym (not_finite (eqb n 0) (unlike s t)) ∙ h)
first_factor f (fin s m e) y h = refl

pub second_factor : (f : Format) (x y : Float) → finite (mul f x y) ≡ true → finite y ≡ true
second_factor f x y h = first_factor f y x (ap finite (mul_commutes f y x) ∙ h)

-- ---- two tests

pub both_true : (a b : Bool) → a && b ≡ true → (a ≡ true) × (b ≡ true)
both_true true b h = (refl, h)
both_true false b h = no h

-- ---- the library's test

pub same_finite : (x : Float) → float_is_finite x ≡ finite x
unfolding float_is_finite
same_finite nan = refl
same_finite (inf s) = refl
same_finite (fin s m e) = refl
