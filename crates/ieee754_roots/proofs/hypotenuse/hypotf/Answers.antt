-- `ieee754_roots::hypotenuse::hypotf` meets its contract: a NaN leg makes a NaN, and otherwise it is what the root ensures. Assumes nothing.
use Rattle.std.proofs.Common.{◌≡◌, Bool, true, false, ◌||◌, T, ◌⊎◌, sym, refl, ap, ◌∙◌, subst, inl, inr}
use lib.Ieee.{Float, nan, inf, fin, binary32, binary64, add, mul, is_nan}
use Rattle.ieee754.specs.SquareRoot.{sqrt}
use Rattle.ieee754.specs.Conversion.{convert}
use Rattle.ieee754.specs.Hypotenuse.{hypotenuse}
use Rattle.ieee754.proofs.Fields.{yes, nan_32, is_the_nan}
use Rattle.ieee754_roots.proofs.hypotenuse.hypotf.Goals as goal

or_cases : (p q : Bool) → T (p || q) → T p ⊎ T q
or_cases true q h = inl tt
or_cases false q h = inr h

first_nan : (y : Float) → nan ≡ convert binary32 (hypotenuse nan y)
unfolding add mul sqrt convert
first_nan y = refl

nan_squared : mul binary64 nan nan ≡ nan
unfolding mul
nan_squared = refl

plus_nan : (z : Float) → nan ≡ convert binary32 (sqrt binary64 (add binary64 z nan))
unfolding add sqrt convert
plus_nan nan = refl
plus_nan (inf s) = refl
plus_nan (fin s m e) = refl

nan_leg : (x y : Float) → T (is_nan x || is_nan y) → nan ≡ convert binary32 (hypotenuse x y)
nan_leg x y h = elim (or_cases (is_nan x) (is_nan y) h) [
  | inl t ↦ subst (λ (z : Float). nan ≡ convert binary32 (hypotenuse z y)) (sym (is_the_nan x t)) (first_nan y)
  | inr t ↦ subst (λ (z : Float). nan ≡ convert binary32 (hypotenuse x z)) (sym (is_the_nan y t)) (plus_nan (mul binary64 x x) ∙ ap (λ (z : Float). convert binary32 (sqrt binary64 (add binary64 (mul binary64 x x) z))) (sym nan_squared))
]

pub returns-then-is_nan : goal.returns-then-is_nan
returns-then-is_nan c = nan_32 ∙ nan_leg c.args.x c.args.y (yes (rw (sym c.is_nan.ensures.value, sym c.is_nan-2.ensures.value) c.if-is_nan.true))
