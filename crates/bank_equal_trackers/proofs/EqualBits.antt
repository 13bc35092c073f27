-- Numbers that compare equal and have the same bits are the same. Assumes nothing.
use mathlib.Core.Path.{◌≡◌, refl, ap, sym, ◌∙◌}
use mathlib.Core.Bool.{Bool, true, false, not, true≢false, ◌&&◌}
use lib.Dec.{T, eqb}
use lib.Ieee.{Float, nan, inf, fin, binary64, fits, is_nan, eq, to_bits, of_bits}
use lib.Ieee.Bits.{of_bits-to_bits}
use borrow.Author.Tests.{eqb-true}

-- what a number compares equal to is a number
pub is_number : (x y : Float) → eq x y ≡ true → T (not (is_nan y))
unfolding eq is_nan
is_number nan nan h = absurd (true≢false (sym h))
is_number (inf s) nan h = absurd (true≢false (sym h))
is_number (fin s m e) nan h = absurd (true≢false (sym h))
is_number x (inf s) h = tt
is_number x (fin s m e) h = tt

pub bits_tell : (x y : Float) → T (fits binary64 x) → T (fits binary64 y) → eqb (to_bits binary64 x) (to_bits binary64 y) ≡ true → x ≡ y
bits_tell x y F G h = sym (of_bits-to_bits binary64 x F) ∙ ap (of_bits binary64) (eqb-true _ _ h) ∙ of_bits-to_bits binary64 y G

-- two tests that both passed
pub both : (a b : Bool) → (a && b) ≡ true → (a ≡ true) × (b ≡ true)
both true b h = (refl, h)
both false b h = absurd (true≢false (sym h))
