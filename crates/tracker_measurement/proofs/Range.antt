-- Within the range, from 0 to below its length, Rust's `rem_euclid` changes nothing: the remainder is the number itself and not negative.
use Rattle.std.proofs.Common.{◌≡◌, Bool, true, false, cond, ◌&&◌, T, sym, refl, ap, ◌∙◌, subst}
use lib.Ieee.{Float, binary64, add, rem, lt, le, fits, of_bits}
use lib.Ieee.Fits.{and_l, and_r}
use Rattle.ieee754_rounding.proofs.FloatOrder.{lt_not_le}
use Rattle.ieee754.specs.Sign.{absolute, plus_zero}
use Rattle.ieee754.specs.Remainder.{rem_euclid}
use Rattle.ieee754.proofs.SmallRemainder.{small_remainder}

not_negative : (x : Float) → T (le (of_bits binary64 0) x) → lt x plus_zero ≡ false
unfolding of_bits
not_negative x g = go (lt x plus_zero) refl
  where
    go : (b : Bool) → lt x plus_zero ≡ b → b ≡ false
    go true e = absurd (lt_not_le x plus_zero (subst T (sym e) tt) g)
    go false e = refl

pub within_range : (y n : Float) → T (fits binary64 y) → le (of_bits binary64 0) y && lt y n ≡ true → y ≡ rem_euclid binary64 y n
unfolding rem_euclid
within_range y n f h =
    let b : T (le (of_bits binary64 0) y && lt y n) = subst T (sym h) tt in
    let g = and_l (le (of_bits binary64 0) y) (lt y n) b in
    let e = small_remainder binary64 y n f g (and_r (le (of_bits binary64 0) y) (lt y n) b) in
    let no : lt (rem binary64 y n) plus_zero ≡ false = ap (λ (z : Float). lt z plus_zero) (sym e) ∙ not_negative y g in
    e ∙ ap (λ (t : Bool). cond t (add binary64 (rem binary64 y n) (absolute n)) (rem binary64 y n)) (sym no)
