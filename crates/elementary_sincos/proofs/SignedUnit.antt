-- Rounding is the same for either sign, so a difference is the distance in units of the difference's sign.
use mathlib.Core.Path.{◌≡◌, sym, ap, ◌∙◌}
use mathlib.Core.Bool.{Bool, true, false, not, cond}
use Prim.Native.Nat.{ℕ, ◌-◌, ◌≤◌, ◌<◌}
use native.Mathlib.Omega.{arith}
use lib.IntN.{pos}
use lib.Dec.{T, ltb, leb, leb→le, nleb→lt}
use borrow.Author.Tests.{lt-ltb, le-ltb}
use lib.Ieee.{binary64, neg, of_int}
use Rattle.ieee754_rounding.specs.Distance.{distance}
use Rattle.ieee754_rounding.proofs.Opposites.{neg_neg, mul_neg}
use Rattle.elementary_fixed_point.specs.Conversion.{scaled}
use Rattle.ieee754.specs.Sign.{signed}
use Rattle.elementary_sincos.specs.Steps.{difference}
use Rattle.ieee754.specs.Binary64.{two_to_minus53}

scaled_neg : (d : ℕ) → scaled d (neg two_to_minus53) ≡ neg (scaled d two_to_minus53)
unfolding scaled
scaled_neg d = mul_neg binary64 (of_int binary64 (pos d)) two_to_minus53

pub signed_difference : (p n : ℕ) (negative : Bool) → scaled (distance p n) (signed negative (signed (ltb p n) two_to_minus53)) ≡ signed negative (difference p n)
unfolding difference
signed_difference p n negative = go negative (leb n p) (leb→le n p) (nleb→lt n p)
  where
    above : (p n : ℕ) → n ≤ p → distance p n ≡ p - n
    above p n h = omega arith

    under : (p n : ℕ) → p < n → distance p n ≡ n - p
    under p n h = omega arith

    go : (s b : Bool) → (T b → n ≤ p) → (T (not b) → p < n) → scaled (distance p n) (signed s (signed (ltb p n) two_to_minus53)) ≡ signed s (cond b (scaled (p - n) two_to_minus53) (neg (scaled (n - p) two_to_minus53)))
    go false true f g = rw (le-ltb p n (f tt), above p n (f tt))
    go true true f g = rw (le-ltb p n (f tt), above p n (f tt)) (scaled_neg (p - n))
    go false false f g = rw (lt-ltb p n (g tt), under p n (g tt)) (scaled_neg (n - p))
    go true false f g = rw (lt-ltb p n (g tt), under p n (g tt)) (ap (scaled (n - p)) (neg_neg two_to_minus53) ∙ sym (neg_neg (scaled (n - p) two_to_minus53)))
