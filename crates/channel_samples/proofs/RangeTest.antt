-- Being at least -1,024 and at most 1,024 is being at most 1,024 in size. Assumes nothing.
use mathlib.Core.Path.{◌≡◌, refl, ap, sym, ◌∙◌}
use mathlib.Core.List.{List, [], ◌∷◌}
use mathlib.Core.Bool.{Bool, true, false, ◌&&◌, ◌||◌, and-true}
use Prim.Native.Nat.{ℕ, ◌+◌, ◌*◌, ◌<◌}
use native.Mathlib.Omega.{arith}
use borrow.Author.Tests.{lt-ltb, eq-eqb, ne_eqb, eqb-true, eqb-false}
use lib.Dec.{eqb}
use lib.IntN.{pos}
use lib.Ieee.{Float, nan, inf, fin, up, down, below, level, of_bits, neg, lt, le, eq}
use lib.Ieee.Fits.{down_pos}
use Rattle.std.specs.List.{list_all}
use Rattle.sequences.specs.Folds.{every}
use Rattle.ieee754.specs.Sign.{absolute}
use Rattle.ieee754.specs.Binary32.{two_to10}
use Rattle.channel_samples.specs.Limits.{in_range}

abbrev high : Float
high = fin false 1 (pos 10)

abbrev low : Float
low = fin true 1 (pos 10)

high_is : two_to10 ≡ high
unfolding of_bits
high_is = refl

low_is : neg two_to10 ≡ low
unfolding neg of_bits
low_is = refl

eqb_turned : (a b : ℕ) → eqb a b ≡ eqb b a
eqb_turned a b = go (eqb a b) refl
  where
    go : (t : Bool) → eqb a b ≡ t → t ≡ eqb b a
    go true e = sym (eq-eqb b a (sym (eqb-true a b e)))
    go false e = sym (ne_eqb b a (λ q. eqb-false a b e (sym q)))

-- the limit a and the size b, over one denominator: b is above -a and -b is below a, so that one test of the two is left
module _ (a b : ℕ) (h : 0 < a) where
  positive : ((below true a false b || level true a false b) && (below false b false a || level false b false a)) ≡ (below false b false a || level false b false a)
  positive = ap (λ (t : Bool). (t || level true a false b) && (below false b false a || level false b false a)) (lt-ltb 0 (a + b) (omega arith))

  negative : ((below true a true b || level true a true b) && (below true b false a || level true b false a)) ≡ (below false b false a || level false b false a)
  negative =
      ap (λ (t : Bool). (below true a true b || level true a true b) && (t || level true b false a)) (lt-ltb 0 (b + a) (omega arith))
      ∙ and-true (below true a true b || level true a true b)
      ∙ ap (λ (t : Bool). below true a true b || (t && true)) (eqb_turned a b)

limit : (d : ℕ) → 0 < d → 0 < 1 * 1024 * d
limit d h = omega arith

between : (x : Float) → (le low x && le x high) ≡ le (absolute x) high
unfolding le lt eq absolute
between nan = refl
between (inf true) = refl
between (inf false) = refl
between (fin false m e) = positive (1 * 1024 * down e) (m * up e * 1) (limit (down e) (down_pos e))
between (fin true m e) = negative (1 * 1024 * down e) (m * up e * 1) (limit (down e) (down_pos e))

pub range_test : (x : Float) → (le (neg two_to10) x && le x two_to10) ≡ in_range x
unfolding in_range
range_test x = rw (low_is, high_is) (between x)

-- the library's test of each element is `every`
pub each_is_every : (p : Float → Bool) (xs : List Float) → list_all p xs ≡ every p xs
unfolding every
each_is_every p [] = refl
each_is_every p (x ∷ xs) = ap (λ (b : Bool). p x && b) (each_is_every p xs)
