-- The remainder of any two f64, by the tests of the code: where it is the number itself, where there is one to be found, and where there is none. Assumes nothing.
use Rattle.std.proofs.Common.{◌≡◌, ℕ, ◌*◌, ◌%◌, ◌<◌, ◌≤◌, true, false, T, cond, eqb, sym, refl, ltb→lt, nltb→le, true≢false, arith}
use lib.Ieee.{Float, nan, inf, fin, binary64, fits, lt, rem, up, down, round}
use lib.Ieee.Fits.{up_pos}
use lib.Ieee.Positive.{num, den}
use lib.Ieee.Scale.{finite}
use Rattle.ieee754.specs.Sign.{absolute, plus_zero}
use Rattle.ieee754.proofs.Fields.{yes, no}
use Rattle.ieee754.proofs.SmallRemainder.{rem_below}

-- a number that is smaller in size
pub less : (x y : Float) → T (fits binary64 x) → lt (absolute x) (absolute y) ≡ true → x ≡ rem binary64 x y
unfolding lt absolute rem
less nan y p h = absurd (true≢false (sym h))
less (inf s) nan p h = absurd (true≢false (sym h))
less (inf s) (inf t) p h = absurd (true≢false (sym h))
less (inf s) (fin t n d) p h = absurd (true≢false (sym h))
less (fin s m e) nan p h = absurd (true≢false (sym h))
less (fin s m e) (inf t) p h = refl
less (fin s m e) (fin t n d) p h = rem_below binary64 s t m n e d p (ltb→lt (m * up e * down d) (n * up d * down e) (yes h))

pub record Found (x y : Float) : Type 0 where
  pub dividend : T (finite x)
  pub divisor : T (finite y)
  pub some : 0 < num y
  pub large : num y * den x ≤ num x * den y

more : (a d : ℕ) → 0 * 1 * d < a * 1 → 0 < a
more a d h = omega arith

-- there is one to be found
pub found : (x y : Float) → lt (absolute x) (absolute y) ≡ false → lt (absolute x) (inf false) ≡ true → lt plus_zero (absolute y) ≡ true → Found x y
unfolding lt absolute
found nan y h k g = absurd (true≢false (sym k))
found (inf s) y h k g = absurd (true≢false (sym k))
found (fin s m e) nan h k g = absurd (true≢false (sym g))
found (fin s m e) (inf t) h k g = absurd (true≢false h)
found (fin s m e) (fin t n d) h k g = record {
  dividend = tt;
  divisor = tt;
  some = more (n * up d) (down d) (ltb→lt (0 * 1 * down d) (n * up d * 1) (yes g));
  large = nltb→le (m * up e * down d) (n * up d * down e) (no h);
}

-- none of an infinity
pub none_of_infinity : (x y : Float) → lt (absolute x) (inf false) ≡ false → nan ≡ rem binary64 x y
unfolding lt absolute rem
none_of_infinity nan y h = refl
none_of_infinity (inf s) y h = refl
none_of_infinity (fin s m e) y h = absurd (true≢false h)

-- none by 0
zero_of : (n u d : ℕ) → 0 < u → n * u * 1 ≤ 0 * 1 * d → n ≡ 0
zero_of n u d p h = go n h
  where
    go : (n : ℕ) → n * u * 1 ≤ 0 * 1 * d → n ≡ 0
    go n h = let k : n ≤ n * u = native.Mathlib.Nat.le-mul_of_pos_right n p in omega arith

pub none_by_zero : (x y : Float) → lt (absolute x) (absolute y) ≡ false → lt (absolute x) (inf false) ≡ true → lt plus_zero (absolute y) ≡ false → nan ≡ rem binary64 x y
unfolding lt absolute rem
none_by_zero nan y h k g = refl
none_by_zero (inf s) y h k g = refl
none_by_zero (fin s m e) nan h k g = refl
none_by_zero (fin s m e) (inf t) h k g = absurd (true≢false h)
none_by_zero (fin s m e) (fin t n d) h k g = by_none n (zero_of n (up d) (down d) (up_pos d) (nltb→le (0 * 1 * down d) (n * up d * 1) (no g)))
  where
    by_none : (z : ℕ) → z ≡ 0 → nan ≡ cond (eqb z 0) nan (round binary64 s (m * up e * down d % (n * up d * down e)) (down e * down d))
    by_none z q = rw q refl
