-- `rem_euclid` of a finite number by a positive one of the format is not below 0. For any format. Assumes nothing.
use Rattle.std.proofs.Common.{◌≡◌, ℕ, ◌*◌, ◌%◌, ◌<◌, Bool, true, false, cond, not, T, ℤ, pos, sym, refl, subst, le_of_eq, le_of_lt, mul-le-mul_right, mod-lt, mul_assoc, mul-pos, ltb→lt}
use native.Mathlib.Nat as nat
use lib.Ieee.{Float, nan, inf, fin, Format, up, down, neg, lt, le, eq, is_nan, round, add, rem, fits}
use lib.Ieee.Fits.{up_pos, down_pos}
use lib.Ieee.Order.{round_mono}
use lib.Ieee.Scale.{finite}
use lib.Ieee.Positive.{positive, positive-finite}
use Rattle.ieee754_rounding.proofs.FloatOrder.{le_refl, le_trans, neg_le, le_of_not_lt, right_number}
use Rattle.ieee754_rounding.proofs.MonotoneSums.{round_above, add_mono, opposite_sum}
use Rattle.ieee754_rounding.proofs.Opposites.{neg_round}
use Rattle.ieee754.specs.Sign.{absolute, plus_zero}
use Rattle.ieee754.specs.Remainder.{rem_euclid}
use Rattle.ieee754.proofs.SmallRemainder.{round_own, rem_is}

minus_zero : T (le (fin true 0 (pos 0)) plus_zero)
unfolding le lt eq
minus_zero = tt

-- what `rem` answers where it divides
record Kept (f : Format) (x y : Float) : Type 0 where
  sign : Bool
  part : ℕ
  unit : ℕ
  is : rem f x y ≡ round f sign part unit
  above : 0 < unit
  within : T (le (round f false part unit) y)

kept : (f : Format) (x y : Float) → T (finite x) → T (positive y) → T (fits f y) → Kept f x y
kept f nan y p q t = absurd p
kept f (inf s) y p q t = absurd p
kept f (fin s m e) nan p q t = absurd q
kept f (fin s m e) (inf r) p q t = absurd q
kept f (fin s m e) (fin true n d) p q t = absurd q
kept f (fin s m e) (fin false n d) p q t =
    let B = n * up d * down e in
    let r = m * up e * down d % B in
    let c = down e * down d in
    let B-pos : 0 < B = mul-pos (mul-pos (ltb→lt 0 n q) (up_pos d)) (down_pos e) in
    let c_pos : 0 < c = mul-pos (down_pos e) (down_pos d) in
    record {
      sign = s;
      part = r;
      unit = c;
      is = rem_is f s false m n e d (ltb→lt 0 n q);
      above = c_pos;
      within = le_trans (round f false r c) (round f false (n * up d) (down d)) (fin false n d)
          (round_mono f r c (n * up d) (down d) c_pos (down_pos d) (nat.le_trans (mul-le-mul_right (down d) (le_of_lt (mod-lt (m * up e * down d) B-pos))) (le_of_eq (mul_assoc (n * up d) (down e) (down d)))))
          (rounds-to-itself n d t);
    }
  where
    rounds-to-itself : (n : ℕ) (d : ℤ) → T (fits f (fin false n d)) → T (le (round f false (n * up d) (down d)) (fin false n d))
    rounds-to-itself n d t = subst (λ (z : Float). T (le z (fin false n d))) (round_own f false n d t) (le_refl (fin false n d) (unfold is_nan in tt))

-- the remainder before anything is added to it
rem_from : (f : Format) (x y : Float) → T (finite x) → T (positive y) → T (fits f y) → T (le (neg y) (rem f x y))
rem_from f x y p q t =
    let k = kept f x y p q t in
    subst (λ (z : Float). T (le (neg y) z)) (sym k.is) (go k.sign k.part k.unit k.above k.within)
  where
    go : (s : Bool) (a c : ℕ) → 0 < c → T (le (round f false a c) y) → T (le (neg y) (round f s a c))
    go true a c C h = subst (λ (w : Float). T (le (neg y) w)) (neg_round f false a c) (neg_le (round f false a c) y h)
    go false a c C h =
        le_trans (neg y) (fin true 0 (pos 0)) (round f false a c) (unfold neg in neg_le plus_zero y (le_trans plus_zero (round f false a c) y (round_above f a c C) h))
        (le_trans (fin true 0 (pos 0)) plus_zero (round f false a c) minus_zero (round_above f a c C))

absolute_positive : (y : Float) → T (positive y) → absolute y ≡ y
unfolding absolute
absolute_positive nan q = refl
absolute_positive (inf s) q = absurd q
absolute_positive (fin true n d) q = absurd q
absolute_positive (fin false n d) q = refl

pub rem_euclid_from_zero : (f : Format) (x y : Float) → T (finite x) → T (positive y) → T (fits f y) → T (le plus_zero (rem_euclid f x y))
unfolding rem_euclid
rem_euclid_from_zero f x y p q t =
    subst (λ (z : Float). T (le plus_zero (cond (lt r plus_zero) (add f r z) r))) (sym (absolute_positive y q)) (go (lt r plus_zero) refl)
  where
    r : Float
    r = rem f x y

    go : (b : Bool) → lt r plus_zero ≡ b → T (le plus_zero (cond b (add f r y) r))
    go true e = subst (λ (z : Float). T (le z (add f r y))) (opposite_sum f y (positive-finite y q)) (add_mono f (neg y) r y (positive-finite y q) (rem_from f x y p q t))
    go false e = le_of_not_lt r plus_zero (right_number (neg y) r (rem_from f x y p q t)) (unfold is_nan in tt) (subst (λ (b : Bool). T (not b)) (sym e) tt)
