-- The wrap differs from the source's steps at one f64 for each modulation, the one next below minus half the range. Where the steps end at plus half or above,
-- the remainder is negative and nearer to 0 than the length's last place, so it is the sum itself; and only one angle has such a sum. Assumes nothing.
use mathlib.Core.Path.{◌≡◌, refl, sym, ap, subst, ◌∙◌}
use mathlib.Core.Bool.{Bool, true, false, not, cond}
use Prim.Native.Nat.{◌+◌, ◌-◌}
use lib.Dec.{T, lit<, not_T}
use lib.Ieee.{Float, nan, inf, fin, binary64, neg, lt, le, is_nan, add, sub, rem, fits, of_bits}
use lib.Ieee.Bits.{is_true}
use lib.Ieee.Fits.{add-fits, rem-fits, cond-fits, neg-fits}
use lib.Ieee.Scale.{finite}
use lib.Ieee.Positive.{between, positive-finite}
use Rattle.ieee754_rounding.proofs.FloatOrder.{neg_le, le_refl, lt_le, le_trans, le_of_not_lt, lt_of_not_le, lt_not_le, left_number, right_number}
use Rattle.ieee754_rounding.proofs.MonotoneSums.{add_mono, opposite_sum}
use Rattle.ieee754_rounding.proofs.FormatValues.{before_next}
use Rattle.ieee754_rounding.proofs.Opposites.{neg_neg}
use Rattle.ieee754.specs.Sign.{absolute, plus_zero}
use Rattle.ieee754.specs.Remainder.{rem_euclid}
use Rattle.ieee754.proofs.SameValue.{same_of_le}
use Rattle.ieee754.proofs.RemainderSteps.{remainder_below, tiny_remainder}
use Rattle.ieee754.proofs.RemainderRange.{rem_euclid_from_zero}
use Rattle.tracker_measurement.specs.declared.modulation.Modulation.{Modulation}
use Rattle.tracker_measurement.specs.declared.modulation.Modulation.TheVariants.{Carrier, Bpsk, Qpsk}
use Rattle.tracker_measurement.specs.Phase.{limit, half_limit, centred, wrapped}
use Rattle.tracker_claims.specs.WrappedPhase.{next_below, OneAngle}
use Rattle.tracker_measurement.proofs.WrapSteps.{digits, places, before, lengths, stays_below}
use Rattle.tracker_claims.proofs.RangeNumbers.{last_place, second_below, numbers}
use Rattle.tracker_claims.proofs.WrappedPhase.{nan_steps, unordered}

-- ---- the f64s just above half the range
first_up : (m : Modulation) (x : Float) → T (fits binary64 x) → T (lt x (neg (next_below m))) → T (le x (half_limit m))
first_up m x t h = before_next binary64 x (neg (next_below m)) (half_limit m) (digits + 1) (places m - 1) t (lit< tt) (numbers m).next_counts (numbers m).half_counts h

second_up : (m : Modulation) (x : Float) → T (fits binary64 x) → T (lt x (neg (second_below m))) → T (le x (neg (next_below m)))
second_up m x t h = before_next binary64 x (neg (second_below m)) (neg (next_below m)) (digits + 2) (places m - 1) t (lit< tt) (numbers m).second_counts (numbers m).next_counts h

-- ---- a sum y whose steps end at plus half or above lies between a last place below 0 and 0
module _ (m : Modulation) (y : Float) (t : T (fits binary64 y)) (p : T (finite y)) (ends : T (le (half_limit m) (sub binary64 (rem_euclid binary64 y (limit m)) (half_limit m)))) where
  abbrev r : Float
  r = rem binary64 y (limit m)

  abbrev whole : Float
  whole = rem_euclid binary64 y (limit m)

  whole_fits : T (fits binary64 whole)
  unfolding rem_euclid
  whole_fits = cond-fits binary64 (lt r plus_zero) (add binary64 r (absolute (limit m))) r (add-fits binary64 r (absolute (limit m))) (rem-fits binary64 y (limit m) t)

  reaches : T (le (limit m) whole)
  reaches =
      le_of_not_lt whole (limit m) (right_number plus_zero whole (rem_euclid_from_zero binary64 y (limit m) p (numbers m).length_positive (numbers m).length_fits)) (numbers m).length_number
      (not_T (lt whole (limit m)) (λ (h : T (lt whole (limit m))). subst T (stays_below m whole whole_fits h) ends))

  -- the remainder alone does not reach the length
  negative : (b : Bool) → lt r plus_zero ≡ b → T (le (limit m) (cond b (add binary64 r (absolute (limit m))) r)) → b ≡ true
  negative true e h = refl
  negative false e h = absurd (lt_not_le r (limit m) (remainder_below binary64 y (limit m) digits (places m) t p (numbers m).length_digits) h)

  is_negative : lt r plus_zero ≡ true
  unfolding rem_euclid
  is_negative = negative (lt r plus_zero) refl reaches

  sum_reaches : T (le (limit m) (add binary64 r (limit m)))
  unfolding rem_euclid
  sum_reaches =
      subst (λ (z : Float). T (le (limit m) (add binary64 r z))) (numbers m).length_size
      (subst (λ (b : Bool). T (le (limit m) (cond b (add binary64 r (absolute (limit m))) r))) is_negative reaches)

  -- nor does it with the length, where it is a last place below 0 or more
  near : T (lt (neg (last_place m)) r)
  near = lt_of_not_le r (neg (last_place m)) (left_number r plus_zero (lt_le r plus_zero (subst T (sym is_negative) tt))) (numbers m).place_number (not_T (le r (neg (last_place m))) far)
    where
      far : T (le r (neg (last_place m))) → ⊥
      far h =
          subst T (numbers m).length_exceeds
          (le_trans (limit m) (add binary64 r (limit m)) (before m) sum_reaches
          (subst (λ (z : Float). T (le (add binary64 r (limit m)) z)) (numbers m).one_less (add_mono binary64 r (neg (last_place m)) (limit m) (positive-finite (limit m) (numbers m).length_positive) h)))

  own : y ≡ r
  own = tiny_remainder binary64 y (limit m) (last_place m) digits (places m) t p (numbers m).length_digits (numbers m).place_value (subst T (sym is_negative) tt) near

  sum_near : T (lt (neg (last_place m)) y)
  sum_near = subst (λ (z : Float). T (lt (neg (last_place m)) z)) (sym own) near

  sum_negative : T (lt y plus_zero)
  sum_negative = subst (λ (z : Float). T (lt z plus_zero)) (sym own) (subst T (sym is_negative) tt)

-- ---- and one angle has such a sum
sum_number : (x h : Float) → T (lt (add binary64 x h) plus_zero) → T (not (is_nan (neg x)))
unfolding add lt neg is_nan
sum_number nan h g = absurd g
sum_number (inf s) h g = tt
sum_number (fin s m e) h g = tt

module _ (m : Modulation) (angle : Float) (t : T (fits binary64 angle)) (near : T (lt (neg (last_place m)) (add binary64 angle (half_limit m)))) (negative : T (lt (add binary64 angle (half_limit m)) plus_zero)) where
  not_above : T (le (neg (half_limit m)) angle) → ⊥
  not_above h =
      lt_not_le (add binary64 angle (half_limit m)) plus_zero negative
      (subst (λ (z : Float). T (le z (add binary64 angle (half_limit m)))) (opposite_sum binary64 (half_limit m) (lengths m).half_finite) (add_mono binary64 (neg (half_limit m)) angle (half_limit m) (lengths m).half_finite h))

  not_below : T (le angle (second_below m)) → ⊥
  not_below h =
      lt_not_le (neg (last_place m)) (add binary64 angle (half_limit m)) near
      (subst (λ (z : Float). T (le (add binary64 angle (half_limit m)) z)) (numbers m).second_sum (add_mono binary64 angle (second_below m) (half_limit m) (lengths m).half_finite h))

  turned : (x : Float) → T (le (neg x) (neg angle)) → T (le angle x)
  turned x h = subst (λ (z : Float). T (le z x)) (neg_neg angle) (subst (λ (z : Float). T (le (neg (neg angle)) z)) (neg_neg x) (neg_le (neg x) (neg angle) h))

  turned_back : (x : Float) → T (le (neg angle) x) → T (le (neg x) angle)
  turned_back x h = subst (λ (z : Float). T (le (neg x) z)) (neg_neg angle) (neg_le (neg angle) x h)

  angle_number : T (not (is_nan (neg angle)))
  angle_number = sum_number angle (half_limit m) negative

  at_most : T (le (neg angle) (neg (next_below m)))
  at_most =
      second_up m (neg angle) (neg-fits binary64 angle t)
      (lt_of_not_le (neg (second_below m)) (neg angle) (numbers m).second_number angle_number
      (not_T (le (neg (second_below m)) (neg angle)) (λ (h : T (le (neg (second_below m)) (neg angle))). not_below (turned (second_below m) h))))

  at_least : T (le (neg (next_below m)) (neg angle))
  at_least =
      le_of_not_lt (neg angle) (neg (next_below m)) angle_number (numbers m).next_number
      (not_T (lt (neg angle) (neg (next_below m))) (λ (h : T (lt (neg angle) (neg (next_below m)))). not_above (turned_back (half_limit m) (first_up m (neg angle) (neg-fits binary64 angle t) h))))

  only : angle ≡ next_below m
  only =
      let p = between (neg (next_below m)) (neg angle) (neg (next_below m)) (numbers m).next_positive (numbers m).next_positive at_least at_most in
      sym (neg_neg angle) ∙ ap neg (same_of_le binary64 (neg angle) (neg (next_below m)) (neg-fits binary64 angle t) (numbers m).next_fits p (numbers m).next_positive at_most at_least) ∙ neg_neg (next_below m)

-- ---- the statement
at_half_only : (m : Modulation) (angle : Float) → T (fits binary64 angle) → T (le (half_limit m) (centred m angle)) → angle ≡ next_below m
unfolding centred
at_half_only m angle t h = go (finite (add binary64 angle (half_limit m))) refl
  where
    y : Float
    y = add binary64 angle (half_limit m)

    go : (b : Bool) → finite y ≡ b → angle ≡ next_below m
    go true e =
        let p : T (finite y) = subst T (sym e) tt in
        only m angle t (sum_near m y (add-fits binary64 angle (half_limit m)) p h) (sum_negative m y (add-fits binary64 angle (half_limit m)) p h)
    go false e = absurd (subst T (ap (le (half_limit m)) (nan_steps m y (subst (λ (b : Bool). T (not b)) (sym e) tt)) ∙ unordered (half_limit m)) h)

elsewhere : (m : Modulation) (angle : Float) → T (fits binary64 angle) → (angle ≡ next_below m → ⊥) → wrapped m angle ≡ centred m angle
unfolding wrapped
elsewhere m angle t other = go (le (half_limit m) (centred m angle)) refl
  where
    go : (b : Bool) → le (half_limit m) (centred m angle) ≡ b → cond b (neg (half_limit m)) (centred m angle) ≡ centred m angle
    go true e = absurd (other (at_half_only m angle t (subst T (sym e) tt)))
    go false e = refl

steps_end : (m : Modulation) → centred m (next_below m) ≡ half_limit m
unfolding centred rem_euclid add sub neg rem lt of_bits absolute
steps_end Carrier = refl
steps_end Bpsk = refl
steps_end Qpsk = refl

answered : (m : Modulation) → wrapped m (next_below m) ≡ neg (half_limit m)
unfolding wrapped
answered m = ap (λ (x : Float). cond (le (half_limit m) x) (neg (half_limit m)) x) (steps_end m) ∙ ap (λ (b : Bool). cond b (neg (half_limit m)) (half_limit m)) (is_true (le (half_limit m) (half_limit m)) (le_refl (half_limit m) (numbers m).half_number))

pub one_angle : OneAngle
one_angle = record { steps_end = steps_end; answered = answered; elsewhere = elsewhere }
