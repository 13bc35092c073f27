-- Every finite angle is wrapped into its range, and whatever is wrapped to a number lies there. Assumes nothing.
use mathlib.Core.Path.{◌≡◌, refl, sym, ap, subst, ◌∙◌}
use mathlib.Core.Bool.{Bool, true, false, not, cond}
use lib.Dec.{T}
use lib.Ieee.{Float, nan, inf, fin, binary64, neg, lt, le, eq, is_nan, add, sub, rem, fits}
use lib.Ieee.Scale.{finite}
use Rattle.ieee754_rounding.proofs.FloatOrder.{le_refl, lt_le, lt_of_not_le, between_finite, left_number, right_number}
use Rattle.ieee754_rounding.proofs.MonotoneSums.{add_mono, sub_mono}
use Rattle.ieee754_rounding.proofs.FormatValues.{largest, at_most_largest, at_least_largest}
use Rattle.ieee754.specs.Sign.{plus_zero}
use Rattle.ieee754.specs.Remainder.{rem_euclid}
use Rattle.ieee754.proofs.RemainderRange.{rem_euclid_from_zero}
use Rattle.tracker_measurement.specs.declared.modulation.Modulation.{Modulation}
use Rattle.tracker_measurement.specs.Phase.{limit, half_limit, centred, wrapped}
use Rattle.tracker_measurement.proofs.WrapSteps.{lengths}
use Rattle.tracker_claims.specs.WrappedPhase.{InRange, WrapsIntoRange}
use Rattle.tracker_claims.proofs.RangeNumbers.{numbers}

-- ---- the sum before the remainder
moved_finite : (m : Modulation) (angle : Float) → T (fits binary64 angle) → T (finite angle) → T (finite (add binary64 angle (half_limit m)))
moved_finite m angle t p =
    between_finite (add binary64 (neg (largest binary64)) (half_limit m)) (add binary64 angle (half_limit m)) (add binary64 (largest binary64) (half_limit m)) (numbers m).bottom_finite (numbers m).top_finite
    (add_mono binary64 (neg (largest binary64)) angle (half_limit m) (lengths m).half_finite (at_least_largest binary64 angle t p))
    (add_mono binary64 angle (largest binary64) (half_limit m) (lengths m).half_finite (at_most_largest binary64 angle t p))

-- ---- the steps after it
abbrev steps : Modulation → Float → Float
steps m y = sub binary64 (rem_euclid binary64 y (limit m)) (half_limit m)

steps_from : (m : Modulation) (y : Float) → T (finite y) → T (le (neg (half_limit m)) (steps m y))
steps_from m y p =
    subst (λ (z : Float). T (le z (steps m y))) (numbers m).from_zero
    (sub_mono binary64 plus_zero (rem_euclid binary64 y (limit m)) (half_limit m) (lengths m).half_finite (rem_euclid_from_zero binary64 y (limit m) p (numbers m).length_positive (numbers m).length_fits))

renamed : (m : Modulation) (x : Float) → T (le (neg (half_limit m)) x) → InRange m (cond (le (half_limit m) x) (neg (half_limit m)) x)
renamed m x h = go (le (half_limit m) x) refl
  where
    go : (b : Bool) → le (half_limit m) x ≡ b → InRange m (cond b (neg (half_limit m)) x)
    go true e = record { low = le_refl (neg (half_limit m)) (left_number (neg (half_limit m)) (half_limit m) (lt_le (neg (half_limit m)) (half_limit m) (numbers m).minus_half)); high = (numbers m).minus_half }
    go false e =
        record {
          low = h;
          high = lt_of_not_le (half_limit m) x (numbers m).half_number (right_number (neg (half_limit m)) x h) (subst (λ (b : Bool). T (not b)) (sym e) tt);
        }

finite_in_range : (m : Modulation) (angle : Float) → T (finite (add binary64 angle (half_limit m))) → InRange m (wrapped m angle)
unfolding wrapped centred
finite_in_range m angle p = renamed m (centred m angle) (steps_from m (add binary64 angle (half_limit m)) p)

-- ---- the statement
pub wraps_into_range : WrapsIntoRange
wraps_into_range m angle t p = finite_in_range m angle (moved_finite m angle t p)

-- ---- an infinite sum gives a NaN, so a wrap that is a number lies in the range, whatever the angle was
pub nan_steps : (m : Modulation) (y : Float) → T (not (finite y)) → steps m y ≡ nan
unfolding rem_euclid rem lt sub add
nan_steps m nan h = refl
nan_steps m (inf s) h = refl
nan_steps m (fin s n e) h = absurd h

pub unordered : (x : Float) → le x nan ≡ false
unfolding le lt eq
unordered nan = refl
unordered (inf s) = refl
unordered (fin s n e) = refl

nan_wrapped : (m : Modulation) (angle : Float) → T (not (finite (add binary64 angle (half_limit m)))) → wrapped m angle ≡ nan
unfolding wrapped centred
nan_wrapped m angle h =
    ap (λ (z : Float). cond (le (half_limit m) z) (neg (half_limit m)) z) (nan_steps m (add binary64 angle (half_limit m)) h)
    ∙ ap (λ (b : Bool). cond b (neg (half_limit m)) nan) (unordered (half_limit m))

pub number_in_range : (m : Modulation) (angle : Float) → T (not (is_nan (wrapped m angle))) → InRange m (wrapped m angle)
number_in_range m angle h = go (finite (add binary64 angle (half_limit m))) refl
  where
    go : (b : Bool) → finite (add binary64 angle (half_limit m)) ≡ b → InRange m (wrapped m angle)
    go true e = finite_in_range m angle (subst T (sym e) tt)
    go false e = absurd (unfold is_nan in subst (λ (z : Float). T (not (is_nan z))) (nan_wrapped m angle (subst (λ (b : Bool). T (not b)) (sym e) tt)) h)
