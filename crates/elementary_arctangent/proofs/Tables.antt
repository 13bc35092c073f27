-- The tables and the constants against their rules, each by one computation.
use mathlib.Core.Path.{◌≡◌, refl}
use Prim.Native.Nat.{◌^◌}
use lib.Dec.{T, lit≤}
use Rattle.elementary_fixed_point.specs.Series.{factorial, terms, reciprocal}
use Rattle.elementary_fixed_point.specs.Product.{tabulate}
use Rattle.elementary_fixed_point.specs.Code.Bounds.{below, Approximates}
use Rattle.elementary_fixed_point.specs.Fraction.{times}
use Rattle.elementary_fixed_point.proofs.Chains.{rounded}
use Rattle.elementary_arctangent.specs.Angle.{taylor, eighth_turn}
use Rattle.elementary_arctangent.specs.Steps.{coefficients, angle_of_half, right_angle, straight_angle}
use Rattle.elementary_arctangent.specs.Code.Tables.{added, subtracted}

-- ---- each entry is 1 / j in units of 2 ^ -62, rounded down

pub added_rounded : T (rounded (reciprocal 81) (factorial 81) 4 1 (2 ^ 62) 1 added)
unfolding rounded reciprocal factorial coefficients tabulate
added_rounded = tt

pub subtracted_rounded : T (rounded (reciprocal 81) (factorial 81) 4 1 (2 ^ 62) 3 subtracted)
unfolding rounded reciprocal factorial coefficients tabulate
subtracted_rounded = tt

pub added_below : T (below (2 ^ 63) added)
unfolding below coefficients tabulate
added_below = tt

pub subtracted_below : T (below (2 ^ 63) subtracted)
unfolding below coefficients tabulate
subtracted_below = tt

-- ---- the three angles

pub angle_of_half_is : angle_of_half ≡ 2138197195906305896
unfolding angle_of_half terms reciprocal factorial
angle_of_half_is = refl

pub right_angle_is : right_angle ≡ 7244019458077122842
unfolding right_angle terms reciprocal factorial
right_angle_is = refl

pub straight_angle_is : straight_angle ≡ 14488038916154245684
unfolding straight_angle terms reciprocal factorial
straight_angle_is = refl

pub angle_of_half_near : Approximates (2 ^ 62) angle_of_half 1 (taylor 1 2)
unfolding angle_of_half terms reciprocal factorial
angle_of_half_near = record { low = lit≤ tt; high = lit≤ tt }

pub right_angle_near : Approximates (2 ^ 62) right_angle 1 (times 2 eighth_turn)
unfolding right_angle terms reciprocal factorial
right_angle_near = record { low = lit≤ tt; high = lit≤ tt }

pub straight_angle_near : Approximates (2 ^ 62) straight_angle 1 (times 4 eighth_turn)
unfolding straight_angle terms reciprocal factorial
straight_angle_near = record { low = lit≤ tt; high = lit≤ tt }
