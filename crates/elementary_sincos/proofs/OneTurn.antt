-- Within one turn what is reduced is the angle in units of 2 ^ -61, and beyond it the angle is from 4 on.
use mathlib.Core.Path.{◌≡◌, sym, ◌∙◌}
use mathlib.Core.Bool.{true, false, not}
use Prim.Native.Nat.{ℕ, ◌*◌, ◌^◌, ◌≤◌, ◌<◌}
use native.Mathlib.Nat.{le_of_lt}
use native.Mathlib.Omega.{arith}
use lib.Dec.{T, ltb→lt, nltb→le}
use lib.Ieee.{Float, nan, inf, fin, binary64, up, down, lt, fits, of_bits}
use lib.Ieee.Fits.{down_pos}
use lib.Ieee.Positive.{num, den}
use Rattle.ieee754.specs.Binary64.{two_pi}
use Rattle.elementary_fixed_point.specs.Conversion.{fixed}
use Rattle.elementary_fixed_point.specs.Code.Bounds.{Fixable, nonnegative}
use Rattle.elementary_fixed_point.proofs.FromFloat.{whole}
use Rattle.elementary_reduction.specs.Reduction.{reduced}
use Rattle.elementary_reduction.proofs.Fractions.{turns, within-units}

pub within_fixable : (a : Float) → T (nonnegative a) → T (lt a two_pi) → Fixable a
unfolding lt of_bits
within_fixable nan n h = absurd n
within_fixable (inf s) n h = absurd n
within_fixable (fin true m e) n h = absurd n
within_fixable (fin false m e) n h = record { from = tt; below = less (m * up e) (down e) (ltb→lt (m * up e * 2 ^ 47) (turns * 1 * down e) h) }
  where
    less : (a d : ℕ) → a * 2 ^ 47 < turns * 1 * d → a < 8 * d
    less a d h = omega arith

pub within_is : (a : Float) → T (fits binary64 a) → T (nonnegative a) → T (lt a two_pi) → fixed a ≡ reduced a
unfolding reduced
within_is nan f n h = absurd n
within_is (inf s) f n h = absurd n
within_is (fin true m e) f n h = absurd n
within_is (fin false m e) f n h =
    (whole (fin false m e) f (within_fixable (fin false m e) n h)).is ∙ sym (within-units (m * up e) (down e) (down_pos e) (le_of_lt (ltb→lt (m * up e * 2 ^ 47) (turns * 1 * down e) (unfold lt of_bits in h))))

pub beyond : (a : Float) → T (nonnegative a) → T (not (lt a two_pi)) → 4 * den a ≤ num a
unfolding lt of_bits
beyond nan n h = absurd n
beyond (inf s) n h = absurd n
beyond (fin true m e) n h = absurd n
beyond (fin false m e) n h = over (m * up e) (down e) (nltb→le (m * up e * 2 ^ 47) (turns * 1 * down e) h)
  where
    over : (a d : ℕ) → turns * 1 * d ≤ a * 2 ^ 47 → 4 * d ≤ a
    over a d h = omega arith
