-- The sums over the window and their ratio (the scope, module 3; the source's `pr_sum_abs_i`, `pr_sum_q_sq` and `pr`). Definitions only.
use Rattle.std.specs.Prelude.{Bool, cond, List, Float}
use Rattle.std.specs.Float.{binary64}
use Rattle.std.specs.Float.Ieee.{add, sub, mul, div, lt}
use Rattle.ieee754.specs.Binary64.{zero, largest, ten_to_minus12}
use Rattle.tracker_power_ratio.specs.declared.PowerSums.{PowerSums}
use Rattle.tracker_power_ratio.specs.Ring.{slot, full, later, abs_i_at, q_sq_at, with_pair}

-- a sum that rounding made negative counts as 0
unfoldable pub not_negative : Float → Float
not_negative x = cond (lt x zero) zero x

-- plus the new number first, then minus the old one, if there is one
unfoldable pub moved_sum : Bool → Float → Float → Float → Float
moved_sum f sum new old = not_negative (cond f (sub binary64 (add binary64 sum new) old) (add binary64 sum new))

-- the count and the sums after one more pair, and the memory
unfoldable pub pushed : PowerSums → List Float → Float → Float → PowerSums × List Float
pushed s w i q =
    let k = slot s.pushed in
    let f = full s.pushed in (
      record { pushed = later s.pushed; sum_abs_i = moved_sum f s.sum_abs_i i (abs_i_at w k); sum_q_sq = moved_sum f s.sum_q_sq q (q_sq_at w k) },
      with_pair w k i q,
    )

-- the square of the I sum over the Q sum; the largest f64 unless the Q sum exceeds 1e-12
unfoldable pub ratio : Float → Float → Float
ratio i q = cond (lt ten_to_minus12 q) (div binary64 (mul binary64 i i) q) largest
