-- The lock metric, the guard and the rules of unlocking (the scope, module 3). Definitions only.
use Rattle.std.specs.Prelude.{◌-◌, Bool, cond, not, ◌&&◌, ◌||◌, ltb, Float}
use Rattle.std.specs.Float.Ieee.{lt, le}
use Rattle.ieee754.specs.Binary64 as float
use Rattle.ieee754.specs.Binary64.{plus, times}
use Rattle.tracker.specs.declared.state.CarrierPllEkf.{CarrierPllEkf}
use Rattle.tracker.specs.State.{with_lock}

-- 0.999 × old + 0.001 × the in-phase value
abbrev pub next_metric : Float → Float → Float
next_metric old in_phase = plus (times float.point999 old) (times float.point001 in_phase)

-- with `dual_lock`: metric < 0.02, or metric < 0.1 and ratio ≤ 0.8 × 1,024 (which is 819.2); without it: metric < 0.1
unfoldable pub unlocks : Bool → Float → Float → Bool
unlocks dual metric pr =
    cond dual
    (lt metric float.point02 || (lt metric float.point1 && le pr float.eight_hundred19_point2))
    (lt metric float.point1)

-- above guard 0 the guard goes down by 1 and nothing unlocks; at guard 0 the rules decide
unfoldable pub settled : CarrierPllEkf → Float → Float → CarrierPllEkf
settled t in_phase pr =
    let metric = next_metric t.lock_metric in_phase in
    let guard = t.convergence_guard in
    cond (ltb 0 guard)
    (with_lock t metric t.is_locked (guard - 1))
    (with_lock t metric (t.is_locked && not (unlocks t.tuning.dual_lock metric pr)) guard)
