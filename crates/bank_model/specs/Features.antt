-- The figures of a bank (the scope, module 7: `collect_tracker_features`): for each tracker its metric, its lock mark as 1 or 0, and the variances of
-- its phase and of its frequency, in binary32. Definitions only.
use Rattle.std.specs.Prelude.{cond, List, [], ◌∷◌, ◌++◌, Float}
use Rattle.std.specs.Float.{binary32}
use Rattle.ieee754.specs.Binary32 as float32
use Rattle.ieee754.specs.Conversion.{convert}
use Rattle.tracker_covariance.specs.Matrix.{at}
use Rattle.tracker.specs.declared.state.Tracked.{Tracked}
use Rattle.bank_model.specs.declared.state.EkfTrackingBank.{EkfTrackingBank}

unfoldable pub tracker_features : Tracked → List Float
tracker_features h =
    convert binary32 h.ekf.lock_metric
    ∷ cond h.ekf.is_locked float32.one float32.zero
    ∷ convert binary32 (at h.p 0 0)
    ∷ convert binary32 (at h.p 1 1)
    ∷ []

unfoldable pub features : EkfTrackingBank → List Float
features b = tracker_features b.t0 ++ (tracker_features b.t1 ++ tracker_features b.t2)
