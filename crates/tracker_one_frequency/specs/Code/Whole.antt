-- A one-frequency tracker whose covariance is kept in two halves (the scope, module 3). What its prediction and its update are is said of the whole tracker,
-- with all 36 numbers. Definitions only.
use Rattle.tracker.specs.declared.state.Tracked.{Tracked}
use Rattle.tracker_block_diagonal.specs.Code.Joined.{joined}
use Rattle.tracker_one_frequency.specs.declared.state.Single.{Single}

-- the tracker with the 36 numbers
abbrev pub whole : Single → Tracked
whole h = record { ekf = h.ekf; p = joined h.halves }
