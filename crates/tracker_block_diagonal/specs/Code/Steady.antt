-- What keeps two halves apart in a prediction (the scope, module 3): an interval whose factors in F are finite, and frequencies that count as equal, so
-- that Q couples nothing. Definitions only.
use Rattle.std.specs.Prelude.{◌≡◌, true, Float}
use Rattle.std.specs.Float.Ieee.Scale.{finite}
use Rattle.ieee754.specs.Binary64.{times, half}
use Rattle.tracker_covariance.specs.ProcessNoise.{same_frequency}

pub record Steady (dt ratio : Float) : Type 0 where
  pub interval : finite dt ≡ true
  pub half_square : finite (times (times half dt) dt) ≡ true
  pub same : same_frequency ratio ≡ true
