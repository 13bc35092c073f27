-- A bank whose three trackers move as one: then one of them is run, and copied. Definitions only.
use Rattle.std.specs.Prelude.{◌≡◌, false, List, Float}
use Rattle.bank_equal_trackers.specs.Code.Alike.{Alike}
use Rattle.bank_model.specs.declared.state.EkfTrackingBank.{EkfTrackingBank}

-- no tracker fades, and the three are equal with their stretches
pub record AsOne (b : EkfTrackingBank) (w : List Float) : Type 0 where
  pub calm : b.in_fade ≡ false
  pub alike : Alike b.t0 b.t1 b.t2 w
