-- The start of the trackers in a flag 1 block (the scope, module 9; the source's bootstrap). Definitions only.
use Rattle.std.specs.Prelude.{ℕ, ◌*◌, Bool, true, false, cond, not, ◌&&◌, ◌||◌, List, take, Float}
use Rattle.std.specs.Float.{binary64}
use Rattle.std.specs.Float.Ieee.{lt, to_unsigned}
use Rattle.ieee754.specs.Binary32 as float32
use Rattle.ieee754.specs.Integral.{rounded_away}
use Rattle.ieee754.specs.Binary64 as float
use Rattle.ieee754.specs.Binary64.{times}
use Rattle.tracker_measurement.specs.declared.modulation.Modulation.{Modulation}
use Rattle.tracker_measurement.specs.declared.modulation.Modulation.TheVariants.{Carrier, Bpsk, Qpsk}
use Rattle.tracker.specs.declared.state.Tracked.{Tracked}
use Rattle.tracker.specs.State.{reset_to}
use Rattle.estimate_correlation.specs.Correlation.{prepared}
use Rattle.estimate_esprit.specs.Esprit.{estimate}
use Rattle.channel_model.specs.declared.Setup.{Setup}
use Rattle.channel_model.specs.declared.Channel.{Channel}
use Rattle.channel_model.specs.Values.{with_all, on_each}
use Rattle.channel_model.specs.Opening.{decimated_rate}

-- `pll_tracker` is not locked, and the channel never was or the last SNR was below 0
unfoldable pub starts : Channel → Bool
starts c = not c.pll.ekf.is_locked && (not c.ever_locked || lt c.last_snr float32.zero)

-- how many samples the estimate looks at: a hundredth of a second, rounded
unfoldable pub chunk : Setup → ℕ
chunk k = to_unsigned 64 (rounded_away binary64 (times float.point01 (decimated_rate k.rate k.factor)))

-- BPSK has a carrier in the samples' squares
unfoldable pub squares : Modulation → Bool
squares Carrier = false
squares Bpsk = true
squares Qpsk = false

-- the frequency at which the trackers start: the estimate of the list's first samples, as they came
unfoldable pub start_frequency : Modulation → Setup → List Float → Float
start_frequency m k l = estimate (prepared (squares m) (take (2 * chunk k) l)) (decimated_rate k.rate k.factor)

-- `reset(0.0, hz, 0.0)`
unfoldable pub restarted : Float → Tracked → Tracked
restarted hz h = reset_to h.ekf float.zero hz float.zero

-- a tracker of the bank starts where it is not locked
unfoldable pub started_unlocked : Float → Tracked → Tracked
started_unlocked hz h = cond h.ekf.is_locked h (restarted hz h)

-- `pll_tracker` is reset, and those of the bank that are not locked
unfoldable pub started_at : Float → Channel → Channel
started_at hz c = with_all c (restarted hz c.pll) (on_each (started_unlocked hz) c.bank)

unfoldable pub started : Channel → List Float → Channel
started c l = cond (starts c) (started_at (start_frequency c.pll.ekf.modulation c.setup l) c) c
