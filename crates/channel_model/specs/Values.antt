-- What changes in a channel from call to call (the scope, module 9). Definitions only.
use Rattle.std.specs.Prelude.{Bool, false, Float}
use Rattle.tracker.specs.declared.state.Tracked.{Tracked}
use Rattle.tracker.specs.State.{with_lock}
use Rattle.bank_model.specs.declared.state.EkfTrackingBank.{EkfTrackingBank}
use Rattle.bank_model.specs.Values.{with_trackers}
use Rattle.channel_model.specs.declared.Setup.{Setup}
use Rattle.channel_model.specs.declared.Status.{Status}
use Rattle.channel_model.specs.declared.Carriers.{Carriers}
use Rattle.channel_model.specs.declared.Channel.{Channel}
use Rattle.channel_model.specs.declared.Reading.{Reading}

-- a channel from its parts: setup, status, carriers, `pll_tracker`, bank, whether it was ever locked, the remembered SNR, whether it is locked, what is shown
abbrev pub channel_of : Setup → Status → Carriers → Tracked → EkfTrackingBank → Bool → Float → Bool → Reading → Channel
channel_of k s a h b ever last locked r =
    record { setup = k; status = s; carriers = a; pll = h; bank = b; ever_locked = ever; last_snr = last; is_locked = locked; reading = r }

-- trackers, marks and what is shown anew; the setup, the status, the carriers and the remembered SNR stay
unfoldable pub moved : Channel → Tracked → EkfTrackingBank → Bool → Bool → Reading → Channel
moved c h b ever locked r = channel_of c.setup c.status c.carriers h b ever c.last_snr locked r

-- the channel with other trackers only
unfoldable pub with_all : Channel → Tracked → EkfTrackingBank → Channel
with_all c h b = moved c h b c.ever_locked c.is_locked c.reading

-- another SNR shown
unfoldable pub with_snr : Reading → Float → Reading
with_snr r s = record { phase = r.phase; frequency = r.frequency; snr = s; electrons = r.electrons }

-- another electron content shown
unfoldable pub with_electrons : Reading → Float → Reading
with_electrons r e = record { phase = r.phase; frequency = r.frequency; snr = r.snr; electrons = e }

-- a tracker without its lock; all else stays
unfoldable pub unlocked : Tracked → Tracked
unlocked h = record { ekf = with_lock h.ekf h.ekf.lock_metric false h.ekf.convergence_guard; p = h.p }

-- a bank with f of each of its three trackers; its marks stay
unfoldable pub on_each : (Tracked → Tracked) → EkfTrackingBank → EkfTrackingBank
on_each f b = with_trackers b (f b.t0) (f b.t1) (f b.t2) b.terminated_in_fade
