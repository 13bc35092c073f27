-- A flag 1 block, from the started trackers on (the scope, module 9): the trackers over the samples, each with its own stretch of the window memory,
-- and what they show then. Definitions only.
use Rattle.std.specs.Prelude.{Bool, true, false, cond, ◌||◌, List, Float}
use Rattle.ieee754.specs.Binary64 as float
use Rattle.ieee754.specs.Binary64.{over}
use Rattle.bank_model.specs.declared.state.EkfTrackingBank.{EkfTrackingBank}
use Rattle.tracker_readings.specs.Readings.{scale, phase_at}
use Rattle.bank_model.specs.Choice.{numbered}
use Rattle.bank_model.specs.Fade.{in_use, finished}
use Rattle.bank_model.specs.Following.{Lists, on_stretch, bank_followed}
use Rattle.channel_model.specs.declared.Setup.{Setup}
use Rattle.channel_model.specs.declared.Channel.{Channel}
use Rattle.channel_model.specs.declared.Reading.{Reading}
use Rattle.channel_model.specs.Values.{moved, with_all, with_electrons, unlocked}
use Rattle.channel_model.specs.Opening.{whole}
use Rattle.channel_model.specs.Readout.{centre, read_from}

-- ---- over the samples

-- the interval between two samples in tracking: factor / rate
unfoldable pub interval : Setup → Float
interval k = over (whole k.factor) (whole k.rate)

-- with a bank its three trackers take part, without one `pll_tracker`, on the window memory w
unfoldable pub followed_by : Bool → Channel → Lists → List Float → Channel × List Float
followed_by true c l w = let k = bank_followed (interval c.setup) l (c.bank, w) in (with_all c c.pll k.0, k.1)
followed_by false c l w = let h = on_stretch 0 (interval c.setup) false l (c.pll, w) in (with_all c h.0 c.bank, h.1)

-- ---- what the trackers show

-- BPSK is read at half its states
unfoldable pub scale_of : Channel → Float
scale_of c = scale c.pll.ekf.modulation

-- without a bank: a locked `pll_tracker` is read, of another the phase alone
unfoldable pub single_shown : Channel → Channel
single_shown c =
    let t = c.pll.ekf in
    let a = c.carriers in
    let bare : Reading = record { phase = phase_at (scale_of c) t; frequency = centre a.nominal a.target; snr = c.reading.snr; electrons = float.zero } in
    let r = cond t.is_locked (read_from c.setup.two (scale_of c) a t c.reading) bare in
    moved c c.pll c.bank (t.is_locked || c.ever_locked) t.is_locked r

-- With the bank b after its choice or fade: the tracker in use is read, also in a fade, in which `ever_locked` stays. Where none is in use the lock is given
-- up, so that the next flag 1 block starts.
unfoldable pub bank_shown : EkfTrackingBank → Channel → Channel
bank_shown b c =
    let r = read_from c.setup.two (scale_of c) c.carriers (numbered b.active_idx b).ekf c.reading in
    let locked = moved c c.pll b true true r in
    let fading = moved c c.pll b c.ever_locked true r in
    let unused = moved c (unlocked c.pll) b false false (with_electrons c.reading float.zero) in
    cond (in_use b) (cond b.in_fade fading locked) unused

-- the channel with what its trackers show
unfoldable pub with_shown : Channel → Channel
with_shown c = cond c.setup.bank (bank_shown (finished (scale_of c) c.bank) c) (single_shown c)
