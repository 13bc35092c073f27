-- Open (the scope, module 9; refusals 1 to 4). Definitions only.
use Rattle.std.specs.Prelude.{ℕ, ◌*◌, Bool, false, cond, not, ◌&&◌, ◌||◌, [], ◌∷◌, leb, ltb, eqb, pos, Float}
use Rattle.std.specs.Float.{binary64}
use Rattle.std.specs.Float.Ieee.{of_int, le, to_unsigned}
use Rattle.ieee754.specs.Binary32 as float32
use Rattle.ieee754.specs.Binary64 as float
use Rattle.ieee754.specs.Binary64.{times, over, one}
use Rattle.tracker_measurement.specs.declared.modulation.Modulation.{Modulation}
use Rattle.tracker_measurement.specs.Numbers.{numbered_modulation}
use Rattle.tracker.specs.declared.state.Tracked.{Tracked}
use Rattle.tracker.specs.State.{initial_tracker}
use Rattle.bank_model.specs.declared.state.EkfTrackingBank.{EkfTrackingBank}
use Rattle.bank_model.specs.Values.{bank_of}
use Rattle.channel_model.specs.declared.Settings.{Settings}
use Rattle.channel_model.specs.declared.Setup.{Setup}
use Rattle.channel_model.specs.declared.Status.TheVariants.{Idle}
use Rattle.channel_model.specs.declared.Carriers.{Carriers}
use Rattle.channel_model.specs.declared.Channel.{Channel}
use Rattle.channel_model.specs.Returns.{Returned}
use Rattle.channel_model.specs.Values.{channel_of}
use Rattle.channel_model.specs.Refusals.{first_cause}

-- ---- refusals

-- 1: "factor outside 1 to 4,096, or sample rate below 1,000 × factor or above 100,000 × factor"
unfoldable pub bad_rate : ℕ → ℕ → Bool
bad_rate rate factor = not (leb 1 factor && leb factor 4096) || not (leb (1000 * factor) rate && leb rate (100000 * factor))

-- 4: "ratio not within 0.25 to 4", so a NaN is refused
unfoldable pub bad_ratio : Float → Bool
bad_ratio r = not (le float.quarter r && le r float.four)

unfoldable pub open_refusal : Settings → ℕ
open_refusal s = first_cause ((1, bad_rate s.rate s.factor) ∷ (2, ltb 2 s.modulation) ∷ (3, ltb 86400 s.fade) ∷ (4, bad_ratio s.ratio) ∷ [])

-- ---- the channel that is opened

-- 0 carrier, 1 BPSK, 2 QPSK
unfoldable pub modulation_of : ℕ → Modulation
modulation_of n = numbered_modulation n

-- a whole number as f64
unfoldable pub whole : ℕ → Float
whole n = of_int binary64 (pos n)

-- the rate of the decimated samples: rate / factor
unfoldable pub decimated_rate : ℕ → ℕ → Float
decimated_rate rate factor = over (whole rate) (whole factor)

-- (fade × decimated rate) / 40,000, cut to a whole number
unfoldable pub fade_steps : Settings → ℕ
fade_steps s = to_unsigned 64 (over (times (whole s.fade) (decimated_rate s.rate s.factor)) float.forty_thousand)

-- a tracker as opening makes each of the four
unfoldable pub new_tracker : Settings → Tracked
new_tracker s =
    initial_tracker (decimated_rate s.rate s.factor) (modulation_of s.modulation) s.adaptive s.dual_lock s.ratio

unfoldable pub new_setup : Settings → Setup
new_setup s = record { rate = s.rate; factor = s.factor; bank = s.bank; two = s.two }

-- a bank at rest: no tracker in use, no fade, not ended
unfoldable pub resting_bank : ℕ → Tracked → Tracked → Tracked → EkfTrackingBank
resting_bank steps t u v = bank_of steps t u v 3 false 0 false

-- An idle channel. Opening makes it with no carriers and electron content 0, release with those that it found.
unfoldable pub idle_channel : Setup → Carriers → Float → Tracked → EkfTrackingBank → Channel
idle_channel k a electrons h b =
    channel_of k Idle a h b false float32.zero false
    (record { phase = float.zero; frequency = float.zero; snr = float.zero; electrons = electrons })

unfoldable pub no_carriers : Carriers
no_carriers = record { nominal = float.zero; target = float.zero; target2 = float.zero; frequency2 = float.zero }

unfoldable pub new_channel : Settings → Channel
new_channel s = let h = new_tracker s in idle_channel (new_setup s) no_carriers float.zero h (resting_bank (fade_steps s) h h h)

-- "an idle carrier channel: 1,000 Hz, factor 1, switches off, fade 0, ratio 1"
unfoldable pub refused_settings : Settings
refused_settings = record { rate = 1000; factor = 1; modulation = 0; adaptive = false; dual_lock = false; bank = false; two = false; fade = 0; ratio = one }

unfoldable pub opened : Settings → Returned
opened s = let n = open_refusal s in record { refusal = n; channel = new_channel (cond (eqb n 0) s refused_settings) }
