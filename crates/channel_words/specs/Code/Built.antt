-- A channel built from plain numbers, which no calls need make. A tracker is given by what differs from a new one at the channel's rate. Definitions only.
use Rattle.std.specs.Prelude.{ℕ, ◌+◌, Bool, cond, ◌&&◌, leb, List, length, drop, Float}
use Rattle.vectors.specs.Code.Lines.{number_at, mark_at, float64_at, float32_at, float64s_at}
use Rattle.tracker_covariance.specs.Initial.{initial_covariance}
use Rattle.tracker_measurement.specs.declared.modulation.Modulation.{Modulation}
use Rattle.tracker_power_ratio.specs.declared.PowerSums.{PowerSums}
use Rattle.tracker.specs.declared.state.Tuning.{Tuning}
use Rattle.tracker.specs.declared.state.Tracked.{Tracked}
use Rattle.tracker.specs.State.{tracker_of, initial_tuning}
use Rattle.bank_model.specs.declared.state.EkfTrackingBank.{EkfTrackingBank}
use Rattle.bank_model.specs.Values.{bank_of}
use Rattle.channel_model.specs.declared.Setup.{Setup}
use Rattle.channel_model.specs.declared.Status.{Status}
use Rattle.channel_model.specs.declared.Status.TheVariants.{Idle, Assigned}
use Rattle.channel_model.specs.declared.Channel.{Channel}
use Rattle.channel_model.specs.declared.Reading.{Reading}
use Rattle.channel_model.specs.Values.{channel_of}
use Rattle.channel_model.specs.Opening.{modulation_of, decimated_rate}
use Rattle.channel_words.specs.declared.built.Trackers.{Trackers}
use Rattle.channel_words.specs.Code.Arguments.{given_carriers}

-- ---- a tracker, from its first number on: x (6), whether P follows, P (36) where it does, and ten more

-- how many numbers stand before the ten
unfoldable pub ten_at : List ℕ → ℕ
ten_at w = cond (mark_at 6 w) 43 7

-- how many numbers it takes, and what stands behind it
unfoldable pub tracker_length : List ℕ → ℕ
tracker_length w = ten_at w + 10

unfoldable pub behind_tracker : List ℕ → List ℕ
behind_tracker w = drop (tracker_length w) w

-- P, or a new tracker's where it does not follow
unfoldable pub given_covariance : List ℕ → List Float
given_covariance w = cond (mark_at 6 w) (float64s_at 7 36 w) initial_covariance

-- the ten: metric, envelope, both sums, ratio, pairs pushed, guard, locked, adaptive, dual lock
unfoldable pub given_power : List ℕ → PowerSums
given_power ten = record { pushed = number_at 5 ten; sum_abs_i = float64_at 2 ten; sum_q_sq = float64_at 3 ten }

unfoldable pub given_tuning : Float → List ℕ → Tuning
given_tuning rate ten = initial_tuning rate (mark_at 8 ten) (mark_at 9 ten) (float64_at 4 ten)

unfoldable pub given_tracker : Float → Modulation → List ℕ → Tracked
given_tracker rate m w =
    let ten = drop (ten_at w) w in
    let k = given_tuning rate ten in
    let t = tracker_of m k (float64s_at 0 6 w) (float64_at 1 ten) (given_power ten) (float64_at 0 ten) (mark_at 7 ten) (number_at 6 ten) in
    record { ekf = t; p = given_covariance w }

-- ---- a channel, from its first number on

-- rate, factor, modulation, bank, two frequencies, assigned; from place 6 on the four carriers
unfoldable pub given_setup : List ℕ → Setup
given_setup w = record { rate = number_at 0 w; factor = number_at 1 w; bank = mark_at 3 w; two = mark_at 4 w }

unfoldable pub given_status : List ℕ → Status
given_status w = cond (mark_at 5 w) Assigned Idle

-- from place 18 on phase, frequency, SNR, electron content
unfoldable pub given_reading : List ℕ → Reading
given_reading w = record { phase = float64_at 18 w; frequency = float64_at 19 w; snr = float64_at 20 w; electrons = float64_at 21 w }

-- from place 22 on `pll_tracker` and the bank's three, w being the line from there on
unfoldable pub given_trackers : Float → Modulation → List ℕ → Trackers
given_trackers rate m w =
    let one = behind_tracker w in
    let two = behind_tracker one in
    record { pll = given_tracker rate m w; t0 = given_tracker rate m one; t1 = given_tracker rate m two; t2 = given_tracker rate m (behind_tracker two) }

-- whether all their numbers stand in the line, and what stands behind them
abbrev pub one_whole : List ℕ → Bool
one_whole w = leb (tracker_length w) (length w)

unfoldable pub are_whole : List ℕ → Bool
are_whole w =
    let one = behind_tracker w in
    let two = behind_tracker one in
    one_whole w && (one_whole one && (one_whole two && one_whole (behind_tracker two)))

unfoldable pub behind_trackers : List ℕ → List ℕ
behind_trackers w = behind_tracker (behind_tracker (behind_tracker (behind_tracker w)))

-- from place 13 on tracker, in fade, ended, count, fade steps
unfoldable pub given_bank : Trackers → List ℕ → EkfTrackingBank
given_bank h w =
    bank_of (number_at 17 w) h.t0 h.t1 h.t2 (number_at 13 w) (mark_at 14 w) (number_at 16 w) (mark_at 15 w)

-- from place 10 on locked, ever locked, last SNR
unfoldable pub given_channel : List ℕ → Channel
given_channel w =
    let rate = decimated_rate (number_at 0 w) (number_at 1 w) in
    let m = modulation_of (number_at 2 w) in
    let h = given_trackers rate m (drop 22 w) in
    channel_of (given_setup w) (given_status w) (given_carriers (drop 6 w)) h.pll (given_bank h w)
    (mark_at 11 w) (float32_at 12 w) (mark_at 10 w) (given_reading w)

-- whether all its numbers stand in the line, and what stands behind them
abbrev pub is_whole : List ℕ → Bool
is_whole w = are_whole (drop 22 w)

abbrev pub behind_channel : List ℕ → List ℕ
behind_channel w = behind_trackers (drop 22 w)
