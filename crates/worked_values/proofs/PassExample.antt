-- The calls that the pass text's example makes, one after the other. No sample is tracked in it, so the window memory is never looked at.
-- Assumes nothing.
use Prim.Native.Nat.{ℕ, ◌*◌}
use mathlib.Core.Path.{◌≡◌, refl, sym, ap, ◌∙◌}
use mathlib.Core.Bool.{Bool, true, false}
use mathlib.Core.List.{List, []}
use native.Mathlib.Omega.{arith}
use lib.ListN.{length}
use lib.Seq.{take-nil}
use lib.Ieee.{Float, binary64, of_bits, of_int, add, sub, mul, div, neg, lt, le, eq, is_nan}
use Rattle.ieee754.specs.Conversion.{convert}
use Rattle.ieee754.specs.Sign.{absolute}
use Rattle.sequences.specs.Pairs.{pairs, map_pairs}
use Rattle.sequences.specs.Folds.{fold, every}
use Rattle.ieee754.specs.Binary64 as float
use Rattle.tracker_measurement.specs.declared.modulation.Modulation.{Modulation}
use Rattle.tracker.specs.declared.state.Tracked.{Tracked}
use Rattle.tracker.specs.State.{initial_tracker}
use Rattle.tracker.specs.State.{reset_to}
use Rattle.estimate_correlation.specs.Correlation.{prepared}
use Rattle.estimate_correlation.proofs.SampleLaws.{prepared_count}
use Rattle.estimate_esprit.proofs.EstimateCases.{too_few}
use Rattle.estimate_snr.specs.MomentEstimate.{snr_of}
use Rattle.channel_samples.specs.Limits.{all_in_range}
use Rattle.channel_samples.specs.Normalisation.{normalised}
use Rattle.bank_model.specs.declared.state.EkfTrackingBank.{EkfTrackingBank}
use Rattle.tracker_readings.specs.Readings.{scale, hertz, phase_at}
use Rattle.bank_model.specs.Discrepancy.{hertz32, frequency_diffs, weight, joint_weight, weighted_mean, discrepancy}
use Rattle.bank_model.specs.Pruning.{pruned}
use Rattle.bank_model.specs.Choice.{better, chosen, numbered}
use Rattle.bank_model.specs.Values.{marked}
use Rattle.bank_model.specs.Fade.{selected, finished}
use Rattle.bank_model.specs.Following.{Lists, bank_followed}
use Rattle.channel_model.specs.declared.Settings.{Settings}
use Rattle.channel_model.specs.declared.Carriers.{Carriers}
use Rattle.channel_model.specs.declared.Setup.{Setup}
use Rattle.channel_model.specs.declared.Channel.{Channel}
use Rattle.channel_model.specs.Values.{moved, with_all, with_snr, unlocked, on_each}
use Rattle.channel_model.specs.Opening.{bad_rate, bad_ratio, open_refusal, modulation_of, whole, fade_steps, new_tracker, new_setup, resting_bank, idle_channel, new_channel, opened}
use Rattle.channel_model.specs.Assigning.{good_carrier, good_carriers, idle, assign_refusal, with_carriers, assigned}
use Rattle.channel_model.specs.Readout.{centre, frequency_at, read_from}
use Rattle.channel_model.specs.Answers.{answer_of}
use Rattle.channel_model.specs.Refusals.{BlockArgs, first_cause, bad_length, block_refusal}
use Rattle.channel_model.specs.Starting.{starts, chunk, squares, start_frequency, restarted, started_unlocked, started_at, started}
use Rattle.channel_model.specs.Tracking.{followed_by, scale_of, bank_shown, with_shown}
use Rattle.channel_model.specs.Blocks.{untouched, not_locked, remembered, bank_without_signal, without_signal, with_signal, by_flag, block_step, blocked}
use Rattle.channel_model.specs.Code.SignalStep.{shown_with, tracked_over}
use Rattle.channel_model.proofs.SignalParts.{two_parts}
use Rattle.pass_writer.specs.declared.lines.Shown.{Shown}
use Rattle.pass_setup.specs.Judging.{shown_of}

-- ---- open and assign are accepted

-- `40000 1 0 1 1 1 5`: rate, factor, modulation, adaptive, dual, bank, fade; one frequency, ratio 1
abbrev pub pass_settings : Settings
pass_settings = record { rate = 40000; factor = 1; modulation = 0; adaptive = true; dual_lock = true; bank = true; two = false; fade = 5; ratio = float.one }

-- `0 137500000`: nominal, target; the second target and `frequency2` are 0
abbrev pub pass_carriers : Carriers
pass_carriers = record { nominal = whole 0; target = whole 137500000; target2 = float.zero; frequency2 = float.zero }

abbrev pub assigned_channel : Channel
assigned_channel = with_carriers (new_channel pass_settings) pass_carriers

pub pass_opens : opened pass_settings ≡ record { refusal = 0; channel = new_channel pass_settings }
unfolding opened open_refusal first_cause bad_rate bad_ratio le of_bits
pass_opens = refl

good_carriers_lem : good_carriers pass_carriers ≡ true
unfolding good_carriers good_carrier whole of_bits of_int le
good_carriers_lem = refl

pub pass_assigns : assigned (new_channel pass_settings) pass_carriers ≡ record { refusal = 0; channel = assigned_channel }
unfolding assigned assign_refusal first_cause idle new_channel idle_channel
pass_assigns = rw good_carriers_lem

-- ---- a block without samples that an assigned channel with one frequency accepts goes by its flag

-- a flag and `-`
abbrev pub no_samples : ℕ → BlockArgs
no_samples flag = record { flag = flag; first = []; second = [] }

-- what the call leaves is one channel, and the answer shows it
abbrev pub Leads : Channel → ℕ → Channel → Type 0
Leads c flag d = (w : List Float) → length w ≡ 8192 → blocked c (no_samples flag) w ≡ untouched d (no_samples flag) w

record Accepts (c : Channel) : Type 0 where
  one_frequency : c.setup.two ≡ false
  assigned_to : idle c.status ≡ false

by_flag_lem : (c : Channel) (flag : ℕ) (w : List Float) → length w ≡ 8192 → Accepts c → block_refusal false (no_samples flag) 8192 ≡ 0
    → blocked c (no_samples flag) w ≡ by_flag flag c (no_samples flag) w
unfolding blocked block_step
by_flag_lem c flag w size a good = rw (a.one_frequency, size, good, a.assigned_to)

-- the three flags, with the window memory's length
good_0 : block_refusal false (no_samples 0) 8192 ≡ 0
unfolding block_refusal first_cause bad_length all_in_range every
good_0 = refl

good_1 : block_refusal false (no_samples 1) 8192 ≡ 0
unfolding block_refusal first_cause bad_length all_in_range every
good_1 = refl

good_3 : block_refusal false (no_samples 3) 8192 ≡ 0
unfolding block_refusal first_cause bad_length all_in_range every
good_3 = refl

-- ---- block 1: no signal

abbrev pub channel1 : Channel
channel1 = without_signal assigned_channel []

accepts_1 : Accepts assigned_channel
unfolding with_carriers new_channel idle_channel new_setup idle
accepts_1 = record { one_frequency = refl; assigned_to = refl }

pub block_1 : Leads assigned_channel 0 channel1
unfolding by_flag
block_1 w size = by_flag_lem assigned_channel 0 w size accepts_1 good_0

-- the lines behind their block's number: `locked tracker fade phase frequency snr`, the last three by the bits of an f64
abbrev line : Bool → ℕ → ℕ → ℕ → ℕ → ℕ → Shown
line locked tracker fade phase frequency snr =
    record { locked = locked; tracker = tracker; fade = fade; phase = of_bits binary64 phase; frequency = of_bits binary64 frequency; snr = of_bits binary64 snr }

-- `0 3 0 0000000000000000 0000000000000000 c034000000000000`
abbrev pub line1 : Shown
line1 = line false 3 0 0 0 0xc034_0000_0000_0000

pub shown_1 : shown_of (answer_of channel1) ≡ line1
unfolding shown_of answer_of without_signal bank_without_signal remembered moved with_snr snr_of neg with_carriers new_channel idle_channel new_setup resting_bank of_bits
shown_1 = refl

-- ---- block 2: a signal of no samples. All trackers start at 0 Hz, since nothing is estimated, and the first one is chosen

no_start : (m : Modulation) (k : Setup) → start_frequency m k [] ≡ float.zero
unfolding start_frequency
no_start m k =
    rw (take-nil {A = Float} (2 * chunk k)) (sym (too_few (prepared (squares m) []) _ (omega (arith, prepared_count (squares m) []))))

-- a tracker reset to phase 0, 0 Hz and chirp 0, and a bank of three
abbrev fresh : Tracked
fresh = restarted float.zero (new_tracker pass_settings)

abbrev fresh_bank : EkfTrackingBank
fresh_bank = resting_bank (fade_steps pass_settings) fresh fresh fresh

abbrev started_channel : Channel
started_channel = with_all channel1 fresh fresh_bank

starts_1 : starts channel1 ≡ true
unfolding starts without_signal remembered moved unlocked with_carriers new_channel idle_channel
starts_1 = refl

starts_at_0 : started_at float.zero channel1 ≡ started_channel
unfolding started_at moved on_each started_unlocked restarted reset_to without_signal bank_without_signal unlocked remembered with_carriers new_channel idle_channel resting_bank
starts_at_0 = refl

started_1 : started channel1 [] ≡ started_channel
unfolding started
started_1 = rw (starts_1, no_start channel1.pll.ekf.modulation channel1.setup) starts_at_0

-- over no samples no tracker moves
abbrev nothing : Lists
nothing = record { two = false; first = []; second = [] }

stands : (c : Channel) (w : List Float) → followed_by true c nothing w ≡ (c, w)
unfolding followed_by with_all moved bank_followed fold pairs
stands c w = refl

-- the bank prunes nothing and chooses tracker 0
chooses : finished (scale_of started_channel) fresh_bank ≡ marked fresh_bank 0 false 0 false
unfolding finished selected pruned chosen better discrepancy weighted_mean frequency_diffs joint_weight weight hertz32 hertz scale resting_bank restarted reset_to new_tracker initial_tracker modulation_of convert absolute of_bits sub mul div lt is_nan
chooses = refl

-- what is shown then, and the SNR of no samples
abbrev pub channel2 : Channel
channel2 = remembered (bank_shown (marked fresh_bank 0 false 0 false) started_channel) (neg float.twenty)

shows_2 : shown_with (neg float.twenty) started_channel ≡ channel2
unfolding shown_with with_shown with_all without_signal remembered moved with_carriers new_channel idle_channel new_setup
shows_2 = ap (λ b. remembered (bank_shown b started_channel) (neg float.twenty)) chooses

tracked_2 : (w : List Float) → tracked_over (neg float.twenty) started_channel [] [] w ≡ untouched channel2 (no_samples 1) w
unfolding tracked_over untouched with_all without_signal remembered moved with_carriers new_channel idle_channel new_setup
tracked_2 w =
    ap (λ (k : Channel × List Float). untouched (shown_with (neg float.twenty) k.0) (no_samples 1) k.1) (stands started_channel w)
    ∙ ap (λ (c : Channel). untouched c (no_samples 1) w) shows_2

with_signal_2 : (w : List Float) → with_signal channel1 (no_samples 1) w ≡ untouched channel2 (no_samples 1) w
unfolding normalised map_pairs snr_of without_signal remembered moved with_carriers new_channel idle_channel new_setup
with_signal_2 w = two_parts channel1 (no_samples 1) w ∙ ap (λ c. tracked_over (neg float.twenty) c [] [] w) started_1 ∙ tracked_2 w

accepts_2 : Accepts channel1
unfolding without_signal remembered moved with_carriers new_channel idle_channel new_setup idle
accepts_2 = record { one_frequency = refl; assigned_to = refl }

pub block_2 : Leads channel1 1 channel2
unfolding by_flag
block_2 w size = by_flag_lem channel1 1 w size accepts_2 good_1 ∙ with_signal_2 w

-- `1 0 0 0000000000000000 41a0642ac0000000 c034000000000000`
abbrev pub line2 : Shown
line2 = line true 0 0 0 0x41a0_642a_c000_0000 0xc034_0000_0000_0000

pub shown_2 : shown_of (answer_of channel2) ≡ line2
unfolding shown_of answer_of remembered bank_shown moved with_snr read_from frequency_at centre phase_at hertz scale_of scale numbered with_all restarted reset_to without_signal with_carriers new_channel idle_channel new_setup resting_bank new_tracker initial_tracker modulation_of whole eq of_bits of_int add mul div neg
shown_2 = refl

-- ---- block 3: clipped. `pll_tracker` is unlocked, and the bank's trackers are as they were

abbrev pub channel3 : Channel
channel3 = not_locked channel2 (unlocked channel2.pll) (of_bits binary64 0x3fe0_0000_0000_0000)

accepts_3 : Accepts channel2
unfolding remembered bank_shown with_all without_signal moved with_carriers new_channel idle_channel new_setup idle
accepts_3 = record { one_frequency = refl; assigned_to = refl }

pub block_3 : Leads channel2 3 channel3
unfolding by_flag
block_3 w size = by_flag_lem channel2 3 w size accepts_3 good_3

-- `0 0 0 0000000000000000 41a0642ac0000000 3fe0000000000000`
abbrev pub line3 : Shown
line3 = line false 0 0 0 0x41a0_642a_c000_0000 0x3fe0_0000_0000_0000

-- tracker, fade, phase and frequency are those of block 2
abbrev clipped_line : Shown → Shown
clipped_line l =
    record { locked = false; tracker = l.tracker; fade = l.fade; phase = l.phase; frequency = l.frequency; snr = of_bits binary64 0x3fe0_0000_0000_0000 }

pub shown_3 : shown_of (answer_of channel3) ≡ line3
unfolding shown_of not_locked moved with_snr answer_of
shown_3 = ap clipped_line shown_2
