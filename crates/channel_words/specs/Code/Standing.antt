-- A channel as it stands, as the numbers of a line. Definitions only.
use Rattle.std.specs.Prelude.{ℕ, cond, not, List, [], ◌∷◌, ◌++◌}
use Rattle.std.specs.Float.{binary32, binary64}
use Rattle.std.specs.Float.Ieee.{to_bits}
use Rattle.std.specs.List.{fold}
use Rattle.vectors.specs.Code.Words.{mixed}
use Rattle.tracker.specs.declared.state.Tracked.{Tracked}
use Rattle.bank_model.specs.declared.state.EkfTrackingBank.{EkfTrackingBank}
use Rattle.channel_model.specs.declared.Carriers.{Carriers}
use Rattle.channel_model.specs.declared.Channel.{Channel}
use Rattle.channel_model.specs.declared.Reading.{Reading}
use Rattle.channel_model.specs.Assigning.{idle}
use Rattle.vectors.specs.Code.Lines.{mark_number}

-- one number for a tracker's x, P, envelope, both sums, interval and ratio
unfoldable pub tracker_mix : Tracked → ℕ
tracker_mix h =
    let t = h.ekf in
    let rest = t.envelope_ema ∷ t.power.sum_abs_i ∷ t.power.sum_q_sq ∷ t.tuning.ts ∷ t.tuning.frequency_ratio ∷ [] in
    fold mixed 0 (t.x ++ h.p ++ rest)

-- locked, metric, pairs pushed, guard, and the one number
unfoldable pub tracker_words : Tracked → List ℕ
tracker_words h =
    let t = h.ekf in
    mark_number t.is_locked ∷ to_bits binary64 t.lock_metric ∷ t.power.pushed ∷ t.convergence_guard ∷ tracker_mix h ∷ []

-- assigned, locked, ever locked, last SNR
unfoldable pub mark_words : Channel → List ℕ
mark_words c = mark_number (not (idle c.status)) ∷ mark_number c.is_locked ∷ mark_number c.ever_locked ∷ to_bits binary32 c.last_snr ∷ []

-- phase, frequency, SNR, electron content
unfoldable pub reading_words : Reading → List ℕ
reading_words r = to_bits binary64 r.phase ∷ to_bits binary64 r.frequency ∷ to_bits binary64 r.snr ∷ to_bits binary64 r.electrons ∷ []

unfoldable pub carrier_words : Carriers → List ℕ
carrier_words a = to_bits binary64 a.nominal ∷ to_bits binary64 a.target ∷ to_bits binary64 a.target2 ∷ to_bits binary64 a.frequency2 ∷ []

-- tracker in use, in fade, count, fade steps, ended
unfoldable pub fade_words : EkfTrackingBank → List ℕ
fade_words b = b.active_idx ∷ mark_number b.in_fade ∷ b.fade_counter ∷ b.max_fade_steps ∷ mark_number b.terminated_in_fade ∷ []

unfoldable pub bank_words : EkfTrackingBank → List ℕ
bank_words b = fade_words b ++ tracker_words b.t0 ++ tracker_words b.t1 ++ tracker_words b.t2

-- a channel without its bank
unfoldable pub pll_words : Channel → List ℕ
pll_words c = mark_words c ++ reading_words c.reading ++ carrier_words c.carriers ++ tracker_words c.pll

-- 37 numbers with a bank; 17 without one, since the Rust then has none
unfoldable pub standing_words : Channel → List ℕ
standing_words c = cond c.setup.bank (pll_words c ++ bank_words c.bank) (pll_words c)
