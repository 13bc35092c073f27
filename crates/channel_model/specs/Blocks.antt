-- Block (the scope, module 9). The step of a block stands apart from its refusals. Definitions only.
use Rattle.std.specs.Prelude.{ℕ, zero, suc, false, cond, List, eqb, length, Float}
use Rattle.std.specs.Float.{binary32}
use Rattle.std.specs.Float.Ieee.{neg}
use Rattle.ieee754.specs.Conversion.{convert}
use Rattle.ieee754.specs.Binary64 as float
use Rattle.tracker.specs.declared.state.Tracked.{Tracked}
use Rattle.bank_model.specs.declared.state.EkfTrackingBank.{EkfTrackingBank}
use Rattle.bank_model.specs.Values.{marked}
use Rattle.channel_samples.specs.Normalisation.{normalised}
use Rattle.estimate_snr.specs.MomentEstimate.{snr_of}
use Rattle.channel_model.specs.declared.Answer.{Answer}
use Rattle.channel_model.specs.declared.Channel.{Channel}
use Rattle.channel_model.specs.declared.Blocked.{Blocked}
use Rattle.channel_model.specs.Values.{channel_of, moved, with_snr, unlocked, on_each}
use Rattle.channel_model.specs.Assigning.{idle}
use Rattle.channel_model.specs.Answers.{answer_of, refused_answer}
use Rattle.channel_model.specs.Refusals.{BlockArgs, block_refusal}
use Rattle.channel_model.specs.Starting.{started}
use Rattle.channel_model.specs.Tracking.{followed_by, with_shown}

-- What a block call gives back: the answer, the channel, and what stands in the two lists and the window memory. X is the type of channels.
pub record Outcome (X : Type 0) : Type 0 where
  pub answer : Answer
  pub channel : X
  pub first : List Float
  pub second : List Float
  pub windows : List Float

-- the lists and the window memory stay, and the answer shows the channel
unfoldable pub untouched : Channel → BlockArgs → List Float → Outcome Channel
untouched c b w = record { answer = answer_of c; channel = c; first = b.first; second = b.second; windows = w }

-- ---- Idle, and the flags 2, 3 and 4

-- not locked, with an SNR that the next start does not look at
unfoldable pub not_locked : Channel → Tracked → Float → Channel
not_locked c h snr = moved c h c.bank c.ever_locked false (with_snr c.reading snr)

-- ---- the flags 0 and 1: an SNR that the next start looks at

-- the SNR shown, and the f32 of it that is remembered
unfoldable pub remembered : Channel → Float → Channel
remembered c snr =
    channel_of c.setup c.status c.carriers c.pll c.bank c.ever_locked (convert binary32 snr) c.is_locked (with_snr c.reading snr)

-- a bank without a signal: all trackers unlock, none is in use, no fade; the count and the mark of having ended stay
unfoldable pub bank_without_signal : EkfTrackingBank → EkfTrackingBank
bank_without_signal b = marked (on_each unlocked b) 3 false b.fade_counter b.terminated_in_fade

-- flag 0: no signal
unfoldable pub without_signal : Channel → List Float → Channel
without_signal c l = remembered (moved c (unlocked c.pll) (bank_without_signal c.bank) c.ever_locked false c.reading) (snr_of l)

-- Flag 1: a signal. The SNR and the start look at the list as it came. The trackers take the normalised lists, which are left in the lent memory; the second
-- is normalised with two frequencies.
unfoldable pub with_signal : Channel → BlockArgs → List Float → Outcome Channel
with_signal c b w =
    let s = started c b.first in
    let l = normalised b.first in
    let m = cond c.setup.two (normalised b.second) b.second in
    let h = followed_by s.setup.bank s (record { two = s.setup.two; first = l; second = m }) w in
    let d = remembered (with_shown h.0) (snr_of b.first) in
    record { answer = answer_of d; channel = d; first = l; second = m; windows = h.1 }

-- ---- the call

-- by the flag, which is the survey's number: 2 a NaN, 3 clipped, 4 no pairs, with the SNR 0, 0.5 and -5
unfoldable pub by_flag : ℕ → Channel → BlockArgs → List Float → Outcome Channel
by_flag zero c b w = untouched (without_signal c b.first) b w
by_flag (suc zero) c b w = with_signal c b w
by_flag (suc (suc zero)) c b w = untouched (not_locked c (unlocked c.pll) float.zero) b w
by_flag (suc (suc (suc zero))) c b w = untouched (not_locked c (unlocked c.pll) float.half) b w
by_flag (suc (suc (suc (suc k)))) c b w = untouched (not_locked c c.pll (neg float.five)) b w

-- the step of a block: an Idle channel is not locked, SNR 0, all else as it was; another goes by the flag
unfoldable pub block_step : Channel → BlockArgs → List Float → Outcome Channel
block_step c b w = cond (idle c.status) (untouched (not_locked c c.pll float.zero) b w) (by_flag b.flag c b w)

-- a refused call gives all back as it was
unfoldable pub blocked : Channel → BlockArgs → List Float → Outcome Channel
blocked c b w =
    let n = block_refusal c.setup.two b (length w) in
    cond (eqb n 0) (block_step c b w) (record { answer = refused_answer n; channel = c; first = b.first; second = b.second; windows = w })

-- what a call returned and left in the three lent memories, as one outcome
unfoldable pub outcome : Blocked → List Float → List Float → List Float → Outcome Channel
outcome r first second windows = record { answer = r.answer; channel = r.channel; first = first; second = second; windows = windows }
