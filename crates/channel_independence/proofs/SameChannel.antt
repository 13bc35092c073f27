-- One channel and two window memories that agree where its trackers may read: a block call answers the same, returns the same channel and leaves
-- the memories so. Assumes nothing.
use Prim.Native.Nat.{ℕ, zero, suc}
use mathlib.Core.Path.{◌≡◌, refl, sym, ap, subst, subst₂}
use mathlib.Core.List.{List}
use lib.Dec.{eqb}
use lib.Ieee.{Float}
use Rattle.tracker_power_ratio.proofs.LiveRing.{none_live}
use Rattle.tracker.specs.declared.state.CarrierPllEkf.{CarrierPllEkf}
use Rattle.tracker.specs.declared.state.Tracked.{Tracked}
use Rattle.tracker.specs.State.{reset_to}
use Rattle.bank_model.specs.Following.{Lists}
use Rattle.channel_model.specs.declared.Channel.{Channel}
use Rattle.channel_model.specs.Values.{moved, with_all, unlocked, on_each}
use Rattle.channel_model.specs.Assigning.{idle}
use Rattle.channel_model.specs.Answers.{answer_of}
use Rattle.channel_model.specs.Refusals.{BlockArgs, block_refusal}
use Rattle.channel_model.specs.Starting.{starts, start_frequency, restarted, started_unlocked, started_at, started}
use Rattle.channel_model.specs.Tracking.{followed_by}
use Rattle.channel_model.specs.Blocks.{Outcome, untouched, not_locked, remembered, bank_without_signal, without_signal, by_flag, block_step, blocked}
use Rattle.channel_model.specs.Code.SignalStep.{shown_with, tracked_over}
use Rattle.channel_model.proofs.SignalParts.{two_parts}
use Rattle.channel_independence.proofs.Choices.{either, both}
use Rattle.channel_independence.proofs.Frames.{Frames, frames, with_frames}
use Rattle.channel_independence.proofs.Windows.{LiveAt, Windows, ChannelWindows, Alike, followed_alike}

-- two block calls answer the same, return the same channel, and leave memories that agree where it may read
pub record Same (o p : Outcome Channel) : Type 0 where
  pub answer : o.answer ≡ p.answer
  pub channel : o.channel ≡ p.channel
  pub live : Windows o.channel o.windows p.windows

-- ---- where the counts are as before, what agreed agrees

count_kept : (i : ℕ) (t u : CarrierPllEkf) (w v : List Float) → u.power.pushed ≡ t.power.pushed → LiveAt i t.power.pushed w v → LiveAt i u.power.pushed w v
count_kept i t u w v e h = rw e h

pub windows_kept : (c d : Channel) (w v : List Float) → frames d ≡ frames c → Windows c w v → Windows d w v
windows_kept c d w v e h =
    record {
      size₁ = h.size₁;
      size₂ = h.size₂;
      pll = count_kept 0 c.pll.ekf d.pll.ekf w v (ap (λ (f : Frames). f.pll.power.pushed) e) h.pll;
      t0 = count_kept 1 c.bank.t0.ekf d.bank.t0.ekf w v (ap (λ (f : Frames). f.t0.power.pushed) e) h.t0;
      t1 = count_kept 2 c.bank.t1.ekf d.bank.t1.ekf w v (ap (λ (f : Frames). f.t1.power.pushed) e) h.t1;
      t2 = count_kept 3 c.bank.t2.ekf d.bank.t2.ekf w v (ap (λ (f : Frames). f.t2.power.pushed) e) h.t2;
    }

-- ---- a signal block, its trackers started

-- what follows the samples, with the lists l and m left in the lent memory
ended : Float → List Float → List Float → ChannelWindows → Outcome Channel
ended snr l m h = let d = shown_with snr h.0 in record { answer = answer_of d; channel = d; first = l; second = m; windows = h.1 }

ended_same : (snr : Float) (l m : List Float) (a b : ChannelWindows) → Alike a b → Same (ended snr l m a) (ended snr l m b)
unfolding ended
ended_same snr l m a b h =
    record {
      answer = ap (λ (c : Channel). answer_of (shown_with snr c)) h.same;
      channel = ap (shown_with snr) h.same;
      live = windows_kept a.0 (shown_with snr a.0) a.1 b.1 (with_frames snr a.0) h.live;
    }

pub tracked_same : (snr : Float) (c d : Channel) (l m w v : List Float) → c ≡ d → Windows c w v → Same (tracked_over snr c l m w) (tracked_over snr d l m v)
unfolding tracked_over ended
tracked_same snr c d l m w v e h =
    let lists : Lists = record { two = c.setup.two; first = l; second = m } in
    subst (λ (x : Channel). Same (tracked_over snr c l m w) (tracked_over snr x l m v)) e
    (ended_same snr l m (followed_by c.setup.bank c lists w) (followed_by c.setup.bank c lists v) (followed_alike c.setup.bank c lists w v h))

-- ---- its start: a tracker that is reset reads nothing

restart_live : (i : ℕ) (hz : Float) (h : Tracked) (w v : List Float) → LiveAt i h.ekf.power.pushed w v → LiveAt i (restarted hz h).ekf.power.pushed w v
unfolding restarted reset_to
restart_live i hz h w v l = none_live _ _ l.size₁ l.size₂

unlocked_live : (i : ℕ) (hz : Float) (h : Tracked) (w v : List Float) → LiveAt i h.ekf.power.pushed w v → LiveAt i (started_unlocked hz h).ekf.power.pushed w v
unfolding started_unlocked
unlocked_live i hz h w v l = either (λ (t : Tracked). LiveAt i t.ekf.power.pushed w v) h.ekf.is_locked l (restart_live i hz h w v l)

start_windows : (hz : Float) (c : Channel) (w v : List Float) → Windows c w v → Windows (started_at hz c) w v
unfolding started_at with_all moved on_each
start_windows hz c w v h =
    record {
      size₁ = h.size₁;
      size₂ = h.size₂;
      pll = restart_live 0 hz c.pll w v h.pll;
      t0 = unlocked_live 1 hz c.bank.t0 w v h.t0;
      t1 = unlocked_live 2 hz c.bank.t1 w v h.t1;
      t2 = unlocked_live 3 hz c.bank.t2 w v h.t2;
    }

started_windows : (c : Channel) (l w v : List Float) → Windows c w v → Windows (started c l) w v
unfolding started
started_windows c l w v h =
    either (λ (d : Channel). Windows d w v) (starts c) (start_windows (start_frequency c.pll.ekf.modulation c.setup l) c w v h) h

-- ---- the call

-- memory that is not touched
untouched_same : (c d : Channel) (b : BlockArgs) (w v : List Float) → frames d ≡ frames c → Windows c w v → Same (untouched d b w) (untouched d b v)
unfolding untouched
untouched_same c d b w v e h = record { answer = refl; channel = refl; live = windows_kept c d w v e h }

flag_same : (k : ℕ) (c : Channel) (b : BlockArgs) (w v : List Float) → Windows c w v → Same (by_flag k c b w) (by_flag k c b v)
unfolding by_flag without_signal not_locked remembered moved bank_without_signal on_each unlocked
flag_same zero c b w v h = untouched_same c _ b w v refl h
flag_same (suc zero) c b w v h =
    subst₂ Same (sym (two_parts c b w)) (sym (two_parts c b v)) (tracked_same _ _ _ _ _ w v refl (started_windows c b.first w v h))
flag_same (suc (suc zero)) c b w v h = untouched_same c _ b w v refl h
flag_same (suc (suc (suc zero))) c b w v h = untouched_same c _ b w v refl h
flag_same (suc (suc (suc (suc k)))) c b w v h = untouched_same c _ b w v refl h

step_same : (c : Channel) (b : BlockArgs) (w v : List Float) → Windows c w v → Same (block_step c b w) (block_step c b v)
unfolding block_step not_locked moved
step_same c b w v h = both Same (idle c.status) (untouched_same c _ b w v refl h) (flag_same b.flag c b w v h)

pub block_same : (c d : Channel) (b : BlockArgs) (w v : List Float) → c ≡ d → Windows c w v → Same (blocked c b w) (blocked d b v)
unfolding blocked
block_same c d b w v e h =
    subst (λ (x : Channel). Same (blocked c b w) (blocked x b v)) e
    (rw (h.size₁, h.size₂)
    (both Same (eqb (block_refusal c.setup.two b 8192) 0) (step_same c b w v h) (record { answer = refl; channel = refl; live = h })))
