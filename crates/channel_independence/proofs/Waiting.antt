-- Channels that wait for their first signal block since opening or release: what a call shows of them does not turn on what their trackers hold.
-- Assumes nothing.
use Prim.Native.Nat.{ℕ, zero, suc, ◌*◌, ◌<◌}
use native.Mathlib.Omega.{arith}
use mathlib.Core.Path.{◌≡◌, refl, sym, ◌∙◌, ap, subst, subst₂}
use mathlib.Core.Bool.{Bool, true, false, cond, not, ◌&&◌, ◌||◌}
use mathlib.Core.List.{List, []}
use lib.Dec.{eqb}
use lib.ListN.{length}
use lib.Ieee.{Float, binary32, of_bits, lt}
use Rattle.ieee754.specs.Binary64 as float
use Rattle.sequences.proofs.StretchLaws.{length_stretch}
use Rattle.tracker_power_ratio.proofs.LiveRing.{none_live}
use Rattle.tracker.specs.declared.state.Tracked.{Tracked}
use Rattle.tracker.specs.State.{reset_to}
use Rattle.tracker.proofs.Settings.{settings}
use Rattle.bank_model.specs.Values.{with_trackers}
use Rattle.channel_samples.specs.Normalisation.{normalised}
use Rattle.estimate_snr.specs.MomentEstimate.{snr_of}
use Rattle.channel_model.specs.declared.Status.{Status}
use Rattle.channel_model.specs.declared.Status.TheVariants.{Idle, Assigned}
use Rattle.channel_model.specs.declared.Carriers.{Carriers}
use Rattle.channel_model.specs.declared.Channel.{Channel}
use Rattle.channel_model.specs.Values.{moved, with_all, unlocked, on_each}
use Rattle.channel_model.specs.Opening.{no_carriers, resting_bank, idle_channel}
use Rattle.channel_model.specs.Assigning.{idle, assign_refusal, with_carriers, assigned}
use Rattle.channel_model.specs.Releasing.{released}
use Rattle.channel_model.specs.Answers.{metric_of, answer_of, refused_answer}
use Rattle.channel_model.specs.Refusals.{BlockArgs, block_refusal}
use Rattle.channel_model.specs.Starting.{starts, start_frequency, restarted, started_unlocked, started_at, started}
use Rattle.channel_model.specs.Blocks.{Outcome, untouched, not_locked, remembered, bank_without_signal, without_signal, with_signal, by_flag, block_step, blocked}
use Rattle.channel_model.specs.Code.SignalStep.{tracked_over}
use Rattle.channel_model.proofs.SignalParts.{two_parts}
use Rattle.channel_independence.proofs.Choices.{both}
use Rattle.channel_independence.proofs.Windows.{LiveAt, Windows}
use Rattle.channel_independence.proofs.SameChannel.{Same, tracked_same}

-- a tracker with only its settings left
unfoldable pub hidden : Tracked → Tracked
hidden h = record { ekf = settings h.ekf; p = [] }

-- the channel with such trackers, and without its carriers
unfoldable pub blind : Channel → Channel
blind c =
    record {
      setup = c.setup;
      status = c.status;
      carriers = no_carriers;
      pll = hidden c.pll;
      bank = with_trackers c.bank (hidden c.bank.t0) (hidden c.bank.t1) (hidden c.bank.t2) c.bank.terminated_in_fade;
      ever_locked = c.ever_locked;
      last_snr = c.last_snr;
      is_locked = c.is_locked;
      reading = c.reading;
    }

-- the carriers count once assign has set them
unfoldable pub seen_by : Status → Carriers → Carriers
seen_by Idle a = no_carriers
seen_by Assigned a = a

unfoldable pub seen : Channel → Carriers
seen c = seen_by c.status c.carriers

-- no tracker is locked, and the next signal block starts all
pub record Waiting (c : Channel) : Type 0 where
  pub ever : c.ever_locked ≡ false
  pub pll : c.pll.ekf.is_locked ≡ false
  pub t0 : c.bank.t0.ekf.is_locked ≡ false
  pub t1 : c.bank.t1.ekf.is_locked ≡ false
  pub t2 : c.bank.t2.ekf.is_locked ≡ false

-- two waiting channels, equal in all that shows
pub record Apart (c d : Channel) : Type 0 where
  pub blinded : blind c ≡ blind d
  pub carriers : seen c ≡ seen d
  pub first : Waiting c
  pub second : Waiting d

-- what a block on two such channels leads to: both wait on, or both have started and are the same
pub data Led (o p : Outcome Channel) : Type 0 where
  waits : o.answer ≡ p.answer → Apart o.channel p.channel → Led o p
  meets : Same o p → Led o p

-- ---- the start of a waiting channel

starts_waiting : (c : Channel) → Waiting c → starts c ≡ true
unfolding starts
starts_waiting c h = λ i. not (h.pll i) && (not (h.ever i) || lt c.last_snr (of_bits binary32 0))

-- the start, by the lock marks of the bank's trackers
started_for : Bool → Bool → Bool → Float → Channel → Channel
started_for x y z hz c =
    let b = c.bank in
    with_all c (restarted hz c.pll)
    (with_trackers b (cond x b.t0 (restarted hz b.t0)) (cond y b.t1 (restarted hz b.t1)) (cond z b.t2 (restarted hz b.t2)) b.terminated_in_fade)

abbrev start_hz : Channel → List Float → Float
start_hz c l = start_frequency c.pll.ekf.modulation c.setup l

started_all : (c : Channel) (l : List Float) → Waiting c → started c l ≡ started_for false false false (start_hz c l) c
unfolding started started_at on_each started_unlocked started_for
started_all c l h = (λ i. cond (starts_waiting c h i) (started_at (start_hz c l) c) c) ∙ (λ i. started_for (h.t0 i) (h.t1 i) (h.t2 i) (start_hz c l) c)

-- the channel with other carriers
dressed : Carriers → Channel → Channel
dressed a c =
    record {
      setup = c.setup;
      status = c.status;
      carriers = a;
      pll = c.pll;
      bank = c.bank;
      ever_locked = c.ever_locked;
      last_snr = c.last_snr;
      is_locked = c.is_locked;
      reading = c.reading;
    }

-- it reads nothing that blind hides, but the carriers
started_blind : (c : Channel) (l : List Float) → Waiting c → started c l ≡ dressed c.carriers (started_for false false false (start_hz (blind c) l) (blind c))
unfolding started_for dressed blind hidden with_all moved restarted reset_to
started_blind c l h = started_all c l h

started_same : (c d : Channel) (l : List Float) → blind c ≡ blind d → c.carriers ≡ d.carriers → Waiting c → Waiting d → started c l ≡ started d l
started_same c d l e f h g =
    started_blind c l h
    ∙ (λ i. dressed (f i) (started_for false false false (start_hz (e i) l) (e i)))
    ∙ sym (started_blind d l g)

-- after it no window may be read
none_started : (hz : Float) (c : Channel) (w v : List Float) → length w ≡ 8192 → length v ≡ 8192 → Windows (started_for false false false hz c) w v
unfolding started_for with_all moved restarted reset_to
none_started hz c w v p q =
    let ring : (i : ℕ) → i < 4 → LiveAt i 0 w v
    = λ i m. none_live _ _ (length_stretch (2048 * i) 2048 w (omega arith)) (length_stretch (2048 * i) 2048 v (omega arith)) in
    record { size₁ = p; size₂ = q; pll = ring 0 (omega arith); t0 = ring 1 (omega arith); t1 = ring 2 (omega arith); t2 = ring 3 (omega arith) }

started_windows : (c : Channel) (l w v : List Float) → Waiting c → length w ≡ 8192 → length v ≡ 8192 → Windows (started c l) w v
started_windows c l w v h p q = subst (λ (x : Channel). Windows x w v) (sym (started_all c l h)) (none_started (start_hz c l) c w v p q)

-- ---- a block on two waiting channels

silent_apart : (c d : Channel) (l : List Float) → Apart c d → Apart (without_signal c l) (without_signal d l)
unfolding without_signal remembered moved bank_without_signal on_each unlocked blind hidden seen
silent_apart c d l h =
    record {
      blinded = ap (λ (x : Channel). blind (without_signal x l)) h.blinded;
      carriers = h.carriers;
      first = record { ever = h.first.ever; pll = refl; t0 = refl; t1 = refl; t2 = refl };
      second = record { ever = h.second.ever; pll = refl; t0 = refl; t1 = refl; t2 = refl };
    }

silent_answer : (c d : Channel) (l : List Float) → Apart c d → answer_of (without_signal c l) ≡ answer_of (without_signal d l)
unfolding answer_of metric_of without_signal remembered moved bank_without_signal on_each blind
silent_answer c d l h = ap (λ (x : Channel). answer_of (without_signal x l)) h.blinded

-- a flag that unlocks `pll_tracker`, and one that leaves it
clipped_apart : (c d : Channel) (s : Float) → Apart c d → Apart (not_locked c (unlocked c.pll) s) (not_locked d (unlocked d.pll) s)
unfolding not_locked moved unlocked blind hidden seen
clipped_apart c d s h =
    record {
      blinded = ap (λ (x : Channel). blind (not_locked x (unlocked x.pll) s)) h.blinded;
      carriers = h.carriers;
      first = record { ever = h.first.ever; pll = refl; t0 = h.first.t0; t1 = h.first.t1; t2 = h.first.t2 };
      second = record { ever = h.second.ever; pll = refl; t0 = h.second.t0; t1 = h.second.t1; t2 = h.second.t2 };
    }

clipped_answer : (c d : Channel) (s : Float) → Apart c d → answer_of (not_locked c (unlocked c.pll) s) ≡ answer_of (not_locked d (unlocked d.pll) s)
unfolding answer_of metric_of not_locked moved blind
clipped_answer c d s h = ap (λ (x : Channel). answer_of (not_locked x (unlocked x.pll) s)) h.blinded

not_locked_apart : (c d : Channel) (s : Float) → Apart c d → Apart (not_locked c c.pll s) (not_locked d d.pll s)
unfolding not_locked moved blind hidden seen
not_locked_apart c d s h =
    record {
      blinded = ap (λ (x : Channel). blind (not_locked x x.pll s)) h.blinded;
      carriers = h.carriers;
      first = record { ever = h.first.ever; pll = h.first.pll; t0 = h.first.t0; t1 = h.first.t1; t2 = h.first.t2 };
      second = record { ever = h.second.ever; pll = h.second.pll; t0 = h.second.t0; t1 = h.second.t1; t2 = h.second.t2 };
    }

not_locked_answer : (c d : Channel) (s : Float) → Apart c d → answer_of (not_locked c c.pll s) ≡ answer_of (not_locked d d.pll s)
unfolding answer_of metric_of not_locked moved blind
not_locked_answer c d s h = ap (λ (x : Channel). answer_of (not_locked x x.pll s)) h.blinded

same_two : (c d : Channel) → Apart c d → c.setup.two ≡ d.setup.two
unfolding blind
same_two c d h = ap (λ (x : Channel). x.setup.two) h.blinded

signal_same : (c d : Channel) (b : BlockArgs) (w v : List Float) → length w ≡ 8192 → length v ≡ 8192 → c.carriers ≡ d.carriers → Apart c d
    → Same (with_signal c b w) (with_signal d b v)
signal_same c d b w v p q f h =
    let l = b.first in
    let m : Bool → List Float = λ two. cond two (normalised b.second) b.second in
    let k = m c.setup.two in
    subst₂ Same (sym (two_parts c b w)) (sym (two_parts d b v))
    (subst (λ (two : Bool). Same (tracked_over (snr_of l) (started c l) (normalised l) k w) (tracked_over (snr_of l) (started d l) (normalised l) (m two) v)) (same_two c d h)
    (tracked_same (snr_of l) (started c l) (started d l) (normalised l) k w v
    (started_same c d l h.blinded f h.first h.second) (started_windows c l w v h.first p q)))

flag_led : (k : ℕ) (c d : Channel) (b : BlockArgs) (w v : List Float) → length w ≡ 8192 → length v ≡ 8192 → c.carriers ≡ d.carriers → Apart c d
    → Led (by_flag k c b w) (by_flag k d b v)
unfolding by_flag untouched
flag_led zero c d b w v p q f h = waits (silent_answer c d b.first h) (silent_apart c d b.first h)
flag_led (suc zero) c d b w v p q f h = meets (signal_same c d b w v p q f h)
flag_led (suc (suc zero)) c d b w v p q f h = waits (clipped_answer c d _ h) (clipped_apart c d _ h)
flag_led (suc (suc (suc zero))) c d b w v p q f h = waits (clipped_answer c d _ h) (clipped_apart c d _ h)
flag_led (suc (suc (suc (suc k)))) c d b w v p q f h = waits (not_locked_answer c d _ h) (not_locked_apart c d _ h)

-- the step of a block, by the status
step_by : Status → Channel → BlockArgs → List Float → Outcome Channel
step_by s c b w = cond (idle s) (untouched (not_locked c c.pll float.zero) b w) (by_flag b.flag c b w)

status_led : (s : Status) (c d : Channel) (b : BlockArgs) (w v : List Float) → length w ≡ 8192 → length v ≡ 8192 → seen_by s c.carriers ≡ seen_by s d.carriers → Apart c d
    → Led (step_by s c b w) (step_by s d b v)
unfolding step_by idle untouched seen_by
status_led Idle c d b w v p q f h = waits (not_locked_answer c d _ h) (not_locked_apart c d _ h)
status_led Assigned c d b w v p q f h = flag_led b.flag c d b w v p q f h

same_status : (c d : Channel) → Apart c d → c.status ≡ d.status
unfolding blind
same_status c d h = ap (λ (x : Channel). x.status) h.blinded

step_led : (c d : Channel) (b : BlockArgs) (w v : List Float) → length w ≡ 8192 → length v ≡ 8192 → Apart c d → Led (block_step c b w) (block_step d b v)
unfolding block_step step_by seen
step_led c d b w v p q h =
    let e : c.status ≡ d.status = same_status c d h in
    let f : seen_by c.status c.carriers ≡ seen_by c.status d.carriers = h.carriers ∙ ap (λ (s : Status). seen_by s d.carriers) (sym e) in
    subst (λ (s : Status). Led (step_by c.status c b w) (step_by s d b v)) e (status_led c.status c d b w v p q f h)

-- a block, by its refusal number
block_by : ℕ → Channel → BlockArgs → List Float → Outcome Channel
block_by n c b w = cond (eqb n 0) (block_step c b w) (record { answer = refused_answer n; channel = c; first = b.first; second = b.second; windows = w })

number_led : (n : ℕ) (c d : Channel) (b : BlockArgs) (w v : List Float) → length w ≡ 8192 → length v ≡ 8192 → Apart c d → Led (block_by n c b w) (block_by n d b v)
unfolding block_by
number_led n c d b w v p q h = both Led (eqb n 0) (step_led c d b w v p q h) (waits refl h)

pub block_led : (c d : Channel) (b : BlockArgs) (w v : List Float) → length w ≡ 8192 → length v ≡ 8192 → Apart c d → Led (blocked c b w) (blocked d b v)
unfolding blocked block_by
block_led c d b w v p q h =
    subst (λ (two : Bool). Led (block_by (block_refusal c.setup.two b (length w)) c b w) (block_by (block_refusal two b (length v)) d b v)) (same_two c d h)
    (rw (p, q) (number_led (block_refusal c.setup.two b 8192) c d b w v p q h))

-- ---- the other calls

carriers_apart : (c d : Channel) (a : Carriers) → Apart c d → Apart (with_carriers c a) (with_carriers d a)
unfolding with_carriers blind hidden seen seen_by
carriers_apart c d a h =
    record {
      blinded = ap (λ (x : Channel). blind (with_carriers x a)) h.blinded;
      carriers = refl;
      first = record { ever = h.first.ever; pll = h.first.pll; t0 = h.first.t0; t1 = h.first.t1; t2 = h.first.t2 };
      second = record { ever = h.second.ever; pll = h.second.pll; t0 = h.second.t0; t1 = h.second.t1; t2 = h.second.t2 };
    }

pub assign_apart : (c d : Channel) (a : Carriers) → Apart c d → Apart (assigned c a).channel (assigned d a).channel
unfolding assigned
assign_apart c d a h =
    let k = eqb (assign_refusal a c.status) 0 in
    subst (λ (s : Status). Apart (cond k (with_carriers c a) c) (cond (eqb (assign_refusal a s) 0) (with_carriers d a) d)) (same_status c d h)
    (both Apart k (carriers_apart c d a h) h)

pub release_waiting : (c : Channel) → Waiting (released c)
unfolding released idle_channel resting_bank unlocked
release_waiting c = record { ever = refl; pll = refl; t0 = refl; t1 = refl; t2 = refl }

pub release_apart : (c d : Channel) → blind c ≡ blind d → Apart (released c) (released d)
unfolding released idle_channel resting_bank unlocked blind hidden seen seen_by
release_apart c d e =
    record {
      blinded = ap (λ (x : Channel). blind (released x)) e;
      carriers = refl;
      first = release_waiting c;
      second = release_waiting d;
    }
