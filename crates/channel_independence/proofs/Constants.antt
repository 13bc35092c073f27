-- What no call changes: the setup, the fade's steps, the trackers' settings and, with one frequency, the electron content 0. Assumes nothing.
use Prim.Native.Nat.{ℕ, zero, suc, ◌*◌}
use mathlib.Core.Path.{◌≡◌, refl, sym, ◌∙◌, ap}
use mathlib.Core.Bool.{Bool, true, false}
use mathlib.Core.List.{List}
use lib.Dec.{eqb}
use lib.ListN.{length}
use lib.Ieee.{Float}
use Rattle.sequences.specs.Pairs.{pairs, zip}
use Rattle.sequences.specs.Folds.{fold}
use Rattle.sequences.specs.Stretches.{stretch, within}
use Rattle.sequences.proofs.FoldLaws.{fold_keeps}
use Rattle.ieee754.specs.Binary64 as float
use Rattle.tracker.specs.declared.state.CarrierPllEkf.{CarrierPllEkf}
use Rattle.tracker.specs.declared.state.Tracked.{Tracked}
use Rattle.tracker.specs.State.{reset_to}
use Rattle.tracker.proofs.Settings.{settings, Keeps}
use Rattle.tracker_model.specs.Following.{TrackerWindow, follow, follow_dual}
use Rattle.tracker_model.proofs.Settings.{follow_keeps, follow_dual_keeps, over_keeps}
use Rattle.bank_model.specs.declared.state.EkfTrackingBank.{EkfTrackingBank}
use Rattle.bank_model.specs.Fade.{in_use, finished}
use Rattle.bank_model.specs.Following.{Lists, BankWindows, on_stretch, fades, in_turn, through, bank_followed}
use Rattle.channel_model.specs.declared.Setup.{Setup}
use Rattle.channel_model.specs.declared.Carriers.{Carriers}
use Rattle.channel_model.specs.declared.Channel.{Channel}
use Rattle.channel_model.specs.declared.Reading.{Reading}
use Rattle.channel_model.specs.Values.{moved, with_all, with_snr, with_electrons, unlocked, on_each}
use Rattle.channel_model.specs.Opening.{resting_bank, idle_channel}
use Rattle.channel_model.specs.Assigning.{idle, assign_refusal, with_carriers, assigned}
use Rattle.channel_model.specs.Releasing.{released}
use Rattle.channel_model.specs.Readout.{electrons_of, read_from}
use Rattle.channel_model.specs.Refusals.{BlockArgs, block_refusal}
use Rattle.channel_model.specs.Starting.{starts, start_frequency, restarted, started_unlocked, started_at, started}
use Rattle.channel_model.specs.Tracking.{interval, followed_by, scale_of, single_shown, bank_shown, with_shown}
use Rattle.channel_model.specs.Blocks.{Outcome, untouched, not_locked, remembered, bank_without_signal, without_signal, by_flag, block_step, blocked}
use Rattle.channel_model.specs.Code.SignalStep.{shown_with, tracked_over}
use Rattle.channel_model.specs.Calls.{assign, release, figures, block, Call, ask, lend, called}
use Rattle.channel_model.proofs.SignalParts.{two_parts}
use Rattle.channel_independence.proofs.Choices.{either}
use Rattle.channel_independence.proofs.Frames.{Frames, with_frames}

pub record Constants : Type 0 where
  pub setup : Setup
  pub steps : ℕ
  pub electrons : Float
  pub pll : CarrierPllEkf
  pub t0 : CarrierPllEkf
  pub t1 : CarrierPllEkf
  pub t2 : CarrierPllEkf

abbrev pub constants : Channel → Constants
constants c =
    record {
      setup = c.setup;
      steps = c.bank.max_fade_steps;
      electrons = c.reading.electrons;
      pll = settings c.pll.ekf;
      t0 = settings c.bank.t0.ekf;
      t1 = settings c.bank.t1.ekf;
      t2 = settings c.bank.t2.ekf;
    }

-- one frequency, and no electron content
pub record Single (c : Channel) : Type 0 where
  pub one : c.setup.two ≡ false
  pub none : c.reading.electrons ≡ float.zero

pub single_kept : (c d : Channel) → constants c ≡ constants d → Single d → Single c
single_kept c d e h = record { one = ap (λ (k : Constants). k.setup.two) e ∙ h.one; none = ap (λ (k : Constants). k.electrons) e ∙ h.none }

-- ---- the electron content with one frequency

electrons_one : (two : Bool) (a : Carriers) (t : CarrierPllEkf) (old : Float) → two ≡ false → electrons_of two a t old ≡ float.zero
unfolding electrons_of
electrons_one two a t old e = rw e

NoElectrons : Channel → Type 0
NoElectrons c = c.reading.electrons ≡ float.zero

single_electrons : (c : Channel) → c.setup.two ≡ false → NoElectrons (single_shown c)
unfolding single_shown moved read_from NoElectrons
single_electrons c e = either (λ (r : Reading). r.electrons ≡ float.zero) c.pll.ekf.is_locked (electrons_one _ _ _ _ e) refl

bank_electrons : (b : EkfTrackingBank) (c : Channel) → c.setup.two ≡ false → NoElectrons (bank_shown b c)
unfolding bank_shown moved read_from with_electrons NoElectrons
bank_electrons b c e =
    either NoElectrons (in_use b) (either NoElectrons b.in_fade (electrons_one _ _ _ _ e) (electrons_one _ _ _ _ e)) refl

shown_electrons : (c : Channel) → c.setup.two ≡ false → NoElectrons (with_shown c)
unfolding with_shown
shown_electrons c e = either NoElectrons c.setup.bank (bank_electrons (finished (scale_of c) c.bank) c e) (single_electrons c e)

with_electrons_lem : (snr : Float) (c : Channel) → c.setup.two ≡ false → (shown_with snr c).reading.electrons ≡ float.zero
unfolding shown_with remembered with_snr NoElectrons
with_electrons_lem snr c e = shown_electrons c e

-- ---- a signal block

stretch_settings : (i : ℕ) (dt : Float) (fade : Bool) (l : Lists) (h : Tracked) (w : List Float) → settings (on_stretch i dt fade l (h, w)).0.ekf ≡ settings h.ekf
unfolding on_stretch within
stretch_settings i dt fade l h w = (over_keeps l.two dt fade l.first l.second (h, stretch (2048 * i) 2048 w)).same

-- the bank c has the fade's steps of the bank b, and its trackers the settings of those of b
record BankKeeps (b c : EkfTrackingBank) : Type 0 where
  steps : c.max_fade_steps ≡ b.max_fade_steps
  t0 : Keeps b.t0.ekf c.t0.ekf
  t1 : Keeps b.t1.ekf c.t1.ekf
  t2 : Keeps b.t2.ekf c.t2.ekf

itself : (b : EkfTrackingBank) → BankKeeps b b
itself b = record { steps = refl; t0 = record { same = refl }; t1 = record { same = refl }; t2 = record { same = refl } }

-- one turn of the bank's trackers
turn_keeps : (f : Bool → TrackerWindow → TrackerWindow) → ((fade : Bool) (t : CarrierPllEkf) (h : TrackerWindow) → Keeps t h.0.ekf → Keeps t (f fade h).0.ekf)
    → (b : EkfTrackingBank) (k : BankWindows) → BankKeeps b k.0 → BankKeeps b (in_turn f k).0
unfolding in_turn within
turn_keeps f keeps b k e =
    record {
      steps = e.steps;
      t0 = keeps (fades k.0 0) b.t0.ekf _ e.t0;
      t1 = keeps (fades k.0 1) b.t1.ekf _ e.t1;
      t2 = keeps (fades k.0 2) b.t2.ekf _ e.t2;
    }

-- over the samples
samples_keep : {S : Type 0} (f : Bool → TrackerWindow → S → TrackerWindow)
    → ((fade : Bool) (t : CarrierPllEkf) (h : TrackerWindow) (s : S) → Keeps t h.0.ekf → Keeps t (f fade h s).0.ekf)
    → (b : EkfTrackingBank) (w : List Float) (ss : List S) → BankKeeps b (fold (through f) (b, w) ss).0
samples_keep f keeps b w ss =
    fold_keeps (λ (k : BankWindows). BankKeeps b k.0) (through f)
    (λ k s. turn_keeps (λ (fade : Bool) (h : TrackerWindow). f fade h s) (λ fade t h. keeps fade t h s) b k) (b, w) ss (itself b)

bank_keeps : (dt : Float) (l : Lists) (b : EkfTrackingBank) (w : List Float) → BankKeeps b (bank_followed dt l (b, w)).0
unfolding bank_followed
bank_keeps dt l b w =
    either (λ (k : BankWindows). BankKeeps b k.0) l.two
    (samples_keep (follow_dual dt) (follow_dual_keeps dt) b w (zip (pairs l.first) (pairs l.second)))
    (samples_keep (follow dt) (follow_keeps dt) b w (pairs l.first))

followed_constants : (x : Bool) (c : Channel) (l : Lists) (w : List Float) → constants (followed_by x c l w).0 ≡ constants c
unfolding followed_by with_all moved
followed_constants true c l w =
    let e = bank_keeps (interval c.setup) l c.bank w in
    λ i. record {
      setup = c.setup;
      steps = e.steps i;
      electrons = c.reading.electrons;
      pll = settings c.pll.ekf;
      t0 = e.t0.same i;
      t1 = e.t1.same i;
      t2 = e.t2.same i;
    }
followed_constants false c l w =
    λ i. record {
      setup = c.setup;
      steps = c.bank.max_fade_steps;
      electrons = c.reading.electrons;
      pll = stretch_settings 0 (interval c.setup) false l c.pll w i;
      t0 = settings c.bank.t0.ekf;
      t1 = settings c.bank.t1.ekf;
      t2 = settings c.bank.t2.ekf;
    }

-- at its end: a frame holds all but the electron content
framed : Frames → Float → Constants
framed f e =
    record {
      setup = f.setup;
      steps = f.steps;
      electrons = e;
      pll = settings f.pll;
      t0 = settings f.t0;
      t1 = settings f.t1;
      t2 = settings f.t2;
    }

with_constants : (snr : Float) (c : Channel) → Single c → constants (shown_with snr c) ≡ constants c
unfolding framed
with_constants snr c h = λ i. framed (with_frames snr c i) ((with_electrons_lem snr c h.one ∙ sym h.none) i)

-- at its start
unlocked_settings : (hz : Float) (h : Tracked) → settings (started_unlocked hz h).ekf ≡ settings h.ekf
unfolding started_unlocked restarted reset_to
unlocked_settings hz h = either (λ (t : Tracked). settings t.ekf ≡ settings h.ekf) h.ekf.is_locked refl refl

start_constants : (hz : Float) (c : Channel) → constants (started_at hz c) ≡ constants c
unfolding started_at with_all moved on_each restarted reset_to
start_constants hz c =
    λ i. record {
      setup = c.setup;
      steps = c.bank.max_fade_steps;
      electrons = c.reading.electrons;
      pll = settings c.pll.ekf;
      t0 = unlocked_settings hz c.bank.t0 i;
      t1 = unlocked_settings hz c.bank.t1 i;
      t2 = unlocked_settings hz c.bank.t2 i;
    }

started_constants : (c : Channel) (l : List Float) → constants (started c l) ≡ constants c
unfolding started
started_constants c l =
    either (λ (d : Channel). constants d ≡ constants c) (starts c) (start_constants (start_frequency c.pll.ekf.modulation c.setup l) c) refl

tracked_constants : (snr : Float) (c : Channel) (l m w : List Float) → Single c → constants (tracked_over snr c l m w).channel ≡ constants c
unfolding tracked_over
tracked_constants snr c l m w h =
    let lists : Lists = record { two = c.setup.two; first = l; second = m } in
    let d = (followed_by c.setup.bank c lists w).0 in
    let e : constants d ≡ constants c = followed_constants c.setup.bank c lists w in
    with_constants snr d (single_kept d c e h) ∙ e

-- ---- the calls

flag_constants : (k : ℕ) (c : Channel) (b : BlockArgs) (w : List Float) → Single c → constants (by_flag k c b w).channel ≡ constants c
unfolding by_flag untouched without_signal not_locked remembered with_snr moved bank_without_signal on_each unlocked
flag_constants zero c b w h = refl
flag_constants (suc zero) c b w h =
    let e = started_constants c b.first in
    ap (λ (o : Outcome Channel). constants o.channel) (two_parts c b w) ∙ tracked_constants _ (started c b.first) _ _ w (single_kept _ c e h) ∙ e
flag_constants (suc (suc zero)) c b w h = refl
flag_constants (suc (suc (suc zero))) c b w h = refl
flag_constants (suc (suc (suc (suc k)))) c b w h = refl

step_constants : (c : Channel) (b : BlockArgs) (w : List Float) → Single c → constants (block_step c b w).channel ≡ constants c
unfolding block_step untouched not_locked moved with_snr
step_constants c b w h = either (λ (o : Outcome Channel). constants o.channel ≡ constants c) (idle c.status) refl (flag_constants b.flag c b w h)

block_constants : (c : Channel) (b : BlockArgs) (w : List Float) → Single c → constants (blocked c b w).channel ≡ constants c
unfolding blocked
block_constants c b w h =
    either (λ (o : Outcome Channel). constants o.channel ≡ constants c) (eqb (block_refusal c.setup.two b (length w)) 0) (step_constants c b w h) refl

assign_constants : (c : Channel) (a : Carriers) → constants (assigned c a).channel ≡ constants c
unfolding assigned with_carriers
assign_constants c a = either (λ (d : Channel). constants d ≡ constants c) (eqb (assign_refusal a c.status) 0) refl refl

pub call_constants : (c : Channel) (d : Call) → Single c → constants (called c d).channel ≡ constants c
unfolding called released idle_channel resting_bank unlocked
call_constants c (ask (assign a)) h = assign_constants c a
call_constants c (ask release) h = refl
call_constants c (ask figures) h = refl
call_constants c (lend (block b) w) h = block_constants c b w h
