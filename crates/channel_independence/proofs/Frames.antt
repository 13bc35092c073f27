-- What the end of a block keeps: the setup, and of each tracker its settings and the count of pairs in its window. Assumes nothing.
use Prim.Native.Nat.{ℕ}
use mathlib.Core.Path.{◌≡◌, refl, ◌∙◌}
use mathlib.Core.Bool.{Bool, true, false, cond}
use lib.Dec.{ltb}
use lib.Ieee.{Float, lt}
use Rattle.ieee754.specs.Binary32 as float32
use Rattle.tracker.specs.declared.state.CarrierPllEkf.{CarrierPllEkf}
use Rattle.tracker.specs.declared.state.Tracked.{Tracked}
use Rattle.tracker.proofs.Frame.{frame}
use Rattle.bank_model.specs.declared.state.EkfTrackingBank.{EkfTrackingBank}
use Rattle.bank_model.specs.Values.{with_trackers, marked}
use Rattle.bank_model.specs.Discrepancy.{discrepancy}
use Rattle.bank_model.specs.Choice.{chosen}
use Rattle.bank_model.specs.Pruning.{dropped, drops1, drops2, pruned}
use Rattle.bank_model.specs.Fade.{one_more, in_use, faded, selected, finished}
use Rattle.channel_model.specs.declared.Setup.{Setup}
use Rattle.channel_model.specs.declared.Channel.{Channel}
use Rattle.channel_model.specs.Values.{moved, unlocked}
use Rattle.channel_model.specs.Tracking.{scale_of, single_shown, bank_shown, with_shown}
use Rattle.channel_model.specs.Blocks.{remembered}
use Rattle.channel_model.specs.Code.SignalStep.{shown_with}
use Rattle.channel_independence.proofs.Choices.{either}

-- the setup, the fade's steps, and the frames of the trackers
pub record Frames : Type 0 where
  pub setup : Setup
  pub steps : ℕ
  pub pll : CarrierPllEkf
  pub t0 : CarrierPllEkf
  pub t1 : CarrierPllEkf
  pub t2 : CarrierPllEkf

abbrev frames_by : Setup → Tracked → EkfTrackingBank → Frames
frames_by k h b =
    record {
      setup = k;
      steps = b.max_fade_steps;
      pll = frame h.ekf;
      t0 = frame b.t0.ekf;
      t1 = frame b.t1.ekf;
      t2 = frame b.t2.ekf;
    }

abbrev pub frames : Channel → Frames
frames c = frames_by c.setup c.pll c.bank

-- ---- the bank: pruning, choice and fade

dropped_frame : (x : Bool) (h : Tracked) → frame (cond x (dropped h) h).ekf ≡ frame h.ekf
dropped_frame x h = either (λ (g : Tracked). frame g.ekf ≡ frame h.ekf) x refl refl

-- a bank that is one of two, both with the frames f
either_frames : (s : Setup) (h : Tracked) (x : Bool) (a b : EkfTrackingBank) {f : Frames} → frames_by s h a ≡ f → frames_by s h b ≡ f → frames_by s h (cond x a b) ≡ f
either_frames s h true a b e g = e
either_frames s h false a b e g = g

pruned_frames : (k : Float) (s : Setup) (h : Tracked) (b : EkfTrackingBank) → frames_by s h (pruned k b) ≡ frames_by s h b
unfolding pruned
pruned_frames k s h b =
    let t = b.t0.ekf in
    let u = b.t1.ekf in
    let v = b.t2.ekf in
    either_frames s h (lt float32.hundred_fifty (discrepancy b))
    (with_trackers b b.t0 (cond (drops1 k t u v) (dropped b.t1) b.t1) (cond (drops2 k t u v) (dropped b.t2) b.t2) true) b
    (λ i. record {
      setup = s;
      steps = b.max_fade_steps;
      pll = frame h.ekf;
      t0 = frame t;
      t1 = dropped_frame (drops1 k t u v) b.t1 i;
      t2 = dropped_frame (drops2 k t u v) b.t2 i;
    })
    refl

faded_frames : (s : Setup) (h : Tracked) (b : EkfTrackingBank) → frames_by s h (faded b) ≡ frames_by s h b
unfolding faded
faded_frames s h b =
    let n = one_more b.fade_counter in
    let out = marked b 3 false n true in
    let on = marked b b.active_idx true n b.terminated_in_fade in
    let over = ltb b.max_fade_steps n in
    either_frames s h (in_use b) (cond over out on) b (either_frames s h over out on refl refl) refl

selected_frames : (s : Setup) (h : Tracked) (b : EkfTrackingBank) → frames_by s h (selected b) ≡ frames_by s h b
unfolding selected
selected_frames s h b = either_frames s h (ltb (chosen b) 3) (marked b (chosen b) false 0 b.terminated_in_fade) (faded b) refl (faded_frames s h b)

finished_frames : (k : Float) (s : Setup) (h : Tracked) (b : EkfTrackingBank) → frames_by s h (finished k b) ≡ frames_by s h b
unfolding finished
finished_frames k s h b = selected_frames s h (pruned k b) ∙ pruned_frames k s h b

-- ---- what is shown then

single_frames : (c : Channel) → frames (single_shown c) ≡ frames c
unfolding single_shown moved
single_frames c = refl

bank_frames : (b : EkfTrackingBank) (c : Channel) → frames (bank_shown b c) ≡ frames_by c.setup c.pll b
unfolding bank_shown moved unlocked
bank_frames b c =
    either (λ (d : Channel). frames d ≡ frames_by c.setup c.pll b) (in_use b)
    (either (λ (d : Channel). frames d ≡ frames_by c.setup c.pll b) b.in_fade refl refl) refl

shown_frames : (c : Channel) → frames (with_shown c) ≡ frames c
unfolding with_shown
shown_frames c =
    either (λ (d : Channel). frames d ≡ frames c) c.setup.bank
    (bank_frames (finished (scale_of c) c.bank) c ∙ finished_frames (scale_of c) c.setup c.pll c.bank) (single_frames c)

pub with_frames : (snr : Float) (c : Channel) → frames (shown_with snr c) ≡ frames c
unfolding shown_with remembered
with_frames snr c = shown_frames c
