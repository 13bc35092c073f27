-- Two window memories that agree where a channel's trackers may read: the samples of a block lead to the same channel, and leave the memories so.
-- Assumes nothing.
use Prim.Native.Nat.{ℕ, ◌+◌, ◌*◌, ◌<◌, ◌≤◌}
use native.Mathlib.Omega.{arith}
use mathlib.Core.Path.{◌≡◌, sym, ◌∙◌, subst₂}
use mathlib.Core.Logic.{◌⊎◌, inl, inr}
use mathlib.Core.Bool.{Bool, true, false}
use mathlib.Core.List.{List}
use lib.ListN.{length}
use lib.Ieee.{Float, nan}
use Rattle.sequences.specs.Stretches.{stretch, replaced, within}
use Rattle.sequences.proofs.StretchLaws.{length-replaced, stretch-replaced, stretch-apart}
use Rattle.tracker_power_ratio.proofs.LiveRing.{Live}
use Rattle.tracker.specs.declared.state.Tracked.{Tracked}
use Rattle.tracker.proofs.LiveWindow.{Together}
use Rattle.tracker_model.specs.Following as tracking
use Rattle.tracker_model.specs.Following.{over_lists}
use Rattle.tracker_model.proofs.LiveWindow.{over_together}
use Rattle.bank_model.specs.Values.{with_trackers}
use Rattle.bank_model.specs.Following.{Lists, BankWindows, on_stretch, fades}
use Rattle.bank_model.specs.Code.TrackerByTracker.{tracker_by_tracker}
use Rattle.bank_model.proofs.SampleOrder.{orders_agree}
use Rattle.channel_model.specs.declared.Channel.{Channel}
use Rattle.channel_model.specs.Values.{moved, with_all}
use Rattle.channel_model.specs.Tracking.{interval, followed_by}

-- ---- one stretch

-- the stretches i of two memories agree where a tracker with the count n may read
abbrev pub LiveAt : ℕ → ℕ → List Float → List Float → Type 0
LiveAt i n w v = Live n (stretch (2048 * i) 2048 w) (stretch (2048 * i) 2048 v)

-- after a tracker's turn on stretch i of the memories w and v: the same tracker, and agreement where it may read and where the others may
record Turned (i : ℕ) (w v : List Float) (a b : tracking.TrackerWindow) : Type 0 where
  same : a.0 ≡ b.0
  size₁ : length a.1 ≡ 8192
  size₂ : length b.1 ≡ 8192
  here : LiveAt i a.0.ekf.power.pushed a.1 b.1
  others : (j n : ℕ) → j < 4 → (j < i) ⊎ (i < j) → LiveAt j n w v → LiveAt j n a.1 b.1

module _ (i : ℕ) (i<4 : i < 4) where
  fits : (w : List Float) → length w ≡ 8192 → 2048 * i + 2048 ≤ length w
  fits w e = omega arith

  other : (w p : List Float) (j : ℕ) → length w ≡ 8192 → length p ≡ 2048 → j < 4 → (j < i) ⊎ (i < j)
      → stretch (2048 * j) 2048 (replaced (2048 * i) 2048 w p) ≡ stretch (2048 * j) 2048 w
  other w p j e l h (inl x) = stretch-apart w (2048 * i) 2048 p nan (fits w e) l (2048 * j) 2048 (omega arith) (inl (omega arith))
  other w p j e l h (inr x) = stretch-apart w (2048 * i) 2048 p nan (fits w e) l (2048 * j) 2048 (omega arith) (inr (omega arith))

  turned : (dt : Float) (fade : Bool) (l : Lists) (h : Tracked) (w v : List Float) → length w ≡ 8192 → length v ≡ 8192 → LiveAt i h.ekf.power.pushed w v
      → Turned i w v (on_stretch i dt fade l (h, w)) (on_stretch i dt fade l (h, v))
  unfolding on_stretch within
  turned dt fade l h w v e f live =
      let a = 2048 * i in
      let r = over_lists l.two dt fade l.first l.second (h, stretch a 2048 w) in
      let q = over_lists l.two dt fade l.first l.second (h, stretch a 2048 v) in
      let t : Together r q = over_together l.two dt fade l.first l.second h (stretch a 2048 w) (stretch a 2048 v) live in
      let m = t.live in
      record {
        same = t.same;
        size₁ = length-replaced w a 2048 r.1 nan (fits w e) m.size₁ ∙ e;
        size₂ = length-replaced v a 2048 q.1 nan (fits v f) m.size₂ ∙ f;
        here = rw (stretch-replaced w a 2048 r.1 nan (fits w e) m.size₁, stretch-replaced v a 2048 q.1 nan (fits v f) m.size₂) m;
        others = λ j n b x k. rw (other w r.1 j e m.size₁ b x, other v q.1 j f m.size₂ b x) k;
      }

-- ---- all four

-- the memories agree wherever a tracker of the channel may read
pub record Windows (c : Channel) (w v : List Float) : Type 0 where
  pub size₁ : length w ≡ 8192
  pub size₂ : length v ≡ 8192
  pub pll : LiveAt 0 c.pll.ekf.power.pushed w v
  pub t0 : LiveAt 1 c.bank.t0.ekf.power.pushed w v
  pub t1 : LiveAt 2 c.bank.t1.ekf.power.pushed w v
  pub t2 : LiveAt 3 c.bank.t2.ekf.power.pushed w v

-- a channel with its window memory
abbrev pub ChannelWindows : Type 0
ChannelWindows = Channel × List Float

-- two channels with their memories: the channels are the same, and the memories agree where they may be read
pub record Alike (a b : ChannelWindows) : Type 0 where
  pub same : a.0 ≡ b.0
  pub live : Windows a.0 a.1 b.1

-- a channel with this bank and window memory
abbrev with_bank : Channel → BankWindows → ChannelWindows
with_bank c k = (with_all c c.pll k.0, k.1)

-- the bank's trackers one after the other, each over all samples
by_trackers : (c : Channel) (l : Lists) (w v : List Float) → Windows c w v
    → Alike (with_bank c (tracker_by_tracker (interval c.setup) l (c.bank, w))) (with_bank c (tracker_by_tracker (interval c.setup) l (c.bank, v)))
unfolding tracker_by_tracker with_all moved
by_trackers c l w v h =
    let b = c.bank in
    let dt = interval c.setup in
    let w1 = (on_stretch 1 dt (fades b 0) l (b.t0, w)).1 in
    let v1 = (on_stretch 1 dt (fades b 0) l (b.t0, v)).1 in
    let w2 = (on_stretch 2 dt (fades b 1) l (b.t1, w1)).1 in
    let v2 = (on_stretch 2 dt (fades b 1) l (b.t1, v1)).1 in
    let a0 = turned 1 (omega arith) dt (fades b 0) l b.t0 w v h.size₁ h.size₂ h.t0 in
    let a1 = turned 2 (omega arith) dt (fades b 1) l b.t1 w1 v1 a0.size₁ a0.size₂ (a0.others 2 _ (omega arith) (inr (omega arith)) h.t1) in
    let a2 = turned 3 (omega arith) dt (fades b 2) l b.t2 w2 v2 a1.size₁ a1.size₂
    (a1.others 3 _ (omega arith) (inr (omega arith)) (a0.others 3 _ (omega arith) (inr (omega arith)) h.t2)) in
    record {
      same = λ i. with_all c c.pll (with_trackers b (a0.same i) (a1.same i) (a2.same i) b.terminated_in_fade);
      live =
          record {
            size₁ = a2.size₁;
            size₂ = a2.size₂;
            pll =
                a2.others 0 _ (omega arith) (inl (omega arith))
                (a1.others 0 _ (omega arith) (inl (omega arith)) (a0.others 0 _ (omega arith) (inl (omega arith)) h.pll));
            t0 = a2.others 1 _ (omega arith) (inl (omega arith)) (a1.others 1 _ (omega arith) (inl (omega arith)) a0.here);
            t1 = a2.others 2 _ (omega arith) (inl (omega arith)) a1.here;
            t2 = a2.here;
          };
    }

pub followed_alike : (x : Bool) (c : Channel) (l : Lists) (w v : List Float) → Windows c w v → Alike (followed_by x c l w) (followed_by x c l v)
unfolding followed_by with_all moved
followed_alike true c l w v h =
    let dt = interval c.setup in
    subst₂ (λ (j k : BankWindows). Alike (with_bank c j) (with_bank c k)) (sym (orders_agree dt l c.bank w h.size₁)) (sym (orders_agree dt l c.bank v h.size₂))
    (by_trackers c l w v h)
followed_alike false c l w v h =
    let a = turned 0 (omega arith) (interval c.setup) false l c.pll w v h.size₁ h.size₂ h.pll in
    record {
      same = λ i. with_all c (a.same i) c.bank;
      live =
          record {
            size₁ = a.size₁;
            size₂ = a.size₂;
            pll = a.here;
            t0 = a.others 1 _ (omega arith) (inr (omega arith)) h.t0;
            t1 = a.others 2 _ (omega arith) (inr (omega arith)) h.t1;
            t2 = a.others 3 _ (omega arith) (inr (omega arith)) h.t2;
          };
    }
