-- A bank from its three trackers over the samples. Assumes nothing.
use Prim.Native.Nat.{ℕ, ◌*◌}
use mathlib.Core.Path.{◌≡◌, sym, ap, ◌∙◌}
use mathlib.Core.Bool.{Bool, false, ◌&&◌}
use mathlib.Core.List.{List}
use lib.Dec.{eqb}
use lib.ListN.{length}
use lib.Ieee.{Float}
use Rattle.sequences.specs.Stretches.{within}
use Rattle.tracker.specs.declared.state.Tracked.{Tracked}
use Rattle.tracker_model.specs.Following.{TrackerWindow, over_lists}
use Rattle.bank_equal_trackers.specs.Code.Alike.{thrice}
use Rattle.bank_model.specs.declared.state.EkfTrackingBank.{EkfTrackingBank}
use Rattle.bank_model.specs.Values.{with_trackers}
use Rattle.bank_model.specs.Following.{Lists, BankWindows, on_stretch, fades, bank_followed}
use Rattle.bank_model.specs.Code.TrackerByTracker.{tracker_by_tracker}
use Rattle.bank_model.proofs.SampleOrder.{orders_agree}
use Rattle.bank_over_block.specs.Code.AsOne.{AsOne}

no_fade : (b : EkfTrackingBank) (i : ℕ) → b.in_fade ≡ false → false ≡ fades b i
unfolding fades
no_fade b i h = ap (λ (z : Bool). z && eqb b.active_idx i) (sym h)

module _ (dt : Float) (l : Lists) where
  abbrev over : ℕ → Bool → TrackerWindow → TrackerWindow
  over i fade h = within (2048 * i) 2048 (over_lists l.two dt fade l.first l.second) h

  on_stretch_lem : (i : ℕ) (h : TrackerWindow) {fade fade' : Bool} {r : TrackerWindow} → fade ≡ fade' → r ≡ over i fade h → r ≡ on_stretch i dt fade' l h
  unfolding on_stretch
  on_stretch_lem i h e k = k ∙ ap (λ (f : Bool). over i f h) e

  pub followed_is : (b : EkfTrackingBank) (w : List Float) {f0 f1 f2 : Bool} {t0 t1 t2 : Tracked} {w0 w1 w2 : List Float}
      → f0 ≡ fades b 0 → f1 ≡ fades b 1 → f2 ≡ fades b 2
      → (t0, w0) ≡ over 1 f0 (b.t0, w) → (t1, w1) ≡ over 2 f1 (b.t1, w0) → (t2, w2) ≡ over 3 f2 (b.t2, w1)
      → (with_trackers b t0 t1 t2 b.terminated_in_fade, w2) ≡ tracker_by_tracker dt l (b, w)
  unfolding tracker_by_tracker
  followed_is b w {t0 = t0} {t1 = t1} {t2 = t2} {w0 = w0} {w1 = w1} {w2 = w2} e0 e1 e2 k0 k1 k2 =
      let s1 = on_stretch 1 dt (fades b 0) l (b.t0, w) in
      let s2 = on_stretch 2 dt (fades b 1) l (b.t1, s1.1) in
      let g0 : (t0, w0) ≡ s1 = on_stretch_lem 1 (b.t0, w) e0 k0 in
      let g1 : (t1, w1) ≡ s2 = on_stretch_lem 2 (b.t1, w0) e1 k1 ∙ ap (λ (h : TrackerWindow). on_stretch 2 dt (fades b 1) l (b.t1, h.1)) g0 in
      let g2 : (t2, w2) ≡ on_stretch 3 dt (fades b 2) l (b.t2, s2.1) =
      on_stretch_lem 3 (b.t2, w1) e2 k2 ∙ ap (λ (h : TrackerWindow). on_stretch 3 dt (fades b 2) l (b.t2, h.1)) g1 in
      ap (λ (h : TrackerWindow). (with_trackers b h.0 t1 t2 b.terminated_in_fade, w2)) g0
      ∙ ap (λ (h : TrackerWindow). (with_trackers b s1.0 h.0 t2 b.terminated_in_fade, w2)) g1
      ∙ ap (λ (h : TrackerWindow). (with_trackers b s1.0 s2.0 h.0 b.terminated_in_fade, h.1)) g2

  -- the same where one run stands for the three
  pub followed_once : (b : EkfTrackingBank) (w : List Float) {r : Tracked} {v : List Float} → AsOne b w
      → (r, r, r, v) ≡ thrice (over_lists l.two dt false l.first l.second) (b.t0, w) → (with_trackers b r r r b.terminated_in_fade, v) ≡ tracker_by_tracker dt l (b, w)
  unfolding thrice
  followed_once b w {r} {v} a e =
      let h0 = over 1 false (b.t0, w) in
      let h1 = over 2 false (b.t0, h0.1) in
      let h2 = over 3 false (b.t0, h1.1) in
      let k0 : (r, h0.1) ≡ h0 = ap (λ (z : Tracked × Tracked × Tracked × List Float). (z.0, h0.1)) e in
      let k1 : (r, h1.1) ≡ over 2 false (b.t1, h0.1) =
      ap (λ (z : Tracked × Tracked × Tracked × List Float). (z.1, h1.1)) e ∙ ap (λ (t : Tracked). over 2 false (t, h0.1)) (sym a.alike.first) in
      let k2 : (r, v) ≡ over 3 false (b.t2, h1.1) =
      ap (λ (z : Tracked × Tracked × Tracked × List Float). (z.2, z.3)) e ∙ ap (λ (t : Tracked). over 3 false (t, h1.1)) (sym a.alike.second) in
      followed_is b w (no_fade b 0 a.calm) (no_fade b 1 a.calm) (no_fade b 2 a.calm) k0 k1 k2

  -- tracker by tracker gives what sample by sample gives
  pub each_agrees : (b : EkfTrackingBank) (w : List Float) {r : BankWindows} → length w ≡ 8192 → r ≡ tracker_by_tracker dt l (b, w) → r ≡ bank_followed dt l (b, w)
  each_agrees b w e h = h ∙ sym (orders_agree dt l b w e)
