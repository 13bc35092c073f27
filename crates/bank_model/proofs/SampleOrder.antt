-- A bank takes each sample through its three trackers before the next; the code has each tracker take all samples in its turn. Both give the same bank and
-- the same window memory, since a tracker reads and writes its own stretch alone, and neither the fade nor the tracker in use changes between. Assumes nothing.
use mathlib.Core.Path.{◌≡◌, refl, sym, ap, ◌∙◌}
use mathlib.Core.Bool.{Bool, true, false, cond}
use mathlib.Core.List.{List, [], ◌∷◌}
use native.Mathlib.Omega.{arith}
use lib.ListN.{length}
use lib.Ieee.{Float}
use Rattle.sequences.specs.Pairs.{pairs, zip}
use Rattle.sequences.specs.Folds.{fold}
use Rattle.sequences.specs.Stretches.{within}
use Rattle.sequences.proofs.FoldLaws.{fold_keeps}
use Rattle.tracker_model.specs.Following.{TrackerWindow, follow, follow_dual, over_lists}
use Rattle.bank_model.specs.declared.state.EkfTrackingBank.{EkfTrackingBank}
use Rattle.bank_model.specs.Values.{with_trackers}
use Rattle.bank_model.specs.Following.{Lists, BankWindows, fades, on_stretch, in_turn, through, bank_followed}
use Rattle.bank_model.specs.Code.TrackerByTracker.{tracker_by_tracker}
use Rattle.tracker_model.proofs.WindowLength.{follow_length, follow_dual_length}
use Rattle.bank_model.proofs.FourStretches.{part, put, laid, length_part, length_laid, part_1, part_2, part_3, ahead_2, ahead_3, laid_again, laid_same}

-- what does not change the length of a stretch
abbrev Keeps : (Bool → TrackerWindow → TrackerWindow) → Type 0
Keeps f = (fade : Bool) (h : TrackerWindow) → length (f fade h).1 ≡ length h.1

-- ---- one turn, read by stretches
module _ (f : Bool → TrackerWindow → TrackerWindow) (keeps : Keeps f) (b : EkfTrackingBank) (w : List Float) (lw : length w ≡ 8192) where
  abbrev h0 : TrackerWindow
  h0 = f (fades b 0) (b.t0, part 1 w)

  abbrev h1 : TrackerWindow
  h1 = f (fades b 1) (b.t1, part 2 w)

  abbrev h2 : TrackerWindow
  h2 = f (fades b 2) (b.t2, part 3 w)

  l0 : length h0.1 ≡ 2048
  l0 = keeps (fades b 0) (b.t0, part 1 w) ∙ length_part w lw 1 (omega arith)

  l1 : length h1.1 ≡ 2048
  l1 = keeps (fades b 1) (b.t1, part 2 w) ∙ length_part w lw 2 (omega arith)

  l2 : length h2.1 ≡ 2048
  l2 = keeps (fades b 2) (b.t2, part 3 w) ∙ length_part w lw 3 (omega arith)

  -- the bank from the stretches that trackers 1 and 2 read
  abbrev from : List Float → List Float → BankWindows
  from x y =
      let g1 = f (fades b 1) (b.t1, x) in
      let g2 = f (fades b 2) (b.t2, y) in
      (with_trackers b h0.0 g1.0 g2.0 b.terminated_in_fade, put 3 (put 2 (put 1 w h0.1) g1.1) g2.1)

  turned : in_turn f (b, w) ≡ (with_trackers b h0.0 h1.0 h2.0 b.terminated_in_fade, laid w h0.1 h1.1 h2.1)
  unfolding in_turn within
  turned =
      ap (λ (x : List Float). from x (part 3 (put 2 (put 1 w h0.1) (f (fades b 1) (b.t1, x)).1))) (ahead_2 w lw h0.1 h1.1 h2.1 l0 l1 l2)
      ∙ ap (λ (y : List Float). from (part 2 w) y) (ahead_3 w lw h0.1 h1.1 h2.1 l0 l1 l2)

  length_turned : length (in_turn f (b, w)).1 ≡ 8192
  length_turned = ap (λ (k : BankWindows). length k.1) turned ∙ length_laid w lw h0.1 h1.1 h2.1 l0 l1 l2

-- ---- no turn, and two
idle : (b : EkfTrackingBank) (w : List Float) → length w ≡ 8192 → in_turn (λ (fade : Bool) (h : TrackerWindow). h) (b, w) ≡ (b, w)
idle b w lw = turned (λ (fade : Bool) (h : TrackerWindow). h) (λ fade h. refl) b w lw ∙ ap (λ (z : List Float). (b, z)) (laid_same w lw)

module _ (f g : Bool → TrackerWindow → TrackerWindow) (kf : Keeps f) (kg : Keeps g) (b : EkfTrackingBank) (w : List Float) (lw : length w ≡ 8192) where
  abbrev f0 : TrackerWindow
  f0 = h0 f kf b w lw

  abbrev f1 : TrackerWindow
  f1 = h1 f kf b w lw

  abbrev f2 : TrackerWindow
  f2 = h2 f kf b w lw

  m0 : length f0.1 ≡ 2048
  m0 = l0 f kf b w lw

  m1 : length f1.1 ≡ 2048
  m1 = l1 f kf b w lw

  m2 : length f2.1 ≡ 2048
  m2 = l2 f kf b w lw

  abbrev v : List Float
  v = laid w f0.1 f1.1 f2.1

  lv : length v ≡ 8192
  lv = length_laid w lw f0.1 f1.1 f2.1 m0 m1 m2

  abbrev c : EkfTrackingBank
  c = with_trackers b f0.0 f1.0 f2.0 b.terminated_in_fade

  abbrev both : Bool → TrackerWindow → TrackerWindow
  both fade h = g fade (f fade h)

  -- the second turn from the stretches that it reads and the memory that it writes to
  abbrev from_parts : List Float → List Float → List Float → List Float → BankWindows
  from_parts z p q r =
      let g0 = g (fades b 0) (f0.0, p) in
      let g1 = g (fades b 1) (f1.0, q) in
      let g2 = g (fades b 2) (f2.0, r) in
      (with_trackers b g0.0 g1.0 g2.0 b.terminated_in_fade, laid z g0.1 g1.1 g2.1)

  second_turn : in_turn g (c, v) ≡ from_parts v (part 1 v) (part 2 v) (part 3 v)
  unfolding fades
  second_turn = turned g kg c v lv

  two_turns : in_turn g (in_turn f (b, w)) ≡ in_turn both (b, w)
  two_turns =
      ap (in_turn g) (turned f kf b w lw)
      ∙ second_turn
      ∙ ap (λ (p : List Float). from_parts v p (part 2 v) (part 3 v)) (part_1 w lw f0.1 f1.1 f2.1 m0 m1 m2)
      ∙ ap (λ (q : List Float). from_parts v f0.1 q (part 3 v)) (part_2 w lw f0.1 f1.1 f2.1 m0 m1 m2)
      ∙ ap (λ (r : List Float). from_parts v f0.1 f1.1 r) (part_3 w lw f0.1 f1.1 f2.1 m0 m1 m2)
      ∙ ap (λ (z : List Float). (with_trackers b (g (fades b 0) f0).0 (g (fades b 1) f1).0 (g (fades b 2) f2).0 b.terminated_in_fade, z))
      (laid_again w lw f0.1 f1.1 f2.1 m0 m1 m2
      (g (fades b 0) f0).1 (g (fades b 1) f1).1 (g (fades b 2) f2).1
      (kg (fades b 0) f0 ∙ m0) (kg (fades b 1) f1 ∙ m1) (kg (fades b 2) f2 ∙ m2))
      ∙ sym (turned both (λ fade h. kg fade (f fade h) ∙ kf fade h) b w lw)

-- ---- all samples
module _ {S : Type 0} (act : Bool → TrackerWindow → S → TrackerWindow) (keeps : (fade : Bool) (h : TrackerWindow) (s : S) → length (act fade h s).1 ≡ length h.1) where
  fold_length : (ss : List S) → Keeps (λ (fade : Bool) (h : TrackerWindow). fold (act fade) h ss)
  fold_length ss fade h =
      fold_keeps (λ (g : TrackerWindow). length g.1 ≡ length h.1) (act fade) (λ g s e. keeps fade g s ∙ e) h ss refl

  in_both_orders : (ss : List S) (b : EkfTrackingBank) (w : List Float) → length w ≡ 8192
      → fold (λ (k : BankWindows) (s : S). in_turn (λ (fade : Bool) (h : TrackerWindow). act fade h s) k) (b, w) ss
      ≡ in_turn (λ (fade : Bool) (h : TrackerWindow). fold (act fade) h ss) (b, w)
  unfolding fold in_turn fades
  in_both_orders [] b w lw = sym (idle b w lw)
  in_both_orders (s ∷ ss) b w lw =
      let f : Bool → TrackerWindow → TrackerWindow = λ fade h. act fade h s in
      let k : BankWindows = in_turn f (b, w) in
      in_both_orders ss k.0 k.1 (length_turned f (λ fade h. keeps fade h s) b w lw)
      ∙ two_turns f (λ fade h. fold (act fade) h ss) (λ fade h. keeps fade h s) (fold_length ss) b w lw

by_lists : (two : Bool) (dt : Float) (first second : List Float) (b : EkfTrackingBank) (w : List Float) → length w ≡ 8192
    → cond two (fold (through (follow_dual dt)) (b, w) (zip (pairs first) (pairs second))) (fold (through (follow dt)) (b, w) (pairs first))
    ≡ in_turn (λ (fade : Bool) (h : TrackerWindow). over_lists two dt fade first second h) (b, w)
unfolding over_lists
by_lists false dt first second b w lw = in_both_orders (follow dt) (follow_length dt) (pairs first) b w lw
by_lists true dt first second b w lw = in_both_orders (follow_dual dt) (follow_dual_length dt) (zip (pairs first) (pairs second)) b w lw

-- for one list and for two
pub orders_agree : (dt : Float) (l : Lists) (b : EkfTrackingBank) (w : List Float) → length w ≡ 8192 → bank_followed dt l (b, w) ≡ tracker_by_tracker dt l (b, w)
unfolding bank_followed tracker_by_tracker on_stretch in_turn
orders_agree dt l b w lw = by_lists l.two dt l.first l.second b w lw
