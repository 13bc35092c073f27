-- A tracker over the samples of a block reads only the live part of its window: with other contents elsewhere it leaves the same tracker, and the
-- same live part again. Assumes nothing.
use mathlib.Core.Path.{refl}
use mathlib.Core.Bool.{Bool, true, false, cond}
use mathlib.Core.List.{List}
use lib.Ieee.{Float}
use Rattle.sequences.specs.Pairs.{pairs, zip}
use Rattle.sequences.proofs.FoldLaws.{fold_related}
use Rattle.tracker_power_ratio.proofs.LiveRing.{Live}
use Rattle.tracker.specs.declared.state.Tracked.{Tracked}
use Rattle.tracker.specs.Prediction.{predicted_over}
use Rattle.tracker.proofs.LiveWindow.{Together, updated_together, dual_together}
use Rattle.tracker_model.specs.Following.{TrackerWindow, Sample, predicted, corrected, corrected_dual, stepped, follow, follow_dual, over_lists}

-- a correction does the same with two windows that agree where they are live
abbrev SameOnLive : (TrackerWindow → TrackerWindow) → Type 0
SameOnLive f = (h : Tracked) (r q : List Float) → Live h.ekf.power.pushed r q → Together (f (h, r)) (f (h, q))

-- by whether the tracker is locked, and whether it fades
by_together : (locked fade : Bool) (dt : Float) (f : TrackerWindow → TrackerWindow) (h : Tracked) (r q : List Float) → SameOnLive f → Live h.ekf.power.pushed r q
    → Together (cond locked (f (predicted dt (h, r))) (cond fade (predicted h.ekf.tuning.ts (h, r)) (h, r)))
    (cond locked (f (predicted dt (h, q))) (cond fade (predicted h.ekf.tuning.ts (h, q)) (h, q)))
unfolding predicted_over
by_together true fade dt f h r q alike l = alike (predicted_over dt h.ekf h.p) r q l
by_together false true dt f h r q alike l = record { same = refl; live = l }
by_together false false dt f h r q alike l = record { same = refl; live = l }

-- a step that does so from one tracker does so from two that are the same
from_two : (f : TrackerWindow → TrackerWindow) → SameOnLive f → (a b : TrackerWindow) → Together a b → Together (f a) (f b)
from_two f alike a b h =
    let l : Live a.0.ekf.power.pushed a.1 b.1 = h.live in
    rw (← h.same) (alike a.0 a.1 b.1 l)

follow_together : (dt : Float) (fade : Bool) (a b : TrackerWindow) (s : Sample) → Together a b → Together (follow dt fade a s) (follow dt fade b s)
unfolding follow stepped
follow_together dt fade a b s h =
    from_two (λ (g : TrackerWindow). follow dt fade g s)
    (λ g r q l. by_together g.ekf.is_locked fade dt (corrected s) g r q (λ t v w m. updated_together t.ekf t.p v w s.0 s.1 m) l) a b h

follow_dual_together : (dt : Float) (fade : Bool) (a b : TrackerWindow) (s : Sample × Sample) → Together a b → Together (follow_dual dt fade a s) (follow_dual dt fade b s)
unfolding follow_dual stepped
follow_dual_together dt fade a b s h =
    from_two (λ (g : TrackerWindow). follow_dual dt fade g s)
    (λ g r q l. by_together g.ekf.is_locked fade dt (corrected_dual s) g r q (λ t v w m. dual_together t.ekf t.p v w s.0.0 s.0.1 s.1.0 s.1.1 m) l) a b h

pub over_together : (two : Bool) (dt : Float) (fade : Bool) (first second : List Float) (h : Tracked) (r q : List Float) → Live h.ekf.power.pushed r q
    → Together (over_lists two dt fade first second (h, r)) (over_lists two dt fade first second (h, q))
unfolding over_lists
over_together false dt fade first second h r q l =
    fold_related Together (follow dt fade) (follow dt fade) (λ a b s g. follow_together dt fade a b s g) (h, r) (h, q) (pairs first) (record { same = refl; live = l })
over_together true dt fade first second h r q l =
    fold_related Together (follow_dual dt fade) (follow_dual dt fade) (λ a b s g. follow_dual_together dt fade a b s g) (h, r) (h, q) (zip (pairs first) (pairs second))
    (record { same = refl; live = l })
