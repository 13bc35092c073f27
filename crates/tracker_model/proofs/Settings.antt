-- A tracker keeps its settings over the samples of a block. Assumes nothing.
use mathlib.Core.Path.{refl, ◌∙◌}
use mathlib.Core.Bool.{Bool, true, false, cond}
use mathlib.Core.List.{List}
use lib.Ieee.{Float}
use Rattle.sequences.specs.Pairs.{pairs, zip}
use Rattle.sequences.proofs.FoldLaws.{fold_keeps}
use Rattle.tracker.specs.declared.state.CarrierPllEkf.{CarrierPllEkf}
use Rattle.tracker.proofs.Settings.{Keeps, updated_keeps, dual_keeps, predicted_keeps}
use Rattle.tracker_model.specs.Following.{TrackerWindow, Sample, predicted, corrected, corrected_dual, stepped, follow, follow_dual, over_lists}

-- a correction keeps the settings of what it corrects
abbrev KeepsSettings : (TrackerWindow → TrackerWindow) → Type 0
KeepsSettings f = (h : TrackerWindow) → Keeps h.0.ekf (f h).0.ekf

-- by whether the tracker is locked, and whether it fades
by_keeps : (locked fade : Bool) (dt : Float) (f : TrackerWindow → TrackerWindow) (h : TrackerWindow) → KeepsSettings f
    → Keeps h.0.ekf (cond locked (f (predicted dt h)) (cond fade (predicted h.0.ekf.tuning.ts h) h)).0.ekf
by_keeps true fade dt f h keeps = record { same = (keeps (predicted dt h)).same ∙ (predicted_keeps dt h.0.ekf h.0.p).same }
by_keeps false true dt f h keeps = predicted_keeps h.0.ekf.tuning.ts h.0.ekf h.0.p
by_keeps false false dt f h keeps = record { same = refl }

-- over a list that begins with the tracker t
since : (t : CarrierPllEkf) (f : TrackerWindow → TrackerWindow) (h : TrackerWindow) → Keeps t h.0.ekf → Keeps h.0.ekf (f h).0.ekf → Keeps t (f h).0.ekf
since t f h a b = record { same = b.same ∙ a.same }

pub follow_keeps : (dt : Float) (fade : Bool) (t : CarrierPllEkf) (h : TrackerWindow) (s : Sample) → Keeps t h.0.ekf → Keeps t (follow dt fade h s).0.ekf
unfolding follow stepped
follow_keeps dt fade t h s a =
    since t (λ (g : TrackerWindow). follow dt fade g s) h a
    (by_keeps h.0.ekf.is_locked fade dt (corrected s) h (λ g. updated_keeps g.0.ekf g.0.p g.1 s.0 s.1))

pub follow_dual_keeps : (dt : Float) (fade : Bool) (t : CarrierPllEkf) (h : TrackerWindow) (s : Sample × Sample) → Keeps t h.0.ekf → Keeps t (follow_dual dt fade h s).0.ekf
unfolding follow_dual stepped
follow_dual_keeps dt fade t h s a =
    since t (λ (g : TrackerWindow). follow_dual dt fade g s) h a
    (by_keeps h.0.ekf.is_locked fade dt (corrected_dual s) h (λ g. dual_keeps g.0.ekf g.0.p g.1 s.0.0 s.0.1 s.1.0 s.1.1))

pub over_keeps : (two : Bool) (dt : Float) (fade : Bool) (first second : List Float) (h : TrackerWindow) → Keeps h.0.ekf (over_lists two dt fade first second h).0.ekf
unfolding over_lists
over_keeps false dt fade first second h =
    fold_keeps (λ (g : TrackerWindow). Keeps h.0.ekf g.0.ekf) (follow dt fade) (λ g s. follow_keeps dt fade h.0.ekf g s) h (pairs first) (record { same = refl })
over_keeps true dt fade first second h =
    fold_keeps (λ (g : TrackerWindow). Keeps h.0.ekf g.0.ekf) (follow_dual dt fade) (λ g s. follow_dual_keeps dt fade h.0.ekf g s) h (zip (pairs first) (pairs second))
    (record { same = refl })
