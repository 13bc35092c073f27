-- A tracker over the samples of a block (the scope, modules 7 and 9; the inner loops of `process_block_with_center`). A locked tracker is predicted
-- over the block's interval, factor / rate, and corrected; one that fades is predicted over its own interval, 1 / (rate / factor); another
-- stands still. Definitions only.
use Rattle.std.specs.Prelude.{List, Bool, true, false, cond, Float}
use Rattle.sequences.specs.Pairs.{pairs, zip}
use Rattle.sequences.specs.Folds.{fold}
use Rattle.tracker.specs.declared.state.Tracked.{Tracked}
use Rattle.tracker.specs.Prediction.{predicted_over}
use Rattle.tracker.specs.Update.{updated, updated_dual}

-- a tracker with its covariance, and its stretch of the window memory
abbrev pub TrackerWindow : Type 0
TrackerWindow = Tracked × List Float

-- one sample: its real and its imaginary part
abbrev pub Sample : Type 0
Sample = Float × Float

-- predicted over the interval dt
abbrev pub predicted : Float → TrackerWindow → TrackerWindow
predicted dt h = (predicted_over dt h.0.ekf h.0.p, h.1)

-- what a sample does to a tracker and its stretch: an update
abbrev pub corrected : Sample → TrackerWindow → TrackerWindow
corrected s h = updated h.0.ekf h.0.p h.1 s.0 s.1

-- the same with a sample of each of two frequencies
abbrev pub corrected_dual : Sample × Sample → TrackerWindow → TrackerWindow
corrected_dual s h = updated_dual h.0.ekf h.0.p h.1 s.0.0 s.0.1 s.1.0 s.1.1

-- one step with the update u: predicted and corrected where the tracker is locked, predicted where it fades
unfoldable pub stepped : Float → Bool → (TrackerWindow → TrackerWindow) → TrackerWindow → TrackerWindow
stepped dt fade u h = cond h.0.ekf.is_locked (u (predicted dt h)) (cond fade (predicted h.0.ekf.tuning.ts h) h)

-- one sample
unfoldable pub follow : Float → Bool → TrackerWindow → Sample → TrackerWindow
follow dt fade h s = stepped dt fade (corrected s) h

-- a sample of each of two frequencies
unfoldable pub follow_dual : Float → Bool → TrackerWindow → Sample × Sample → TrackerWindow
follow_dual dt fade h s = stepped dt fade (corrected_dual s) h

-- a whole list of samples, or two as far as both go, by whether there are two frequencies
unfoldable pub over_lists : Bool → Float → Bool → List Float → List Float → TrackerWindow → TrackerWindow
over_lists false dt fade first second h = fold (follow dt fade) h (pairs first)
over_lists true dt fade first second h = fold (follow_dual dt fade) h (zip (pairs first) (pairs second))
