-- A tracker over one list of samples, whatever becomes of a second. Definitions only.
use Rattle.std.specs.Prelude.{Bool, List, Float}
use Rattle.sequences.specs.Pairs.{pairs}
use Rattle.sequences.specs.Folds.{fold}
use Rattle.tracker_model.specs.Following.{TrackerWindow, follow}

unfoldable pub followed : Float → Bool → List Float → TrackerWindow → TrackerWindow
followed dt fade samples h = fold (follow dt fade) h (pairs samples)
