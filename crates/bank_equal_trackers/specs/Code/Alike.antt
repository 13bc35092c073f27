-- Three trackers of a bank that are equal with all that is theirs (the scope, module 7). Tracker i has the stretch 2,048 × (i + 1) of the window
-- memory. Definitions only.
use Rattle.std.specs.Prelude.{◌≡◌, List, Float}
use Rattle.sequences.specs.Stretches.{stretch, within}
use Rattle.tracker.specs.declared.state.Tracked.{Tracked}
use Rattle.tracker_model.specs.Following.{TrackerWindow}

-- the stretches of the three trackers are equal
pub record Level (w : List Float) : Type 0 where
  pub s2 : stretch 4096 2048 w ≡ stretch 2048 2048 w
  pub s3 : stretch 6144 2048 w ≡ stretch 2048 2048 w

-- so are the trackers
pub record Alike (t0 t1 t2 : Tracked) (w : List Float) : Type 0 where
  pub first : t1 ≡ t0
  pub second : t2 ≡ t0
  pub level : Level w

-- what f does to three trackers that all start as one, each on its own stretch, one after the other: the three, and the memory
unfoldable pub thrice : (TrackerWindow → TrackerWindow) → TrackerWindow → Tracked × Tracked × Tracked × List Float
thrice f h =
    let h0 = within 2048 2048 f h in
    let h1 = within 4096 2048 f (h.0, h0.1) in
    let h2 = within 6144 2048 f (h.0, h1.1) in (h0.0, h1.0, h2.0, h2.1)
