-- What a line has of a tracker after a step (reference/README.md calls it *after*), as numbers: floats by their patterns, marks as 0 or 1.
-- Definitions only.
use Rattle.std.specs.Prelude.{Bool, true, false, List, [], ◌∷◌, ◌++◌, map, ℕ, min, Float}
use Rattle.std.specs.Float.{binary64}
use Rattle.std.specs.Float.Ieee.{to_bits}
use Rattle.tracker_power_ratio.specs.Ring.{slot, abs_i_at, q_sq_at}
use Rattle.vectors.specs.Code.Lines.{mark_number}
use Rattle.tracker.specs.declared.state.CarrierPllEkf.{CarrierPllEkf}
use Rattle.tracker.specs.declared.state.Tracked.{Tracked}
use Rattle.tracker.specs.declared.correction.Correction.{Correction}
use Rattle.tracker.specs.declared.correction.Correction.TheVariants.{Kept, Lost}
use Rattle.tracker_vectors.specs.declared.after.After.{After}

abbrev pub pattern : Float → ℕ
pattern x = to_bits binary64 x

-- metric, envelope, both sums
unfoldable pub figures : CarrierPllEkf → List Float
figures t = t.lock_metric ∷ t.envelope_ema ∷ t.power.sum_abs_i ∷ t.power.sum_q_sq ∷ []

-- locked, x, P, the four, pairs in the window (no more than 1,024)
unfoldable pub tracker_words : Tracked → List ℕ
tracker_words h =
    let t = h.ekf in
    mark_number t.is_locked ∷ (map pattern t.x ++ map pattern h.p ++ map pattern (figures t) ++ (min t.power.pushed 1024 ∷ []))

-- a tracker and the pair at the place where the n-th pair since the reset goes
unfoldable pub after_of : Tracked → List Float → ℕ → After
after_of h w n = record { h = h; abs_i = abs_i_at w (slot n); q_sq = q_sq_at w (slot n) }

unfoldable pub after_words : After → List ℕ
after_words a = tracker_words a.h ++ (pattern a.abs_i ∷ pattern a.q_sq ∷ [])

-- after an update the guard stands before it
unfoldable pub guarded_words : After → List ℕ
guarded_words a = a.h.ekf.convergence_guard ∷ after_words a

-- what a correction answers: 1 and the pair, or three zeros where it is lost
unfoldable pub answer_words : Correction → List ℕ
answer_words (Kept in_phase pr) = 1 ∷ pattern in_phase ∷ pattern pr ∷ []
answer_words Lost = 0 ∷ 0 ∷ 0 ∷ []

unfoldable pub is_kept : Correction → Bool
is_kept (Kept in_phase pr) = true
is_kept Lost = false
