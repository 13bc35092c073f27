-- The lines of the tracker's vectors (reference/README.md, the first five kinds). A line is its kind, the arguments and the numbers that the Rust
-- answered; it agrees where the numbers that the definitions of module 3 give stand behind the arguments, to the line's end. Definitions only.
use Rattle.std.specs.Prelude.{List, ◌∷◌, ◌++◌, map, Bool, true, false, cond, ◌&&◌, ℕ, eqb, Float, drop, Option, Some, None}
use Rattle.ieee754.specs.Binary64.{one, thousand}
use Rattle.tracker_measurement.specs.declared.modulation.Modulation.TheVariants.{Carrier}
use Rattle.tracker_covariance.specs.declared.states.Band.TheVariants.{First, Second}
use Rattle.tracker.specs.declared.state.Tuning.{Tuning}
use Rattle.tracker.specs.declared.state.CarrierPllEkf.{CarrierPllEkf}
use Rattle.tracker.specs.declared.state.Tracked.{Tracked}
use Rattle.tracker.specs.declared.correction.Corrected.{Corrected}
use Rattle.tracker.specs.State.{tracker_of, no_power, initial_tuning, initial_tracker, reset_to}
use Rattle.tracker.specs.Prediction.{predicted_over}
use Rattle.tracker.specs.Correction.{band_corrected}
use Rattle.tracker.specs.Update.{updated, updated_dual}
use Rattle.vectors.specs.Code.Lines.{number_at, mark_number, mark_at, float64_at, float32_at, float64s_at, is_rest}
use Rattle.tracker_vectors.specs.declared.after.After.{After}
use Rattle.tracker_vectors.specs.declared.after.Answered.{Answered}
use Rattle.tracker_vectors.specs.declared.after.Marked.{Marked}
use Rattle.tracker_vectors.specs.Code.Before.{tracker_from, covariance_from, window_from}
use Rattle.tracker_vectors.specs.Code.After.{pattern, tracker_words, after_of, after_words, guarded_words, answer_words, is_kept}

-- ---- kind 0, predict: x (6), P (36), three process noises, interval, metric, ratio, adaptive : x, P
unfoldable pub tuning_to_predict : List ℕ → Tuning
tuning_to_predict ws =
    let new = initial_tuning thousand true true one in
    record {
      q_phase = float64_at 43 ws;
      q_freq = float64_at 44 ws;
      q_chirp = float64_at 45 ws;
      r_meas = new.r_meas;
      ts = float64_at 46 ws;
      frequency_ratio = float64_at 48 ws;
      adaptive_ekf = mark_at 49 ws;
      dual_lock = new.dual_lock;
    }

-- a new tracker with these states, metric and tuning, predicted over the interval
unfoldable pub predicted_from : List ℕ → Tracked
predicted_from ws =
    predicted_over (float64_at 46 ws) (tracker_of Carrier (tuning_to_predict ws) (float64s_at 1 6 ws) one no_power (float64_at 47 ws) false 0) (float64s_at 7 36 ws)

unfoldable pub states_words : Tracked → List ℕ
states_words r = map pattern r.ekf.x ++ map pattern r.p

unfoldable pub predict_agrees : List ℕ → Bool
predict_agrees ws = is_rest (states_words (predicted_from ws)) (drop 50 ws)

-- ---- kind 1, correct: channel, *before*, sample : 1 or 0 (lost), in-phase value, power ratio, *after*; b is the line from *before* on
abbrev pub tracked_of : Corrected → Tracked
tracked_of d = record { ekf = d.ekf; p = d.p }

unfoldable pub corrected_from : List ℕ → Corrected × List Float
corrected_from b = band_corrected (tracker_from false 0 b) (covariance_from b) (window_from b) First (float32_at 53 b) (float32_at 54 b)

unfoldable pub answered_from : List ℕ → Answered
answered_from b =
    let d = corrected_from b in
    record { answer = d.0.answer; after = after_of (tracked_of d.0) d.1 (number_at 49 b) }

unfoldable pub answered_words : Answered → List ℕ
answered_words r = answer_words r.answer ++ after_words r.after

-- channel 0 is the first. A sample is a list of two
unfoldable pub first_agrees : List ℕ → Bool
first_agrees ws = eqb (number_at 54 ws) 2 && is_rest (answered_words (answered_from (drop 2 ws))) (drop 57 ws)

-- any other is the second. Its in-phase value and power ratio are passed over: nothing uses them, and the code does not work them out
unfoldable pub second_from : List ℕ → Corrected × List Float
second_from b = band_corrected (tracker_from false 0 b) (covariance_from b) (window_from b) Second (float32_at 53 b) (float32_at 54 b)

unfoldable pub marked_from : List ℕ → Marked
marked_from b =
    let d = second_from b in
    record { kept = is_kept d.0.answer; after = after_of (tracked_of d.0) d.1 (number_at 49 b) }

unfoldable pub second_agrees : List ℕ → Bool
second_agrees ws =
    let r = marked_from (drop 2 ws) in
    eqb (number_at 54 ws) 2 && (eqb (number_at 57 ws) (mark_number r.kept) && is_rest (after_words r.after) (drop 60 ws))

unfoldable pub correct_agrees : List ℕ → Bool
correct_agrees ws = cond (eqb (number_at 1 ws) 0) (first_agrees ws) (second_agrees ws)

-- ---- kinds 2 and 3, update and dual: dual lock, guard, *before*, a sample, of dual another of channel 2 : guard, *after*
unfoldable pub updated_from : Option (Float × Float) → CarrierPllEkf → List ℕ → Tracked × List Float
updated_from None t b = updated t (covariance_from b) (window_from b) (float32_at 53 b) (float32_at 54 b)
updated_from (Some s) t b = updated_dual t (covariance_from b) (window_from b) (float32_at 53 b) (float32_at 54 b) s.0 s.1

unfoldable pub after_update : Option (Float × Float) → List ℕ → After
after_update second ws =
    let b = drop 3 ws in
    let r = updated_from second (tracker_from (mark_at 1 ws) (number_at 2 ws) b) b in
    after_of r.0 r.1 (number_at 49 b)

unfoldable pub update_agrees : List ℕ → Bool
update_agrees ws = eqb (number_at 55 ws) 2 && is_rest (guarded_words (after_update None ws)) (drop 58 ws)

unfoldable pub dual_agrees : List ℕ → Bool
dual_agrees ws =
    let second : Float × Float = (float32_at 59 ws, float32_at 60 ws) in
    eqb (number_at 55 ws) 2 && (eqb (number_at 58 ws) 2 && is_rest (guarded_words (after_update (Some second) ws)) (drop 61 ws))

-- ---- kind 4, reset: ratio, phase, frequency in Hz, chirp in Hz/s : guard, *after* without its pair
unfoldable pub reset_from : List ℕ → Tracked
reset_from ws = reset_to (initial_tracker thousand Carrier true true (float64_at 1 ws)).ekf (float64_at 2 ws) (float64_at 3 ws) (float64_at 4 ws)

unfoldable pub reset_words : Tracked → List ℕ
reset_words r = r.ekf.convergence_guard ∷ tracker_words r

unfoldable pub reset_agrees : List ℕ → Bool
reset_agrees ws = is_rest (reset_words (reset_from ws)) (drop 5 ws)

-- ---- by its kind; a line of any other does not agree
unfoldable pub kind_agrees : ℕ → List ℕ → Bool
kind_agrees kind ws =
    cond (eqb kind 0) (predict_agrees ws)
    (cond (eqb kind 1) (correct_agrees ws)
    (cond (eqb kind 2) (update_agrees ws)
    (cond (eqb kind 3) (dual_agrees ws)
    (cond (eqb kind 4) (reset_agrees ws) false))))

unfoldable pub line_agrees : List ℕ → Bool
line_agrees ws = kind_agrees (number_at 0 ws) ws
