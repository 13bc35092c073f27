-- What no step changes of a tracker: its settings, which are its noise figures, interval, modulation, switches and frequency ratio.
use mathlib.Core.Path.{◌≡◌, refl, ap, ◌∙◌}
use mathlib.Core.Bool.{false}
use mathlib.Core.List.{List}
use mathlib.Core.Option.{Option, none, some}
use lib.Ieee.{Float}
use Rattle.ieee754.specs.Binary64.{zero}
use Rattle.tracker_covariance.specs.declared.states.Band.{Band}
use Rattle.tracker_covariance.specs.declared.states.Band.TheVariants.{First, Second}
use Rattle.tracker_covariance.specs.States.{phase_of}
use Rattle.tracker_measurement.specs.Measurement.{measured}
use Rattle.tracker.specs.declared.state.CarrierPllEkf.{CarrierPllEkf}
use Rattle.tracker.specs.State.{tracker_of, zero_state, no_power, with_envelope, reset_to}
use Rattle.tracker.specs.Prediction.{predicted_over}
use Rattle.tracker.specs.Correction.{pair_or_lost, prior_of, windowed, band_corrected}
use Rattle.tracker.specs.Update.{second_by, updated, second_corrected, updated_dual}
use Rattle.tracker.proofs.Frame.{SameFrame, gained_frame, by_frame, after_frame}

-- the tracker with all else at 0
abbrev pub settings : CarrierPllEkf → CarrierPllEkf
settings t = tracker_of t.modulation t.tuning zero_state zero no_power zero false 0

-- u has the settings of t
pub record Keeps (t u : CarrierPllEkf) : Type 0 where
  pub same : settings u ≡ settings t

none_changed : (t u : CarrierPllEkf) → settings u ≡ settings t → Keeps t u
none_changed t u e = record { same = e }

then : {t u v : CarrierPllEkf} → Keeps t u → Keeps u v → Keeps t v
then a b = record { same = b.same ∙ a.same }

-- the settings are a part of the frame
of_frame : {t u : CarrierPllEkf} → SameFrame t u → Keeps t u
of_frame h = record { same = ap settings h.same }

windowed_keeps : (h : Band) (t : CarrierPllEkf) (w : List Float) (i q : Float) → Keeps t (windowed h t w i q).0
windowed_keeps First t w i q = none_changed t _ refl
windowed_keeps Second t w i q = none_changed t _ refl

pub corrected_keeps : (t : CarrierPllEkf) (p w : List Float) (h : Band) (re im : Float) → Keeps t (band_corrected t p w h re im).0.ekf
unfolding band_corrected
corrected_keeps t p w h re im =
    let i = phase_of h in
    let m = measured (prior_of t i) re im in
    let e = with_envelope t m.envelope_ema in
    then (none_changed t e refl) (then (windowed_keeps h e w m.abs_i m.q_sq) (of_frame (gained_frame _ p i m)))

pub updated_keeps : (t : CarrierPllEkf) (p w : List Float) (re im : Float) → Keeps t (updated t p w re im).0.ekf
unfolding updated
updated_keeps t p w re im =
    let d = (band_corrected t p w First re im).0 in
    then (corrected_keeps t p w First re im) (of_frame (by_frame (pair_or_lost d.answer) d.ekf d.p))

second_keeps : (t : CarrierPllEkf) (p w : List Float) (n pr re im : Float) → Keeps t (second_corrected t p w n pr re im).0.ekf
unfolding second_corrected
second_keeps t p w n pr re im =
    let d = (band_corrected t p w Second re im).0 in
    then (corrected_keeps t p w Second re im) (of_frame (after_frame (pair_or_lost d.answer) d.ekf d.p n pr))

two_keeps : (o : Option (Float × Float)) (t : CarrierPllEkf) (p w : List Float) (re im : Float) → Keeps t (second_by o t p w re im).0.ekf
two_keeps (some a) t p w re im = second_keeps t p w a.0 a.1 re im
two_keeps none t p w re im = none_changed t _ refl

pub dual_keeps : (t : CarrierPllEkf) (p w : List Float) (re1 im1 re2 im2 : Float) → Keeps t (updated_dual t p w re1 im1 re2 im2).0.ekf
unfolding updated_dual
dual_keeps t p w re1 im1 re2 im2 =
    let d = band_corrected t p w First re1 im1 in
    then (corrected_keeps t p w First re1 im1) (two_keeps (pair_or_lost d.0.answer) d.0.ekf d.0.p d.1 re2 im2)

pub predicted_keeps : (dt : Float) (t : CarrierPllEkf) (p : List Float) → Keeps t (predicted_over dt t p).ekf
unfolding predicted_over
predicted_keeps dt t p = none_changed t _ refl

pub reset_keeps : (t : CarrierPllEkf) (phase hz rate : Float) → Keeps t (reset_to t phase hz rate).ekf
unfolding reset_to
reset_keeps t phase hz rate = none_changed t _ refl
