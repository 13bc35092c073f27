-- An update reads only the live part of its window: with other contents elsewhere it leaves the same tracker, and the same live part again.
-- Assumes nothing.
use mathlib.Core.Path.{◌≡◌, refl, ap}
use mathlib.Core.List.{List}
use mathlib.Core.Option.{Option, none, some}
use lib.Ieee.{Float}
use Rattle.tracker_covariance.specs.declared.states.Band.TheVariants.{First, Second}
use Rattle.tracker_covariance.specs.States.{phase_of}
use Rattle.tracker_power_ratio.specs.declared.PowerSums.{PowerSums}
use Rattle.tracker_power_ratio.specs.PowerRatio.{pushed}
use Rattle.tracker_power_ratio.proofs.LiveRing.{Live, pushed_same, pushed_live}
use Rattle.tracker_measurement.specs.declared.measure.Measured.{Measured}
use Rattle.tracker_measurement.specs.Measurement.{measured}
use Rattle.tracker.specs.declared.state.CarrierPllEkf.{CarrierPllEkf}
use Rattle.tracker.specs.declared.state.Tracked.{Tracked}
use Rattle.tracker.specs.declared.correction.Corrected.{Corrected}
use Rattle.tracker.specs.State.{with_envelope, with_power}
use Rattle.tracker.specs.Correction.{pair_or_lost, prior_of, gained, band_corrected}
use Rattle.tracker.specs.Update.{settled_by, second_by, updated, second_corrected, updated_dual}
use Rattle.tracker.proofs.Frame.{SameFrame, framed, then, gained_frame, by_frame, after_frame}

-- the count of pairs is a part of the frame
count : {t u : CarrierPllEkf} → SameFrame t u → u.power.pushed ≡ t.power.pushed
count h = ap (λ (t : CarrierPllEkf). t.power.pushed) h.same

-- ---- what two runs have in common

-- two trackers with their windows: the trackers are the same, and the windows agree where they are live
pub record Together (a b : Tracked × List Float) : Type 0 where
  pub same : a.0 ≡ b.0
  pub live : Live a.0.ekf.power.pushed a.1 b.1

-- ---- the correction by the first channel's sample

module _ (t : CarrierPllEkf) (p r q : List Float) (re im : Float) (h : Live t.power.pushed r q) where
  m : Measured
  m = measured (prior_of t (phase_of First)) re im

  -- the count and the sums, before the sample's pair
  before : PowerSums
  before = t.power

  moved : List Float → PowerSums
  moved w = (pushed before w m.abs_i m.q_sq).0

  after : PowerSums → Corrected
  after s = gained (with_power (with_envelope t m.envelope_ema) s) p (phase_of First) m

  first_same : (band_corrected t p r First re im).0 ≡ (band_corrected t p q First re im).0
  unfolding band_corrected m before moved after
  first_same = ap after (pushed_same before r q m.abs_i m.q_sq h)

  first_count : (w : List Float) → (band_corrected t p w First re im).0.ekf.power.pushed ≡ (moved w).pushed
  unfolding band_corrected m before moved
  first_count w = count (gained_frame _ p (phase_of First) m)

  first_live : Live (band_corrected t p r First re im).0.ekf.power.pushed (band_corrected t p r First re im).1 (band_corrected t p q First re im).1
  unfolding band_corrected m before moved
  first_live = rw (first_count r) (pushed_live before r q m.abs_i m.q_sq h)

-- ---- the second channel's, which has no window

abbrev second_tracked : Option (Float × Float) → CarrierPllEkf → List Float → Float → Float → Tracked
second_tracked o t p re im = (second_by o t p p re im).0

second_apart : (o : Option (Float × Float)) (t : CarrierPllEkf) (p w : List Float) (re im : Float) → second_by o t p w re im ≡ (second_tracked o t p re im, w)
unfolding second_corrected band_corrected
second_apart (some a) t p w re im = refl
second_apart none t p w re im = refl

second_frame : (o : Option (Float × Float)) (t : CarrierPllEkf) (p : List Float) (re im : Float) → SameFrame t (second_tracked o t p re im).ekf
unfolding second_corrected band_corrected
second_frame (some a) t p re im =
    let m = measured (prior_of t (phase_of Second)) re im in
    let u = with_envelope t m.envelope_ema in
    let d = gained u p (phase_of Second) m in
    then (framed t u refl) (then (gained_frame u p (phase_of Second) m) (after_frame (pair_or_lost d.answer) d.ekf d.p a.0 a.1))
second_frame none t p re im = framed t _ refl

-- ---- an update

pub updated_together : (t : CarrierPllEkf) (p r q : List Float) (re im : Float) → Live t.power.pushed r q
    → Together (updated t p r re im) (updated t p q re im)
unfolding updated
updated_together t p r q re im h =
    let d = (band_corrected t p r First re im).0 in
    record {
      same = ap (λ (c : Corrected). settled_by (pair_or_lost c.answer) c.ekf c.p) (first_same t p r q re im h);
      live = rw (count (by_frame (pair_or_lost d.answer) d.ekf d.p)) (first_live t p r q re im h);
    }

pub dual_together : (t : CarrierPllEkf) (p r q : List Float) (re1 im1 re2 im2 : Float) → Live t.power.pushed r q
    → Together (updated_dual t p r re1 im1 re2 im2) (updated_dual t p q re1 im1 re2 im2)
unfolding updated_dual
dual_together t p r q re1 im1 re2 im2 h =
    let d = band_corrected t p r First re1 im1 in
    let e = band_corrected t p q First re1 im1 in
    let o = pair_or_lost d.0.answer in
    rw (second_apart o d.0.ekf d.0.p d.1 re2 im2, second_apart (pair_or_lost e.0.answer) e.0.ekf e.0.p e.1 re2 im2)
    (record {
      same = ap (λ (c : Corrected). second_tracked (pair_or_lost c.answer) c.ekf c.p re2 im2) (first_same t p r q re1 im1 h);
      live = rw (count (second_frame o d.0.ekf d.0.p re2 im2)) (first_live t p r q re1 im1 h);
    })
