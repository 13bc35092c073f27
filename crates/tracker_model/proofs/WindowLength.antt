-- No sample changes the length of a tracker's stretch. Assumes nothing.
use mathlib.Core.Path.{◌≡◌, refl, ◌∙◌}
use mathlib.Core.Bool.{Bool, true, false, cond}
use mathlib.Core.List.{List}
use mathlib.Core.Option.{Option, none, some}
use lib.ListN.{length, length-set}
use lib.Ieee.{Float}
use Rattle.tracker_covariance.specs.declared.states.Band.{Band}
use Rattle.tracker_covariance.specs.declared.states.Band.TheVariants.{First, Second}
use Rattle.tracker_power_ratio.specs.declared.PowerSums.{PowerSums}
use Rattle.tracker_power_ratio.specs.PowerRatio.{pushed}
use Rattle.tracker.specs.declared.state.CarrierPllEkf.{CarrierPllEkf}
use Rattle.tracker.specs.Correction.{pair_or_lost, windowed, band_corrected}
use Rattle.tracker.specs.Update.{updated, second_by, second_corrected, updated_dual}
use Rattle.tracker_model.specs.Following.{TrackerWindow, Sample, predicted, corrected, corrected_dual, stepped, follow, follow_dual}

pushed_length : (s : PowerSums) (w : List Float) (i q : Float) → length (pushed s w i q).1 ≡ length w
unfolding pushed
pushed_length s w i q = simp length-set

windowed_length : (c : Band) (t : CarrierPllEkf) (w : List Float) (i q : Float) → length (windowed c t w i q).1 ≡ length w
windowed_length First t w i q = pushed_length _ w i q
windowed_length Second t w i q = refl

band_length : (t : CarrierPllEkf) (p w : List Float) (c : Band) (re im : Float) → length (band_corrected t p w c re im).1 ≡ length w
unfolding band_corrected
band_length t p w c re im = windowed_length c _ w _ _

updated_length : (t : CarrierPllEkf) (p w : List Float) (re im : Float) → length (updated t p w re im).1 ≡ length w
unfolding updated
updated_length t p w re im = band_length t p w First re im

second_length : (o : Option (Float × Float)) (t : CarrierPllEkf) (p w : List Float) (re im : Float) → length (second_by o t p w re im).1 ≡ length w
unfolding second_corrected
second_length (some a) t p w re im = band_length t p w Second re im
second_length none t p w re im = refl

dual_length : (t : CarrierPllEkf) (p w : List Float) (re1 im1 re2 im2 : Float) → length (updated_dual t p w re1 im1 re2 im2).1 ≡ length w
unfolding updated_dual
dual_length t p w re1 im1 re2 im2 =
    let d = band_corrected t p w First re1 im1 in
    second_length (pair_or_lost d.0.answer) d.0.ekf d.0.p d.1 re2 im2 ∙ band_length t p w First re1 im1

by_length : (locked fade : Bool) (dt : Float) (f : TrackerWindow → TrackerWindow) (h : TrackerWindow) → ((g : TrackerWindow) → length (f g).1 ≡ length g.1)
    → length (cond locked (f (predicted dt h)) (cond fade (predicted h.0.ekf.tuning.ts h) h)).1 ≡ length h.1
by_length true fade dt f h keeps = keeps _
by_length false true dt f h keeps = refl
by_length false false dt f h keeps = refl

pub follow_length : (dt : Float) (fade : Bool) (h : TrackerWindow) (s : Sample) → length (follow dt fade h s).1 ≡ length h.1
unfolding follow stepped
follow_length dt fade h s = by_length h.0.ekf.is_locked fade dt (corrected s) h (λ g. updated_length _ _ _ _ _)

pub follow_dual_length : (dt : Float) (fade : Bool) (h : TrackerWindow) (s : Sample × Sample) → length (follow_dual dt fade h s).1 ≡ length h.1
unfolding follow_dual stepped
follow_dual_length dt fade h s = by_length h.0.ekf.is_locked fade dt (corrected_dual s) h (λ g. dual_length _ _ _ _ _ _ _)
