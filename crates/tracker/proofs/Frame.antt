-- What every part of an update keeps, but the window: a tracker's settings, which are its noise figures, interval, modulation, switches and frequency
-- ratio, and the count of pairs pushed. Assumes nothing.
use Prim.Native.Nat.{ℕ, ◌-◌}
use mathlib.Core.Path.{◌≡◌, refl, ◌∙◌}
use mathlib.Core.Bool.{Bool, true, false, not, cond, ◌&&◌}
use mathlib.Core.List.{List}
use mathlib.Core.Option.{Option, none, some}
use lib.Dec.{ltb}
use lib.Ieee.{Float}
use Rattle.ieee754.specs.Binary64.{zero}
use Rattle.tracker_covariance.specs.Initial.{initial_covariance}
use Rattle.tracker_covariance.specs.Correction.{innovation_variance, takes_gain, gain_of, corrected_state, corrected}
use Rattle.tracker_power_ratio.specs.PowerRatio.{ratio}
use Rattle.tracker_measurement.specs.declared.measure.Measured.{Measured}
use Rattle.tracker.specs.declared.state.CarrierPllEkf.{CarrierPllEkf}
use Rattle.tracker.specs.declared.correction.Correction.{Correction}
use Rattle.tracker.specs.declared.correction.Correction.TheVariants.{Kept, Lost}
use Rattle.tracker.specs.declared.correction.Corrected.{Corrected}
use Rattle.tracker.specs.State.{tracker_of, zero_state, with_state, with_lock, lost_tracker}
use Rattle.tracker.specs.Correction.{any_nan, wrapped_phase, limited, corrected_or_lost, gained}
use Rattle.tracker.specs.Lock.{next_metric, unlocks, settled}
use Rattle.tracker.specs.Update.{settled_by, settled_after}

-- the tracker with all else at 0
abbrev pub frame : CarrierPllEkf → CarrierPllEkf
frame t = tracker_of t.modulation t.tuning zero_state zero (record { pushed = t.power.pushed; sum_abs_i = zero; sum_q_sq = zero }) zero false 0

-- u has the frame of t
pub record SameFrame (t u : CarrierPllEkf) : Type 0 where
  pub same : frame u ≡ frame t

pub framed : (t u : CarrierPllEkf) → frame u ≡ frame t → SameFrame t u
framed t u e = record { same = e }

pub then : {t u v : CarrierPllEkf} → SameFrame t u → SameFrame u v → SameFrame t v
then a b = record { same = b.same ∙ a.same }

either : {A : Type 0} (f : A → CarrierPllEkf) (t : CarrierPllEkf) (b : Bool) (x y : A) → SameFrame t (f x) → SameFrame t (f y) → SameFrame t (f (cond b x y))
either f t true x y h g = h
either f t false x y h g = g

corrected_frame : (t : CarrierPllEkf) (p : List Float) (i : ℕ) (noise : Float) (k y : List Float) (a : Correction) → SameFrame t (corrected_or_lost t p i noise k y a).ekf
unfolding corrected_or_lost
corrected_frame t p i noise k y a =
    let v = wrapped_phase y i t.modulation in
    either (λ (r : Corrected). r.ekf) t (any_nan v)
    (record { ekf = lost_tracker t; p = initial_covariance; answer = Lost })
    (record { ekf = with_state t (limited v i); p = corrected p i k noise; answer = a })
    (framed t (lost_tracker t) refl)
    (framed t (with_state t (limited v i)) refl)

pub gained_frame : (t : CarrierPllEkf) (p : List Float) (i : ℕ) (m : Measured) → SameFrame t (gained t p i m).ekf
unfolding gained
gained_frame t p i m =
    let a = Kept m.norm_re (ratio t.power.sum_abs_i t.power.sum_q_sq) in
    let s = innovation_variance p i m.r_effective in
    let k = gain_of p i s in
    let y = corrected_state t.x k m.z in
    either (λ (r : Corrected). r.ekf) t (takes_gain s) (corrected_or_lost t p i m.r_effective k y a) (record { ekf = t; p = p; answer = a })
    (corrected_frame t p i m.r_effective k y a) (framed t t refl)

settled_frame : (t : CarrierPllEkf) (n pr : Float) → SameFrame t (settled t n pr)
unfolding settled
settled_frame t n pr =
    let metric = next_metric t.lock_metric n in
    let guard = t.convergence_guard in
    let up = with_lock t metric t.is_locked (guard - 1) in
    let down = with_lock t metric (t.is_locked && not (unlocks t.tuning.dual_lock metric pr)) guard in
    either (λ (u : CarrierPllEkf). u) t (ltb 0 guard) up down (framed t up refl) (framed t down refl)

pub by_frame : (o : Option (Float × Float)) (t : CarrierPllEkf) (p : List Float) → SameFrame t (settled_by o t p).ekf
by_frame (some a) t p = settled_frame t a.0 a.1
by_frame none t p = framed t _ refl

pub after_frame : (o : Option (Float × Float)) (t : CarrierPllEkf) (p : List Float) (n pr : Float) → SameFrame t (settled_after o t p n pr).ekf
after_frame (some a) t p n pr = settled_frame t n pr
after_frame none t p n pr = framed t _ refl
