-- A correction that took a gain and was not lost leaves the phase of its channel in its range, and so do the updates. Where the state has no NaN after the
-- wrap, the wrapped phase is a number; the limits, the metric and the mark do not touch it. Assumes nothing.
use Prim.Native.Nat.{ℕ, ◌+◌, ◌-◌, ◌<◌}
use native.Mathlib.Omega.{arith}
use mathlib.Core.Path.{◌≡◌, refl, sym, ap, subst, ◌∙◌}
use mathlib.Core.Bool.{Bool, true, false, not, cond, ◌&&◌, ◌||◌}
use mathlib.Core.List.{List}
use mathlib.Core.Option.{Option, none, some}
use lib.Dec.{T, ltb}
use lib.ListN.{set, length}
use lib.Seq.{get_or-set_same, get_or-set_other}
use lib.Ieee.{Float, nan, neg, is_nan}
use lib.Ieee.Bits.{is_true}
use Rattle.ieee754.specs.Order.{clamped}
use Rattle.tracker_covariance.specs.declared.states.Band.{Band}
use Rattle.tracker_covariance.specs.declared.states.Band.TheVariants.{First, Second}
use Rattle.tracker_covariance.specs.Matrix.{el}
use Rattle.tracker_covariance.specs.States.{phase_of}
use Rattle.tracker_covariance.specs.Initial.{initial_covariance}
use Rattle.tracker_covariance.specs.Correction.{innovation_variance, takes_gain, gain_of, corrected_state, corrected}
use Rattle.tracker_power_ratio.specs.PowerRatio.{ratio}
use Rattle.tracker_measurement.specs.declared.modulation.Modulation.{Modulation}
use Rattle.tracker_measurement.specs.declared.measure.Measured.{Measured}
use Rattle.tracker_measurement.specs.Measurement.{measured}
use Rattle.tracker_measurement.specs.Phase.{wrapped}
use Rattle.tracker.specs.declared.state.CarrierPllEkf.{CarrierPllEkf}
use Rattle.tracker.specs.declared.correction.Correction.{Correction}
use Rattle.tracker.specs.declared.correction.Correction.TheVariants.{Kept, Lost}
use Rattle.tracker.specs.declared.correction.Corrected.{Corrected}
use Rattle.tracker.specs.State.{with_state, with_lock, lost_tracker}
use Rattle.tracker.specs.Correction.{pair_or_lost, max_freq, max_chirp, prior_of, any_nan, wrapped_phase, limited, corrected_or_lost, gained, band_corrected}
use Rattle.tracker.specs.Lock.{next_metric, unlocks, settled}
use Rattle.tracker.specs.Update.{settled_by, updated, settled_after, second_corrected, second_by, updated_dual}
use Rattle.tracker.proofs.Settings.{corrected_keeps}
use Rattle.tracker_claims.specs.WrappedPhase.{InRange}
use Rattle.tracker_claims.specs.CorrectedPhase.{NotLost, Moves, PhaseInRange}
use Rattle.tracker_claims.proofs.WrappedPhase.{number_in_range}

-- ---- no NaN among the six: none in the channel's phase
none_l : (a b : Bool) → a || b ≡ false → a ≡ false
none_l true b h = h
none_l false b h = refl

none_r : (a b : Bool) → a || b ≡ false → b ≡ false
none_r true b h = absurd (subst T h tt)
none_r false b h = h

phase_number : (h : Band) (v : List Float) → any_nan v ≡ false → is_nan (el v (phase_of h)) ≡ false
unfolding any_nan
phase_number h v e = go h
  where
    n : ℕ → Bool
    n i = is_nan (el v i)

    three : ((n 0 || n 1) || n 2) || n 3 ≡ false
    three = none_l (((n 0 || n 1) || n 2) || n 3) (n 4) (none_l ((((n 0 || n 1) || n 2) || n 3) || n 4) (n 5) e)

    go : (h : Band) → is_nan (el v (phase_of h)) ≡ false
    go First = none_l (n 0) (n 1) (none_l (n 0 || n 1) (n 2) (none_l ((n 0 || n 1) || n 2) (n 3) three))
    go Second = none_r ((n 0 || n 1) || n 2) (n 3) three

-- ---- the limits leave the phase
limits_leave : (v : List Float) (i : ℕ) → el (limited v i) i ≡ el v i
unfolding limited
limits_leave v i =
    get_or-set_other (set v (i + 1) (clamped (el v (i + 1)) (neg max_freq) max_freq)) (i + 2) i (clamped (el v (i + 2)) (neg max_chirp) max_chirp) nan (two-on i)
    ∙ get_or-set_other v (i + 1) i (clamped (el v (i + 1)) (neg max_freq) max_freq) nan (one_on i)
  where
    one_on : (i : ℕ) → i ≡ i + 1 → ⊥
    one_on i e = omega arith

    two-on : (i : ℕ) → i ≡ i + 2 → ⊥
    two-on i e = omega arith

wrapped_there : (y : List Float) (i : ℕ) (m : Modulation) → i < length y → el (wrapped_phase y i m) i ≡ wrapped m (el y i)
unfolding wrapped_phase
wrapped_there y i m h = get_or-set_same y i (wrapped m (el y i)) nan h

module _ (h : Band) (y : List Float) (m : Modulation) (inside : phase_of h < length y) where
  phase_kept : any_nan (wrapped_phase y (phase_of h) m) ≡ false → InRange m (el (limited (wrapped_phase y (phase_of h) m) (phase_of h)) (phase_of h))
  phase_kept e =
      let i = phase_of h in
      let v = wrapped_phase y i m in
      let w = wrapped_there y i m inside in
      let number : is_nan (wrapped m (el y i)) ≡ false = ap is_nan (sym w) ∙ phase_number h v e in
      subst (InRange m) (sym (limits_leave v i ∙ w)) (number_in_range m (el y i) (subst (λ (b : Bool). T (not b)) (sym number) tt))

-- ---- up to the whole correction
ended_in_range : (t : CarrierPllEkf) (p : List Float) (h : Band) (noise : Float) (k y : List Float) (kept : Correction) → phase_of h < length y
    → NotLost (corrected_or_lost t p (phase_of h) noise k y kept) → InRange t.modulation (el (corrected_or_lost t p (phase_of h) noise k y kept).ekf.x (phase_of h))
unfolding corrected_or_lost
ended_in_range t p h noise k y kept inside not_lost = go (any_nan v) refl not_lost
  where
    v : List Float
    v = wrapped_phase y (phase_of h) t.modulation

    result : Bool → Corrected
    result b =
        cond b (record { ekf = lost_tracker t; p = initial_covariance; answer = Lost })
        (record { ekf = with_state t (limited v (phase_of h)); p = corrected p (phase_of h) k noise; answer = kept })

    go : (b : Bool) → any_nan v ≡ b → NotLost (result b) → InRange t.modulation (el (result b).ekf.x (phase_of h))
    go true e n = absurd (n refl)
    go false e n = phase_kept h y t.modulation inside e

six : (h : Band) (x k : List Float) (z : Float) → phase_of h < length (corrected_state x k z)
unfolding corrected_state
six First x k z = omega arith
six Second x k z = omega arith

gained_in_range : (t : CarrierPllEkf) (p : List Float) (h : Band) (m : Measured) → T (takes_gain (innovation_variance p (phase_of h) m.r_effective))
    → NotLost (gained t p (phase_of h) m) → InRange t.modulation (el (gained t p (phase_of h) m).ekf.x (phase_of h))
unfolding gained
gained_in_range t p h m g not_lost = go (takes_gain s) (is_true (takes_gain s) g) not_lost
  where
    s : Float
    s = innovation_variance p (phase_of h) m.r_effective

    k : List Float
    k = gain_of p (phase_of h) s

    kept : Correction
    kept = Kept m.norm_re (ratio t.power.sum_abs_i t.power.sum_q_sq)

    result : Bool → Corrected
    result b = cond b (corrected_or_lost t p (phase_of h) m.r_effective k (corrected_state t.x k m.z) kept) (record { ekf = t; p = p; answer = kept })

    go : (b : Bool) → b ≡ true → NotLost (result b) → InRange t.modulation (el (result b).ekf.x (phase_of h))
    go true e n = ended_in_range t p h m.r_effective k (corrected_state t.x k m.z) kept (six h t.x k m.z) n
    go false e n = absurd (subst T (sym e) tt)

corrected_in_range : (t : CarrierPllEkf) (p w : List Float) (band : Band) (re im : Float) → Moves t p w band re im
    → InRange t.modulation (el (band_corrected t p w band re im).0.ekf.x (phase_of band))
unfolding band_corrected
corrected_in_range t p w First re im c = gained_in_range _ p First (measured (prior_of t 0) re im) c.gain c.not_lost
corrected_in_range t p w Second re im c = gained_in_range _ p Second (measured (prior_of t 3) re im) c.gain c.not_lost

-- ---- metric, guard and mark leave the states
settled_leaves : (t : CarrierPllEkf) (n pr : Float) → (settled t n pr).x ≡ t.x
unfolding settled
settled_leaves t n pr = go (ltb 0 guard)
  where
    guard : ℕ
    guard = t.convergence_guard

    metric : Float
    metric = next_metric t.lock_metric n

    go : (b : Bool)
        → (cond b (with_lock t metric t.is_locked (guard - 1)) (with_lock t metric (t.is_locked && not (unlocks t.tuning.dual_lock metric pr)) guard)).x ≡ t.x
    go true = refl
    go false = refl

by_leaves : (o : Option (Float × Float)) (t : CarrierPllEkf) (p : List Float) → (settled_by o t p).ekf.x ≡ t.x
by_leaves (some a) t p = settled_leaves t a.0 a.1
by_leaves none t p = refl

after_leaves : (o : Option (Float × Float)) (t : CarrierPllEkf) (p : List Float) (n pr : Float) → (settled_after o t p n pr).ekf.x ≡ t.x
after_leaves (some a) t p n pr = settled_leaves t n pr
after_leaves none t p n pr = refl

abbrev Within : Modulation → Band → List Float → Type 0
Within m band x = InRange m (el x (phase_of band))

updated_in_range : (t : CarrierPllEkf) (p w : List Float) (re im : Float) → Moves t p w First re im → Within t.modulation First (updated t p w re im).0.ekf.x
unfolding updated
updated_in_range t p w re im c =
    let d = (band_corrected t p w First re im).0 in
    subst (Within t.modulation First) (sym (by_leaves (pair_or_lost d.answer) d.ekf d.p)) (corrected_in_range t p w First re im c)

second_in_range : (t : CarrierPllEkf) (p w : List Float) (n pr re im : Float) → Moves t p w Second re im
    → Within t.modulation Second (second_corrected t p w n pr re im).0.ekf.x
unfolding second_corrected
second_in_range t p w n pr re im c =
    let d = (band_corrected t p w Second re im).0 in
    subst (Within t.modulation Second) (sym (after_leaves (pair_or_lost d.answer) d.ekf d.p n pr)) (corrected_in_range t p w Second re im c)

by_second : (o : Correction) (t : CarrierPllEkf) (p w : List Float) (re im : Float) → (o ≡ Lost → ⊥) → Moves t p w Second re im
    → Within t.modulation Second (second_by (pair_or_lost o) t p w re im).0.ekf.x
by_second (Kept n pr) t p w re im kept c = second_in_range t p w n pr re im c
by_second Lost t p w re im kept c = absurd (kept refl)

dual_in_range : (t : CarrierPllEkf) (p w : List Float) (re1 im1 re2 im2 : Float) → NotLost (band_corrected t p w First re1 im1).0
    → Moves (band_corrected t p w First re1 im1).0.ekf (band_corrected t p w First re1 im1).0.p (band_corrected t p w First re1 im1).1 Second re2 im2
    → Within t.modulation Second (updated_dual t p w re1 im1 re2 im2).0.ekf.x
unfolding updated_dual
dual_in_range t p w re1 im1 re2 im2 kept c =
    let d = band_corrected t p w First re1 im1 in
    subst (λ (m : Modulation). Within m Second (second_by (pair_or_lost d.0.answer) d.0.ekf d.0.p d.1 re2 im2).0.ekf.x)
    (ap (λ (u : CarrierPllEkf). u.modulation) (corrected_keeps t p w First re1 im1).same)
    (by_second d.0.answer d.0.ekf d.0.p d.1 re2 im2 kept c)

-- ---- the statement
pub phase_in_range : PhaseInRange
phase_in_range = record { after_correction = corrected_in_range; after_update = updated_in_range; after_dual = dual_in_range }
