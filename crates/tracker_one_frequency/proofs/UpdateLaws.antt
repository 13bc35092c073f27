-- An update that is made, put together from what its steps ensure. Assumes nothing.
use mathlib.Core.Path.{◌≡◌, refl, ap, sym, ◌∙◌}
use mathlib.Core.Bool.{Bool, true, false}
use mathlib.Core.List.{List}
use lib.Ieee.{Float}
use Rattle.tracker_covariance.specs.declared.states.Band.TheVariants.{First}
use Rattle.tracker_covariance.specs.Correction.{innovation_variance, takes_gain, gain_of, corrected_state, corrected}
use Rattle.tracker_measurement.specs.declared.measure.Prior.{Prior}
use Rattle.tracker_measurement.specs.declared.measure.Measured.{Measured}
use Rattle.tracker_measurement.specs.Measurement.{measured}
use Rattle.tracker_power_ratio.specs.PowerRatio.{ratio}
use Rattle.tracker.specs.declared.state.CarrierPllEkf.{CarrierPllEkf}
use Rattle.tracker.specs.declared.correction.Corrected.{Corrected}
use Rattle.tracker.specs.declared.correction.Correction.TheVariants.{Kept}
use Rattle.tracker.specs.State.{with_state, with_envelope}
use Rattle.tracker.specs.Correction.{prior_of, any_nan, wrapped_phase, limited, windowed, band_corrected, gained}
use Rattle.tracker.specs.Lock.{settled}
use Rattle.tracker.specs.Update.{tracked, updated}
use Rattle.tracker.proofs.CorrectionSteps.{corrected_kept, with_gain, band_is}
use Rattle.tracker.proofs.UpdateSteps.{update_kept}

-- the window takes a pair in and leaves the states
states_stay : (t u : CarrierPllEkf) (w w₁ : List Float) (i q : Float) → (u, w₁) ≡ windowed First t w i q → u.x ≡ t.x
states_stay t u w w₁ i q e = ap (λ (s : CarrierPllEkf × List Float). s.0.x) e

modulation_stays : (t u : CarrierPllEkf) (w w₁ : List Float) (i q : Float) → (u, w₁) ≡ windowed First t w i q → u.modulation ≡ t.modulation
modulation_stays t u w w₁ i q e = ap (λ (s : CarrierPllEkf × List Float). s.0.modulation) e

-- m is what the sample says, u and w₁ the tracker and the window with it in them, k the gain, v the states moved by it and q the covariance
pub made : (t : CarrierPllEkf) (p w : List Float) (re im : Float) (prior : Prior) (m : Measured) (u : CarrierPllEkf) (w₁ k v q : List Float) (b : Bool) (e : CarrierPllEkf)
    → prior ≡ prior_of t 0 → m ≡ measured prior re im
    → (u, w₁) ≡ windowed First (with_envelope t m.envelope_ema) w m.abs_i m.q_sq
    → takes_gain (innovation_variance p 0 m.r_effective) ≡ true → k ≡ gain_of p 0 (innovation_variance p 0 m.r_effective)
    → v ≡ wrapped_phase (corrected_state t.x k m.z) 0 t.modulation → b ≡ any_nan v → b ≡ false
    → q ≡ corrected p 0 k m.r_effective
    → e ≡ settled (with_state u (limited v 0)) m.norm_re (ratio u.power.sum_abs_i u.power.sum_q_sq)
    → (tracked e q, w₁) ≡ updated t p w re im
made t p w re im prior m u w₁ k v q b e ep em eu eg ek ev eb hb eq ee =
    let t₁ = with_envelope t m.envelope_ema in
    let ex : u.x ≡ t.x = states_stay t₁ u w w₁ m.abs_i m.q_sq eu in
    let eo : u.modulation ≡ t.modulation = modulation_stays t₁ u w w₁ m.abs_i m.q_sq eu in
    let y = corrected_state u.x k m.z in
    let ev₁ : v ≡ wrapped_phase y 0 u.modulation = ev ∙ (λ j. wrapped_phase (corrected_state (sym ex j) k m.z) 0 (sym eo j)) in
    let pr = ratio u.power.sum_abs_i u.power.sum_q_sq in
    let kept = Kept m.norm_re pr in
    let r : Corrected = record { ekf = with_state u (limited v 0); p = q; answer = kept } in
    let s = innovation_variance p 0 m.r_effective in
    let er = corrected_kept u p 0 m.r_effective k y v kept b (limited v 0) q ev₁ eb hb refl eq in
    let eg₁ : r ≡ gained u p 0 m = with_gain u p 0 m pr s true r k y (refl, refl, sym eg) refl ek refl er in
    let ec : (r, w₁) ≡ band_corrected t p w First re im = band_is t p w First re im prior m u w₁ r ep em eu eg₁ in
    update_kept t p w r w₁ re im m.norm_re pr e ec refl ee
