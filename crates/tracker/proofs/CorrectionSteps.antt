-- The steps of a correction put together, from what each ensures.
use Prim.Native.Nat.{ℕ, ◌+◌}
use mathlib.Core.Path.{◌≡◌, refl, ap, sym, ◌∙◌}
use mathlib.Core.Bool.{Bool, true, false}
use mathlib.Core.List.{List}
use lib.ListN.{set}
use lib.Ieee.{Float, binary64, mul, neg, of_bits}
use Rattle.ieee754.specs.Order.{clamped}
use Rattle.tracker_covariance.specs.Matrix.{el}
use Rattle.tracker_covariance.specs.Initial.{initial_covariance}
use Rattle.tracker_covariance.specs.Correction.{innovation_variance, takes_gain, gain_of, corrected_state, corrected}
use Rattle.tracker_covariance.specs.declared.states.Band.{Band}
use Rattle.tracker_covariance.specs.States.{phase_of}
use Rattle.sequences.proofs.Choices.{cond_yes, cond_no}
use Rattle.tracker_measurement.specs.declared.modulation.Modulation.{Modulation}
use Rattle.tracker_measurement.specs.declared.measure.Prior.{Prior}
use Rattle.tracker_measurement.specs.declared.measure.Measured.{Measured}
use Rattle.tracker_measurement.specs.Measurement.{measured}
use Rattle.tracker_measurement.specs.Phase.{wrapped}
use Rattle.tracker_power_ratio.specs.PowerRatio.{ratio}
use Rattle.tracker.specs.declared.state.CarrierPllEkf.{CarrierPllEkf}
use Rattle.tracker.specs.declared.correction.Corrected.{Corrected}
use Rattle.tracker.specs.declared.correction.Correction.{Correction}
use Rattle.tracker.specs.declared.correction.Correction.TheVariants.{Kept, Lost}
use Rattle.tracker.specs.State.{with_state, with_envelope, lost_tracker}
use Rattle.tracker.specs.Correction.{max_freq, max_chirp, any_nan, wrapped_phase, limited, corrected_or_lost, gained, windowed, prior_of, band_corrected}

-- the limits as the compiler works them out
abbrev freq_bits : Float
freq_bits = of_bits binary64 0x4113_2cbd_0fba_43a7

abbrev chirp_bits : Float
chirp_bits = of_bits binary64 0x40b8_8b2f_704a_9409

freq_is : freq_bits ≡ max_freq
unfolding of_bits mul
freq_is = refl

chirp_is : chirp_bits ≡ max_chirp
unfolding of_bits mul
chirp_is = refl

-- i is the code's number of state j
pub limited_is : (x : List Float) (i j : ℕ) (f c : Float) → i ≡ j → f ≡ clamped (el x (i + 1)) (neg freq_bits) freq_bits
    → c ≡ clamped (el x (i + 2)) (neg chirp_bits) chirp_bits → set (set x (i + 1) f) (i + 2) c ≡ limited x j
unfolding limited
limited_is x i j f c e ef ec =
    (λ k. set (set x (i + 1) (ef k)) (i + 2) (ec k))
    ∙ (λ k.
    set (set x (i + 1) (clamped (el x (i + 1)) (neg (freq_is k)) (freq_is k))) (i + 2)
    (clamped (el x (i + 2)) (neg (chirp_is k)) (chirp_is k)))
    ∙ ap (limited x) e

pub phase_is : (x : List Float) (v : Float) (i j : ℕ) (m : Modulation) → i ≡ j → v ≡ wrapped m (el x i) → set x i v ≡ wrapped_phase x j m
unfolding wrapped_phase
phase_is x v i j m e ev = ap (set x i) ev ∙ ap (λ (n : ℕ). set x n (wrapped m (el x n))) e

-- what `end` answers, v being the state after the wrap and b whether it has a NaN
module _ (t : CarrierPllEkf) (p : List Float) (i : ℕ) (noise : Float) (k y v : List Float) (kept : Correction) (b : Bool) where
  pub corrected_lost : (u : CarrierPllEkf) (q : List Float) → v ≡ wrapped_phase y i t.modulation → b ≡ any_nan v → b ≡ true → u ≡ lost_tracker t → q ≡ initial_covariance
      → ◌≡◌ {A = Corrected} (record { ekf = u; p = q; answer = Lost }) (corrected_or_lost t p i noise k y kept)
  unfolding corrected_or_lost
  corrected_lost u q ev eb h eu eq =
      (λ j. record { ekf = eu j; p = eq j; answer = Lost }) ∙ sym (cond_yes _ _ (sym (eb ∙ ap any_nan ev) ∙ h))

  pub corrected_kept : (x q : List Float) → v ≡ wrapped_phase y i t.modulation → b ≡ any_nan v → b ≡ false → x ≡ limited v i → q ≡ corrected p i k noise
      → ◌≡◌ {A = Corrected} (record { ekf = with_state t x; p = q; answer = kept }) (corrected_or_lost t p i noise k y kept)
  unfolding corrected_or_lost
  corrected_kept x q ev eb h ex eq =
      (λ j. record { ekf = with_state t ((ex ∙ ap (λ (a : List Float). limited a i) ev) j); p = eq j; answer = kept })
      ∙ sym (cond_no _ _ (sym (eb ∙ ap any_nan ev) ∙ h))

module _ (t : CarrierPllEkf) (p : List Float) (i : ℕ) (m : Measured) (pr s : Float) (g : Bool) where
  abbrev Answered : Type 0
  Answered = (pr ≡ ratio t.power.sum_abs_i t.power.sum_q_sq) × (s ≡ innovation_variance p i m.r_effective) × (g ≡ takes_gain s)

  pub with_gain : (r : Corrected) (k y : List Float) → Answered → g ≡ true → k ≡ gain_of p i s
      → y ≡ corrected_state t.x k m.z → r ≡ corrected_or_lost t p i m.r_effective k y (Kept m.norm_re pr) → r ≡ gained t p i m
  unfolding gained
  with_gain r k y (h1, h2, h3) h4 h5 h6 h7 =
      let ek = h5 ∙ ap (gain_of p i) h2 in
      let ey = h6 ∙ ap (λ (a : List Float). corrected_state t.x a m.z) ek in
      h7
      ∙ (λ j. corrected_or_lost t p i m.r_effective (ek j) (ey j) (Kept m.norm_re (h1 j)))
      ∙ sym (cond_yes _ _ (sym (h3 ∙ ap takes_gain h2) ∙ h4))

-- all of it: v is what was known before the sample, m what the sample says, u and w₁ the tracker and the window with it in them
pub band_is : (t : CarrierPllEkf) (p w : List Float) (band : Band) (re im : Float) (v : Prior) (m : Measured) (u : CarrierPllEkf) (w₁ : List Float) (r : Corrected)
    → v ≡ prior_of t (phase_of band) → m ≡ measured v re im
    → (u, w₁) ≡ windowed band (with_envelope t m.envelope_ema) w m.abs_i m.q_sq → r ≡ gained u p (phase_of band) m
    → (r, w₁) ≡ band_corrected t p w band re im
unfolding band_corrected
band_is t p w band re im v m u w₁ r ev em ew er =
    let i = phase_of band in
    let em₁ = em ∙ ap (λ (a : Prior). measured a re im) ev in
    let ew₁ = ew ∙ ap (λ (n : Measured). windowed band (with_envelope t n.envelope_ema) w n.abs_i n.q_sq) em₁ in
    (λ j. (er j, w₁)) ∙ (λ j. (gained (ew₁ j).0 p i (em₁ j), (ew₁ j).1))
