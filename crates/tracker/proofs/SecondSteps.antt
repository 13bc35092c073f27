-- The second channel's correction put together, from what its steps ensure. What follows it does not go by the numbers that it answers, so it may
-- answer those of the first.
use Prim.Native.Nat.{ℕ}
use mathlib.Core.Path.{◌≡◌, refl, sym, ap, ◌∙◌}
use mathlib.Core.Bool.{Bool, true, false, cond}
use mathlib.Core.List.{List}
use lib.Ieee.{Float}
use Rattle.tracker_covariance.specs.Initial.{initial_covariance}
use Rattle.tracker_covariance.specs.Correction.{innovation_variance, takes_gain, gain_of, corrected_state, corrected}
use Rattle.sequences.proofs.Choices.{cond_yes, cond_no}
use Rattle.tracker_measurement.specs.declared.measure.Measured.{Measured}
use Rattle.tracker_measurement.specs.Measurement.{measured}
use Rattle.tracker_power_ratio.specs.PowerRatio.{ratio}
use Rattle.tracker.specs.declared.state.CarrierPllEkf.{CarrierPllEkf}
use Rattle.tracker.specs.declared.state.Tracked.{Tracked}
use Rattle.tracker.specs.declared.correction.Correction.{Correction}
use Rattle.tracker.specs.declared.correction.Correction.TheVariants.{Kept, Lost}
use Rattle.tracker.specs.declared.correction.Corrected.{Corrected}
use Rattle.tracker.specs.State.{with_state, with_envelope, lost_tracker}
use Rattle.tracker.specs.Correction.{pair_or_lost, prior_of, any_nan, wrapped_phase, limited, corrected_or_lost, gained, band_corrected}
use Rattle.tracker.specs.Lock.{settled}
use Rattle.tracker.specs.Update.{tracked, settled_after, second_corrected}
use Rattle.tracker.specs.Code.Second.{moved, second_moved}

-- ---- with a gain and without, s being the innovation's variance and g whether a gain is taken
module _ (t : CarrierPllEkf) (p : List Float) (i : ℕ) (z noise : Float) (kept : Correction) (s : Float) (g : Bool) where
  pub moved_gain : (r : Corrected) (k y : List Float) → s ≡ innovation_variance p i noise → g ≡ takes_gain s → g ≡ true → k ≡ gain_of p i s
      → y ≡ corrected_state t.x k z → r ≡ corrected_or_lost t p i noise k y kept → r ≡ moved t p i z noise kept
  unfolding moved
  moved_gain r k y es eg h ek ey er =
      let fk = ek ∙ ap (gain_of p i) es in
      let fy = ey ∙ ap (λ (a : List Float). corrected_state t.x a z) fk in
      er ∙ (λ j. corrected_or_lost t p i noise (fk j) (fy j) kept) ∙ sym (cond_yes _ _ (sym (eg ∙ ap takes_gain es) ∙ h))

  pub moved_not : s ≡ innovation_variance p i noise → g ≡ takes_gain s → g ≡ false
      → ◌≡◌ {A = Corrected} (record { ekf = t; p = p; answer = kept }) (moved t p i z noise kept)
  unfolding moved
  moved_not es eg h = sym (cond_no _ _ (sym (eg ∙ ap takes_gain es) ∙ h))

-- ---- what follows, n and pr being the first channel's answer
abbrev after : Float → Float → Corrected → Tracked
after n pr d = settled_after (pair_or_lost d.answer) d.ekf d.p n pr

pub after_lost : (n pr : Float) (d : Corrected) → d.answer ≡ Lost → tracked d.ekf d.p ≡ after n pr d
after_lost n pr d h = ap (λ (a : Correction). settled_after (pair_or_lost a) d.ekf d.p n pr) (sym h)

pub after_kept : (n pr a b : Float) (d : Corrected) (u : CarrierPllEkf) → d.answer ≡ Kept a b → u ≡ settled d.ekf n pr → tracked u d.p ≡ after n pr d
after_kept n pr a b d u h e =
    (λ j. tracked (e j) d.p) ∙ ap (λ (c : Correction). settled_after (pair_or_lost c) d.ekf d.p n pr) (sym h)

-- ---- whatever pair is answered
module _ (n pr a b c e : Float) where
  corrected_alike : (t : CarrierPllEkf) (p : List Float) (i : ℕ) (noise : Float) (k y : List Float)
      → after n pr (corrected_or_lost t p i noise k y (Kept a b)) ≡ after n pr (corrected_or_lost t p i noise k y (Kept c e))
  unfolding corrected_or_lost
  corrected_alike t p i noise k y = go (any_nan v)
    where
      v : List Float
      v = wrapped_phase y i t.modulation

      left : Correction → Bool → Corrected
      left kept lost =
          cond lost (record { ekf = lost_tracker t; p = initial_covariance; answer = Lost })
          (record { ekf = with_state t (limited v i); p = corrected p i k noise; answer = kept })

      go : (lost : Bool) → after n pr (left (Kept a b) lost) ≡ after n pr (left (Kept c e) lost)
      go true = refl
      go false = refl

  moved_alike : (t : CarrierPllEkf) (p : List Float) (i : ℕ) (z noise : Float)
      → after n pr (moved t p i z noise (Kept a b)) ≡ after n pr (moved t p i z noise (Kept c e))
  unfolding moved
  moved_alike t p i z noise = go (takes_gain s)
    where
      s : Float
      s = innovation_variance p i noise

      k : List Float
      k = gain_of p i s

      y : List Float
      y = corrected_state t.x k z

      left : Correction → Bool → Corrected
      left kept g = cond g (corrected_or_lost t p i noise k y kept) (record { ekf = t; p = p; answer = kept })

      go : (g : Bool) → after n pr (left (Kept a b) g) ≡ after n pr (left (Kept c e) g)
      go true = corrected_alike t p i noise k y
      go false = refl

pub gained_moved : (t : CarrierPllEkf) (p : List Float) (i : ℕ) (m : Measured)
    → moved t p i m.z m.r_effective (Kept m.norm_re (ratio t.power.sum_abs_i t.power.sum_q_sq)) ≡ gained t p i m
unfolding gained moved
gained_moved t p i m = refl

-- all of it: d is the correction that answers the first channel's pair
pub second_is : (t : CarrierPllEkf) (p : List Float) (n pr re im : Float) (d : Corrected) (r : Tracked)
    → d ≡ second_moved t p n pr re im → r ≡ after n pr d → (w : List Float) → (r, w) ≡ second_corrected t p w n pr re im
unfolding second_corrected band_corrected second_moved
second_is t p n pr re im d r ed er w =
    let m = measured (prior_of t 3) re im in
    let u = with_envelope t m.envelope_ema in
    ap (λ (x : Tracked). (x, w))
    (er ∙ ap (after n pr) ed
    ∙ moved_alike n pr n pr m.norm_re (ratio u.power.sum_abs_i u.power.sum_q_sq) u p 3 m.z m.r_effective
    ∙ ap (after n pr) (gained_moved u p 3 m))
