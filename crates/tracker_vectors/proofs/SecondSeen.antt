-- The code's correction by a sample of the second channel is the definition's, but for the pair that it answers. Assumes nothing.
use mathlib.Core.Path.{◌≡◌, refl, sym, ap, ◌∙◌}
use mathlib.Core.Bool.{Bool, true, false, cond}
use mathlib.Core.List.{List}
use Prim.Native.Nat.{ℕ}
use lib.Ieee.{Float}
use Rattle.ieee754.specs.Binary64.{zero}
use Rattle.tracker_covariance.specs.declared.states.Band.TheVariants.{Second}
use Rattle.tracker_covariance.specs.Initial.{initial_covariance}
use Rattle.tracker_covariance.specs.Correction.{innovation_variance, takes_gain, gain_of, corrected_state, corrected}
use Rattle.tracker_measurement.specs.declared.measure.Measured.{Measured}
use Rattle.tracker_measurement.specs.Measurement.{measured}
use Rattle.tracker_power_ratio.specs.PowerRatio.{ratio}
use Rattle.tracker.specs.declared.state.CarrierPllEkf.{CarrierPllEkf}
use Rattle.tracker.specs.declared.correction.Correction.{Correction}
use Rattle.tracker.specs.declared.correction.Correction.TheVariants.{Kept, Lost}
use Rattle.tracker.specs.declared.correction.Corrected.{Corrected}
use Rattle.tracker.specs.State.{with_state, with_envelope, lost_tracker}
use Rattle.tracker.specs.Correction.{prior_of, any_nan, wrapped_phase, limited, corrected_or_lost, gained, band_corrected}
use Rattle.tracker.specs.Code.Second.{moved, second_moved}
use Rattle.tracker_vectors.specs.Code.After.{is_kept}

-- all but the pair
abbrev pub Seen : Type 0
Seen = Bool × CarrierPllEkf × List Float

abbrev pub seen : Corrected → Seen
seen d = (is_kept d.answer, d.ekf, d.p)

module _ (a b c e : Float) where
  corrected_alike : (t : CarrierPllEkf) (p : List Float) (i : ℕ) (noise : Float) (k y : List Float)
      → seen (corrected_or_lost t p i noise k y (Kept a b)) ≡ seen (corrected_or_lost t p i noise k y (Kept c e))
  unfolding corrected_or_lost is_kept
  corrected_alike t p i noise k y = go (any_nan v)
    where
      v : List Float
      v = wrapped_phase y i t.modulation

      left : Correction → Bool → Corrected
      left kept lost =
          cond lost (record { ekf = lost_tracker t; p = initial_covariance; answer = Lost })
          (record { ekf = with_state t (limited v i); p = corrected p i k noise; answer = kept })

      go : (lost : Bool) → seen (left (Kept a b) lost) ≡ seen (left (Kept c e) lost)
      go true = refl
      go false = refl

  moved_alike : (t : CarrierPllEkf) (p : List Float) (i : ℕ) (z noise : Float) → seen (moved t p i z noise (Kept a b)) ≡ seen (moved t p i z noise (Kept c e))
  unfolding moved is_kept
  moved_alike t p i z noise = go (takes_gain s)
    where
      s : Float
      s = innovation_variance p i noise

      k : List Float
      k = gain_of p i s

      y : List Float
      y = corrected_state t.x k z

      left : Correction → Bool → Corrected
      left kept g = cond g (corrected_or_lost t p i noise k y kept) (record { ekf = t; p = p; answer = kept })

      go : (g : Bool) → seen (left (Kept a b) g) ≡ seen (left (Kept c e) g)
      go true = corrected_alike t p i noise k y
      go false = refl

gained_moved : (t : CarrierPllEkf) (p : List Float) (i : ℕ) (m : Measured)
    → moved t p i m.z m.r_effective (Kept m.norm_re (ratio t.power.sum_abs_i t.power.sum_q_sq)) ≡ gained t p i m
unfolding gained moved
gained_moved t p i m = refl

pub second_seen : (t : CarrierPllEkf) (p w : List Float) (re im a b : Float) → seen (second_moved t p a b re im) ≡ seen (band_corrected t p w Second re im).0
unfolding second_moved band_corrected
second_seen t p w re im a b =
    let m = measured (prior_of t 3) re im in
    let u = with_envelope t m.envelope_ema in
    moved_alike a b m.norm_re (ratio u.power.sum_abs_i u.power.sum_q_sq) u p 3 m.z m.r_effective
    ∙ ap seen (gained_moved u p 3 m)

-- each part, where no pair was given
module _ (t : CarrierPllEkf) (p w : List Float) (re im : Float) where
  pub second_kept : is_kept (band_corrected t p w Second re im).0.answer ≡ is_kept (second_moved t p zero zero re im).answer
  second_kept = sym (ap (λ (s : Seen). s.0) (second_seen t p w re im zero zero))

  pub second_ekf : (band_corrected t p w Second re im).0.ekf ≡ (second_moved t p zero zero re im).ekf
  second_ekf = sym (ap (λ (s : Seen). s.1) (second_seen t p w re im zero zero))

  pub second_p : (band_corrected t p w Second re im).0.p ≡ (second_moved t p zero zero re im).p
  second_p = sym (ap (λ (s : Seen). s.2) (second_seen t p w re im zero zero))

  pub second_window : (band_corrected t p w Second re im).1 ≡ w
  unfolding band_corrected
  second_window = refl
