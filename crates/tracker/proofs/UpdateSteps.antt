-- An update put together, from what the correction ensures and by its answer.
use mathlib.Core.Path.{◌≡◌, ap, sym, ◌∙◌}
use mathlib.Core.List.{List}
use lib.Ieee.{Float}
use Rattle.tracker_covariance.specs.declared.states.Band.TheVariants.{First}
use Rattle.tracker.specs.declared.state.CarrierPllEkf.{CarrierPllEkf}
use Rattle.tracker.specs.declared.state.Tracked.{Tracked}
use Rattle.tracker.specs.declared.correction.Correction.{Correction}
use Rattle.tracker.specs.declared.correction.Correction.TheVariants.{Kept, Lost}
use Rattle.tracker.specs.declared.correction.Corrected.{Corrected}
use Rattle.tracker.specs.Correction.{pair_or_lost, band_corrected}
use Rattle.tracker.specs.Lock.{settled}
use Rattle.tracker.specs.Update.{tracked, settled_by, second_by, updated, second_corrected, updated_dual}

-- a correction with the window that it left, and what each kind of update makes of it by its answer
abbrev Left : Type 0
Left = Corrected × List Float

abbrev one : Correction → Left → Tracked × List Float
one a d = (settled_by (pair_or_lost a) d.0.ekf d.0.p, d.1)

abbrev two : Float → Float → Correction → Left → Tracked × List Float
two re im a d = second_by (pair_or_lost a) d.0.ekf d.0.p d.1 re im

-- going by the answer of d, which is a, is going by that of what d equals
by_answer : (f : Correction → Left → Tracked × List Float) (d e : Left) (a : Correction) → d.0.answer ≡ a → d ≡ e → f a d ≡ f e.0.answer e
by_answer f d e a h k = ap (λ (b : Correction). f b d) (sym h) ∙ ap (λ (g : Left). f g.0.answer g) k

module _ (t : CarrierPllEkf) (p w : List Float) (d : Corrected) (w₁ : List Float) where
  pub update_lost : (re im : Float) → (d, w₁) ≡ band_corrected t p w First re im → d.answer ≡ Lost → (tracked d.ekf d.p, w₁) ≡ updated t p w re im
  unfolding updated
  update_lost re im h a = by_answer one (d, w₁) _ Lost a h

  pub update_kept : (re im n pr : Float) (u : CarrierPllEkf) → (d, w₁) ≡ band_corrected t p w First re im → d.answer ≡ Kept n pr → u ≡ settled d.ekf n pr
      → (tracked u d.p, w₁) ≡ updated t p w re im
  unfolding updated
  update_kept re im n pr u h a e = (λ j. (tracked (e j) d.p, w₁)) ∙ by_answer one (d, w₁) _ (Kept n pr) a h

  pub dual_lost : (re1 im1 re2 im2 : Float) → (d, w₁) ≡ band_corrected t p w First re1 im1 → d.answer ≡ Lost
      → (tracked d.ekf d.p, w₁) ≡ updated_dual t p w re1 im1 re2 im2
  unfolding updated_dual
  dual_lost re1 im1 re2 im2 h a = by_answer (two re2 im2) (d, w₁) _ Lost a h

  pub dual_kept : (re1 im1 re2 im2 n pr : Float) (r : Tracked × List Float) → (d, w₁) ≡ band_corrected t p w First re1 im1 → d.answer ≡ Kept n pr
      → r ≡ second_corrected d.ekf d.p w₁ n pr re2 im2 → r ≡ updated_dual t p w re1 im1 re2 im2
  unfolding updated_dual
  dual_kept re1 im1 re2 im2 n pr r h a e = e ∙ by_answer (two re2 im2) (d, w₁) _ (Kept n pr) a h
