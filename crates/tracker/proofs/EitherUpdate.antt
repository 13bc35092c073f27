-- An update for one frequency or two, from the first channel's correction and by its answer.
use mathlib.Core.Path.{◌≡◌, sym, subst}
use mathlib.Core.List.{List}
use lib.Ieee.{Float}
use Rattle.std.specs.Prelude.{Option, Some, None, MatchOption}
use Rattle.tracker_covariance.specs.declared.states.Band.TheVariants.{First}
use Rattle.tracker.specs.declared.state.CarrierPllEkf.{CarrierPllEkf}
use Rattle.tracker.specs.declared.state.Tracked.{Tracked}
use Rattle.tracker.specs.declared.correction.Correction.TheVariants.{Kept, Lost}
use Rattle.tracker.specs.declared.correction.Corrected.{Corrected}
use Rattle.tracker.specs.Correction.{band_corrected}
use Rattle.tracker.specs.Lock.{settled}
use Rattle.tracker.specs.Update.{tracked, updated, second_corrected, updated_dual}
use Rattle.tracker.proofs.UpdateSteps.{update_lost, update_kept, dual_lost, dual_kept}

-- d is the correction and w₁ the window that it left
module _ (t : CarrierPllEkf) (p w : List Float) (re1 im1 : Float) (d : Corrected) (w₁ : List Float) (h : (d, w₁) ≡ band_corrected t p w First re1 im1) where
  abbrev Either : Tracked → Option (Float × Float) → Type 0
  Either r o = MatchOption o ((r, w₁) ≡ updated t p w re1 im1) (λ s. (r, w₁) ≡ updated_dual t p w re1 im1 s.0 s.1)

  pub lost_is : (o : Option (Float × Float)) → d.answer ≡ Lost → Either (tracked d.ekf d.p) o
  lost_is None a = update_lost t p w d w₁ re1 im1 h a
  lost_is (Some s) a = dual_lost t p w d w₁ re1 im1 s.0 s.1 h a

  pub two_is : (o : Option (Float × Float)) (s : Float × Float) (n pr : Float) (r : Tracked) → o ≡ Some s → d.answer ≡ Kept n pr
      → (r, w₁) ≡ second_corrected d.ekf d.p w₁ n pr s.0 s.1 → Either r o
  two_is o s n pr r q a e = subst (Either r) (sym q) (dual_kept t p w d w₁ re1 im1 s.0 s.1 n pr (r, w₁) h a e)

  pub one_is : (o : Option (Float × Float)) (n pr : Float) (u : CarrierPllEkf) → o ≡ None → d.answer ≡ Kept n pr → u ≡ settled d.ekf n pr → Either (tracked u d.p) o
  one_is o n pr u q a e = subst (Either (tracked u d.p)) (sym q) (update_kept t p w d w₁ re1 im1 n pr u h a e)
