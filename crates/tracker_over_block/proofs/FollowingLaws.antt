-- What a sample and a block do to a tracker, put together from what the functions called ensure. Assumes nothing.
use mathlib.Core.Path.{◌≡◌, refl, ap, sym, ◌∙◌}
use mathlib.Core.Bool.{Bool, true, false, ◌||◌, true≢false}
use mathlib.Core.List.{List, [], ◌∷◌}
use mathlib.Core.Logic.{◌⊎◌, inl, inr}
use Prim.Native.Nat.{ℕ, ◌-◌, ◌<◌, ◌≤◌}
use native.Mathlib.Omega.{arith}
use lib.ListN.{length, get_or, take, drop, length-drop}
use lib.Seq.{take-length}
use lib.Ieee.{Float, nan}
use Rattle.std.specs.Prelude.{Option, Some, None, MatchOption}
use Rattle.sequences.specs.Folds.{fold}
use Rattle.sequences.specs.Pairs.{pairs, zip}
use Rattle.sequences.proofs.PairLaws.{fold_pairs_end, fold_both_end}
use Rattle.std.proofs.lemmas.Option.{MatchOption-at_none, MatchOption-at_some}
use Rattle.sequences.proofs.Choices.{cond_yes, cond_no}
use Rattle.tracker_model.specs.Following.{TrackerWindow, Sample, predicted, corrected, corrected_dual, stepped, follow, follow_dual, over_lists}
use Rattle.tracker_model.specs.Code.OneList.{followed}

-- what holds of the value of an option
pub each_some : {A : Type 0} (N : Type 0) (P Q : A → Type 0) (o : Option A) → ((a : A) → P a → Q a) → MatchOption o N P → MatchOption o N Q
each_some N P Q None f h = h
each_some N P Q (Some a) f h = f a h

-- by whether the tracker is locked, and whether it fades
module _ (fade : Bool) (dt : Float) (f : TrackerWindow → TrackerWindow) (h : TrackerWindow) where
  pub by_lock : {a r : TrackerWindow} → h.0.ekf.is_locked ≡ true → a ≡ predicted dt h → r ≡ f a → r ≡ stepped dt fade f h
  unfolding stepped
  by_lock k ea er = er ∙ ap f ea ∙ sym (cond_yes _ _ k)

  pub by_fade : {r : TrackerWindow} → h.0.ekf.is_locked ≡ false → fade ≡ true → r ≡ predicted h.0.ekf.tuning.ts h → r ≡ stepped dt fade f h
  unfolding stepped
  by_fade k e er = er ∙ sym (cond_yes _ _ e) ∙ sym (cond_no _ _ k)

  pub by_neither : h.0.ekf.is_locked ≡ false → fade ≡ false → h ≡ stepped dt fade f h
  unfolding stepped
  by_neither k e = sym (cond_no _ _ e) ∙ sym (cond_no _ _ k)

-- what a step makes of h, with a sample of one frequency or of each of two
module _ (dt : Float) (fade : Bool) (h : TrackerWindow) (first : Sample) where
  abbrev pub Followed : Option Sample → TrackerWindow → Type 0
  Followed o r = MatchOption o (r ≡ follow dt fade h first) (λ s. r ≡ follow_dual dt fade h (first, s))

  pub locked_is : (o : Option Sample) (a r : TrackerWindow) → h.0.ekf.is_locked ≡ true → a ≡ predicted dt h
      → MatchOption o (r ≡ corrected first a) (λ s. r ≡ corrected_dual (first, s) a) → Followed o r
  unfolding follow follow_dual
  locked_is None a r k ea er = by_lock fade dt (corrected first) h k ea er
  locked_is (Some s) a r k ea er = by_lock fade dt (corrected_dual (first, s)) h k ea er

  pub fading_is : (o : Option Sample) (r : TrackerWindow) → h.0.ekf.is_locked ≡ false → fade ≡ true → r ≡ predicted h.0.ekf.tuning.ts h → Followed o r
  unfolding follow follow_dual
  fading_is None r k e er = by_fade fade dt (corrected first) h k e er
  fading_is (Some s) r k e er = by_fade fade dt (corrected_dual (first, s)) h k e er

  pub still_is : (o : Option Sample) → h.0.ekf.is_locked ≡ false → fade ≡ false → Followed o h
  unfolding follow follow_dual
  still_is None k e = by_neither fade dt (corrected first) h k e
  still_is (Some s) k e = by_neither fade dt (corrected_dual (first, s)) h k e

-- a test that holds by its second part, and one that does not hold
pub second_of : (a b : Bool) → (a || b) ≡ true → a ≡ false → b ≡ true
second_of a b e h = ap (λ (z : Bool). z || b) (sym h) ∙ e

pub neither_of : (a b : Bool) → (a || b) ≡ false → (a ≡ false) × (b ≡ false)
neither_of true b e = absurd (true≢false e)
neither_of false b e = (refl, e)

-- ---- the samples of a list, from the first on

-- what is left behind the first two elements
behind : (l : List Float) → take (length l - 2) (drop 2 l) ≡ drop 2 l
behind l = ap (λ (n : ℕ). take n (drop 2 l)) (sym (length-drop 2 l)) ∙ take-length (drop 2 l)

first_of : (l : List Float) → 2 ≤ length l → pairs l ≡ (get_or l 0 nan, get_or l 1 nan) ∷ pairs (take (length l - 2) (drop 2 l))
unfolding pairs
first_of [] h = absurd (omega arith)
first_of (a ∷ []) h = absurd (omega arith)
first_of (a ∷ b ∷ r) h = ap (λ (l : List Float). (a, b) ∷ pairs l) (sym (behind (a ∷ b ∷ r)))

-- one more sample
pub followed_next : (dt : Float) (fade : Bool) (l : List Float) (h h₁ : TrackerWindow) → 2 ≤ length l → h₁ ≡ follow dt fade h (get_or l 0 nan, get_or l 1 nan)
    → followed dt fade (take (length l - 2) (drop 2 l)) h₁ ≡ followed dt fade l h
unfolding followed fold
followed_next dt fade l h h₁ p e =
    ap (λ (g : TrackerWindow). fold (follow dt fade) g (pairs (take (length l - 2) (drop 2 l)))) e ∙ ap (fold (follow dt fade) h) (sym (first_of l p))

-- o is the sample of the second list, if there is a second list, and b₁ what is left of that
module _ (dt : Float) (fade : Bool) (a b b₁ : List Float) (o : Option Sample) (h h₁ : TrackerWindow) (p : 2 ≤ length a) where
  abbrev here : Sample
  here = (get_or a 0 nan, get_or a 1 nan)

  abbrev left : List Float
  left = take (length a - 2) (drop 2 a)

  pub one_next : (two : Bool) → two ≡ false → b₁ ≡ b → o ≡ None → Followed dt fade h here o h₁
      → over_lists two dt fade left b₁ h₁ ≡ over_lists two dt fade a b h
  unfolding over_lists fold
  one_next true k eb eo e = absurd (true≢false k)
  one_next false k eb eo e =
      let e₁ = MatchOption-at_none (h₁ ≡ follow dt fade h here) (λ s. h₁ ≡ follow_dual dt fade h (here, s)) eo e in
      ap (λ (g : TrackerWindow). fold (follow dt fade) g (pairs left)) e₁ ∙ ap (fold (follow dt fade) h) (sym (first_of a p))

  pub both_next : (two : Bool) → two ≡ true → 2 ≤ length b → b₁ ≡ take (length b - 2) (drop 2 b) → o ≡ Some (get_or b 0 nan, get_or b 1 nan)
      → Followed dt fade h here o h₁ → over_lists two dt fade left b₁ h₁ ≡ over_lists two dt fade a b h
  unfolding over_lists fold zip
  both_next false k q eb eo e = absurd (true≢false (sym k))
  both_next true k q eb eo e =
      let e₁ = MatchOption-at_some (h₁ ≡ follow dt fade h here) (λ s. h₁ ≡ follow_dual dt fade h (here, s)) _ eo e in
      (λ j. fold (follow_dual dt fade) (e₁ j) (zip (pairs left) (pairs (eb j))))
      ∙ (λ j. fold (follow_dual dt fade) h (zip (sym (first_of a p) j) (sym (first_of b q) j)))

-- where no whole sample is left
pub over_end : (two : Bool) (dt : Float) (fade : Bool) (a b : List Float) (h : TrackerWindow) → (length a < 2) ⊎ ((two ≡ true) × (length b < 2))
    → over_lists two dt fade a b h ≡ h
unfolding over_lists
over_end false dt fade a b h (inl l) = fold_pairs_end a 0 (follow dt fade) h (omega arith)
over_end false dt fade a b h (inr (k, l)) = absurd (true≢false (sym k))
over_end true dt fade a b h (inl l) = fold_both_end a b 0 (follow_dual dt fade) h (inl (omega arith))
over_end true dt fade a b h (inr (k, l)) = fold_both_end a b 0 (follow_dual dt fade) h (inr (omega arith))

-- one frequency: what is said of the first list
pub of_one : (two : Bool) (dt : Float) (fade : Bool) (first left second : List Float) (h h₁ : TrackerWindow) → two ≡ false
    → followed dt fade left h₁ ≡ followed dt fade first h
    → over_lists two dt fade left second h₁ ≡ over_lists two dt fade first second h
unfolding over_lists followed
of_one two dt fade first left second h h₁ k e =
    ap (λ (b : Bool). over_lists b dt fade left second h₁) k ∙ e ∙ ap (λ (b : Bool). over_lists b dt fade first second h) (sym k)
