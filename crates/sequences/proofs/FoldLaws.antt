-- Loops that go from i to i + 1, and folds in general. Assumes nothing.
use mathlib.Core.Path.{◌≡◌, refl, sym, ◌∙◌}
use mathlib.Core.Bool.{Bool, true, false, ◌&&◌, and-true, and_assoc}
use mathlib.Core.List.{List, [], ◌∷◌, ◌++◌}
use Prim.Native.Nat.{ℕ, ◌+◌, ◌≤◌, ◌<◌}
use native.Mathlib.Numerals.{add-one}
use lib.ListN.{length, get_or, drop, drop_of_length-le}
use lib.Seq.{drop-cons}
use Rattle.sequences.specs.Folds.{fold, every}

-- a fold over a list in two parts
pub fold_append {ℓ ℓ'} : {S : Type ℓ} {A : Type ℓ'} (f : S → A → S) (s : S) (xs ys : List A) → fold f s (xs ++ ys) ≡ fold f (fold f s xs) ys
unfolding fold
fold_append f s [] ys = refl
fold_append f s (a ∷ xs) ys = fold_append f (f s a) xs ys

-- what each step keeps, the fold keeps
pub fold_keeps {ℓ ℓ' ℓ''} : {S : Type ℓ} {A : Type ℓ'} (P : S → Type ℓ'') (f : S → A → S) → ((s : S) (a : A) → P s → P (f s a)) → (s : S) (xs : List A) → P s → P (fold f s xs)
unfolding fold
fold_keeps P f keeps s [] p = p
fold_keeps P f keeps s (a ∷ xs) p = fold_keeps P f keeps (f s a) xs (keeps s a p)

-- what each step keeps of two states, the folds keep
pub fold_related {ℓ ℓ' ℓ'' ℓ'''} : {S : Type ℓ} {U : Type ℓ'} {A : Type ℓ''} (R : S → U → Type ℓ''') (f : S → A → S) (g : U → A → U) → ((s : S) (u : U) (a : A) → R s u → R (f s a) (g u a)) → (s : S) (u : U) (xs : List A) → R s u → R (fold f s xs) (fold g u xs)
unfolding fold
fold_related R f g keeps s u [] r = r
fold_related R f g keeps s u (a ∷ xs) r = fold_related R f g keeps (f s a) (g u a) xs (keeps s u a r)

module _ {ℓ} {A : Type ℓ} (xs : List A) (i : ℕ) where
  -- a loop that folds: one turn, and the end
  pub fold_next {ℓ'} : {S : Type ℓ'} (f : S → A → S) (d : A) {s s' : S} → i < length xs → s' ≡ f s (get_or xs i d) → fold f s' (drop (i + 1) xs) ≡ fold f s (drop i xs)
  unfolding fold
  fold_next f d {s} h e = rw (add-one, drop-cons xs i d, e)

  pub fold_end {ℓ'} : {S : Type ℓ'} (f : S → A → S) (s : S) → length xs ≤ i → fold f s (drop i xs) ≡ s
  unfolding fold
  fold_end f s h = rw (drop_of_length-le xs h)

  -- a loop that stops at the first element that fails a test
  every_step : (p : A → Bool) (d : A) → i < length xs → every p (drop i xs) ≡ (p (get_or xs i d) && every p (drop (i + 1) xs))
  unfolding every
  every_step p d h = rw (add-one, drop-cons xs i d)

  pub every_next : (p : A → Bool) (d : A) → i < length xs → p (get_or xs i d) ≡ true → every p (drop (i + 1) xs) ≡ every p (drop i xs)
  every_next p d h e = sym (every_step p d h ∙ rw e refl)

  pub every_stop : (p : A → Bool) (d : A) → i < length xs → p (get_or xs i d) ≡ false → every p (drop i xs) ≡ false
  every_stop p d h e = every_step p d h ∙ rw e refl

  pub every_end : (p : A → Bool) → length xs ≤ i → every p (drop i xs) ≡ true
  unfolding every
  every_end p h = rw (drop_of_length-le xs h)

  -- a loop that reads to the end and marks whether every element so far passed
  pub every_marked_next : (p : A → Bool) (d : A) (m : Bool) {m' : Bool} → i < length xs → m' ≡ (m && p (get_or xs i d)) → (m' && every p (drop (i + 1) xs)) ≡ (m && every p (drop i xs))
  every_marked_next p d m h e = rw (every_step p d h, e) (and_assoc m (p (get_or xs i d)) (every p (drop (i + 1) xs)))

  pub every_marked_end : (p : A → Bool) (m : Bool) → length xs ≤ i → (m && every p (drop i xs)) ≡ m
  every_marked_end p m h = rw (every_end p h) (and-true m)
