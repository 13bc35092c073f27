-- Loops over an interleaved list that go from i to i + 2: what is left of the pairs, and a list that is changed in place. Assumes nothing.
use mathlib.Core.Path.{◌≡◌, refl, ap, ◌∙◌}
use mathlib.Core.Bool.{Bool, ◌||◌, or-false, or_assoc}
use mathlib.Core.List.{List, [], ◌∷◌, ◌++◌, append_assoc}
use mathlib.Core.Logic.{◌⊎◌, inl, inr}
use Prim.Native.Nat.{ℕ, suc, ◌+◌, ◌≤◌, ◌<◌}
use native.Mathlib.Numerals.{add-one}
use native.Mathlib.Omega.{arith}
use lib.ListN.{length, get_or, take, drop, set, length-set, length-drop, take-append-drop}
use lib.Seq.{drop-cons, take-suc-set, drop-set-lt}
use Rattle.sequences.specs.Pairs.{pairs, map_pairs, zip}
use Rattle.sequences.specs.Folds.{fold, some}

pairs_short {ℓ} : {A : Type ℓ} (l : List A) → length l ≤ 1 → pairs l ≡ []
unfolding pairs
pairs_short [] h = refl
pairs_short (a ∷ []) h = refl
pairs_short (a ∷ b ∷ r) h = absurd (omega arith)

map_pairs_short {ℓ} : {A : Type ℓ} (f : A × A → A × A) (l : List A) → length l ≤ 1 → map_pairs f l ≡ l
unfolding map_pairs
map_pairs_short f [] h = refl
map_pairs_short f (a ∷ []) h = refl
map_pairs_short f (a ∷ b ∷ r) h = absurd (omega arith)

-- nothing beside nothing
zip_none {ℓ ℓ' ℓ''} : {A : Type ℓ} {B : Type ℓ'} {S : Type ℓ''} (f : S → A × B → S) (s : S) (xs : List A) → fold f s (zip xs []) ≡ s
unfolding fold zip
zip_none f s [] = refl
zip_none f s (x ∷ xs) = refl

module _ {ℓ} {A : Type ℓ} (xs : List A) (i : ℕ) where
  -- what is left at i is the pair at i and what is left at i + 2
  pub pairs_next : (d : A) → i + 1 < length xs → pairs (drop i xs) ≡ (get_or xs i d, get_or xs (i + 1) d) ∷ pairs (drop (i + 2) xs)
  unfolding pairs
  pairs_next d h =
      let h0 : i < length xs = omega arith in
      let h1 : suc i < length xs = omega arith in
      let e : i + 2 ≡ suc (suc i) = omega arith in
      rw (add-one, e, drop-cons xs i d, drop-cons xs (suc i) d)

  pub pairs_end : length xs ≤ i + 1 → pairs (drop i xs) ≡ []
  pairs_end h = pairs_short (drop i xs) (simp length-drop (omega arith))

  -- a loop that folds the pairs: one turn, and the end
  pub fold_pairs_next {ℓ'} : {S : Type ℓ'} (f : S → A × A → S) (d : A) {s s' : S} → i + 1 < length xs → s' ≡ f s (get_or xs i d, get_or xs (i + 1) d)
      → fold f s' (pairs (drop (i + 2) xs)) ≡ fold f s (pairs (drop i xs))
  unfolding fold
  fold_pairs_next f d {s} h e = rw (pairs_next d h, e)

  pub fold_pairs_end {ℓ'} : {S : Type ℓ'} (f : S → A × A → S) (s : S) → length xs ≤ i + 1 → fold f s (pairs (drop i xs)) ≡ s
  unfolding fold
  fold_pairs_end f s h = rw (pairs_end h)

  -- a loop that looks for a pair that passes a test: m says whether one did so far
  pub some_pairs_next : (p : A × A → Bool) (d : A) (m : Bool) {m' : Bool} → i + 1 < length xs → m' ≡ (m || p (get_or xs i d, get_or xs (i + 1) d))
      → (m' || some p (pairs (drop (i + 2) xs))) ≡ (m || some p (pairs (drop i xs)))
  unfolding some
  some_pairs_next p d m h e = rw (pairs_next d h, e) (or_assoc m (p (get_or xs i d, get_or xs (i + 1) d)) (some p (pairs (drop (i + 2) xs))))

  pub some_pairs_end : (p : A × A → Bool) (m : Bool) → length xs ≤ i + 1 → (m || some p (pairs (drop i xs))) ≡ m
  unfolding some
  some_pairs_end p m h = rw (pairs_end h) (or-false m)

  -- a loop that replaces each pair in place: one turn, and the end
  pub map_pairs_next : (f : A × A → A × A) (d : A) {u v : A} → i + 1 < length xs → (u, v) ≡ f (get_or xs i d, get_or xs (i + 1) d)
      → take (i + 2) (set (set xs i u) (i + 1) v) ++ map_pairs f (drop (i + 2) (set (set xs i u) (i + 1) v)) ≡ take i xs ++ map_pairs f (drop i xs)
  unfolding map_pairs
  map_pairs_next f d {u} {v} h e =
      let h0 : i < length xs = omega arith in
      let h1 : suc i < length xs = omega arith in
      let h2 : suc i < length (set xs i u) = simp length-set (omega arith) in
      let lt1 : suc i < suc (suc i) = omega arith in
      let lt0 : i < suc (suc i) = omega arith in
      let two : i + 2 ≡ suc (suc i) = omega arith in
      let e' : (u, v) ≡ f (get_or xs i d, get_or xs (suc i) d) = rw add-one at e in
      rw (
        two,
        add-one,
        take-suc-set (set xs i u) (suc i) v h2,
        take-suc-set xs i u h0,
        drop-set-lt (suc (suc i)) (set xs i u) (suc i) v lt1,
        drop-set-lt (suc (suc i)) xs i u lt0,
        drop-cons xs i d h0,
        drop-cons xs (suc i) d h1,
        ← e',
        append_assoc,
        append_assoc,
      )

  pub map_pairs_end : (f : A × A → A × A) → length xs ≤ i + 1 → take i xs ++ map_pairs f (drop i xs) ≡ xs
  map_pairs_end f h = ap (λ (l : List A). take i xs ++ l) (map_pairs_short f (drop i xs) (simp length-drop (omega arith))) ∙ take-append-drop i xs

-- a loop that folds the pairs of two lists side by side, as far as both go: one turn, and the end where either has no pair left
module _ {ℓ} {A : Type ℓ} (xs ys : List A) (i : ℕ) where
  pub fold_both_next {ℓ'} : {S : Type ℓ'} (f : S → (A × A) × (A × A) → S) (d : A) {s s' : S} → i + 1 < length xs → i + 1 < length ys
      → s' ≡ f s ((get_or xs i d, get_or xs (i + 1) d), (get_or ys i d, get_or ys (i + 1) d))
      → fold f s' (zip (pairs (drop (i + 2) xs)) (pairs (drop (i + 2) ys))) ≡ fold f s (zip (pairs (drop i xs)) (pairs (drop i ys)))
  unfolding fold zip
  fold_both_next f d h h' e = rw (pairs_next xs i d h, pairs_next ys i d h', e)

  pub fold_both_end {ℓ'} : {S : Type ℓ'} (f : S → (A × A) × (A × A) → S) (s : S) → (length xs ≤ i + 1) ⊎ (length ys ≤ i + 1)
      → fold f s (zip (pairs (drop i xs)) (pairs (drop i ys))) ≡ s
  unfolding fold zip
  fold_both_end f s (inl h) = rw (pairs_end xs i h)
  fold_both_end f s (inr h) = rw (pairs_end ys i h) (zip_none f s (pairs (drop i xs)))

-- the same for two lists of one length
module _ {ℓ} {A : Type ℓ} (xs ys : List A) (same : length xs ≡ length ys) (i : ℕ) where
  pub fold_zip_next {ℓ'} : {S : Type ℓ'} (f : S → (A × A) × (A × A) → S) (d : A) {s s' : S} → i + 1 < length xs
      → s' ≡ f s ((get_or xs i d, get_or xs (i + 1) d), (get_or ys i d, get_or ys (i + 1) d))
      → fold f s' (zip (pairs (drop (i + 2) xs)) (pairs (drop (i + 2) ys))) ≡ fold f s (zip (pairs (drop i xs)) (pairs (drop i ys)))
  fold_zip_next f d h e = fold_both_next xs ys i f d h (omega arith) e

  pub fold_zip_end {ℓ'} : {S : Type ℓ'} (f : S → (A × A) × (A × A) → S) (s : S) → length xs ≤ i + 1 → fold f s (zip (pairs (drop i xs)) (pairs (drop i ys))) ≡ s
  fold_zip_end f s h = fold_both_end xs ys i f s (inl h)

-- where there is no whole pair, and where there is one
pub pairs_none {ℓ} : {A : Type ℓ} (xs : List A) → length xs < 2 → pairs xs ≡ []
pairs_none xs h = pairs_short xs (omega arith)

-- a list keeps its length under `map_pairs`
pub length_map_pairs {ℓ} : {A : Type ℓ} (f : A × A → A × A) (l : List A) → length (map_pairs f l) ≡ length l
unfolding map_pairs
length_map_pairs f [] = refl
length_map_pairs f (a ∷ []) = refl
length_map_pairs f (a ∷ b ∷ r) = ap (λ (n : ℕ). suc (suc n)) (length_map_pairs f r)
