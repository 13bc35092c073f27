-- An interleaved list, as samples are lent: re, im, re, im, .. . An odd last element belongs to no pair. Definitions only.
use Rattle.std.specs.Prelude.{List, [], ◌∷◌}

-- the whole pairs
unfoldable pub pairs {ℓ} : {A : Type ℓ} → List A → List (A × A)
pairs [] = []
pairs (a ∷ []) = []
pairs (a ∷ b ∷ r) = (a, b) ∷ pairs r

-- f at each whole pair, in place; an odd last element stays
unfoldable pub map_pairs {ℓ} : {A : Type ℓ} → (A × A → A × A) → List A → List A
map_pairs f [] = []
map_pairs f (a ∷ []) = a ∷ []
map_pairs f (a ∷ b ∷ r) = (f (a, b)).0 ∷ (f (a, b)).1 ∷ map_pairs f r

-- the elements of two lists side by side, as far as both go
unfoldable pub zip {ℓ ℓ'} : {A : Type ℓ} {B : Type ℓ'} → List A → List B → List (A × B)
zip [] ys = []
zip (x ∷ xs) [] = []
zip (x ∷ xs) (y ∷ ys) = (x, y) ∷ zip xs ys
