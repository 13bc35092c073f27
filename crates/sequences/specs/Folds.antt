-- What a loop makes of a list, from its first element to its last. Definitions only.
use Rattle.std.specs.Prelude.{List, [], ◌∷◌, Bool, true, false, ◌&&◌, ◌||◌}

-- f at each element, from the state s on
unfoldable pub fold {ℓ ℓ'} : {S : Type ℓ} {A : Type ℓ'} → (S → A → S) → S → List A → S
fold f s [] = s
fold f s (a ∷ r) = fold f (f s a) r

-- every element passes the test
unfoldable pub every {ℓ} : {A : Type ℓ} → (A → Bool) → List A → Bool
every p [] = true
every p (a ∷ r) = p a && every p r

-- some element passes the test
unfoldable pub some {ℓ} : {A : Type ℓ} → (A → Bool) → List A → Bool
some p [] = false
some p (a ∷ r) = p a || some p r
