-- A stretch of a memory: its n elements from the a-th on, lent as `&mut w[a..a + n]`. Definitions only.
use Rattle.std.specs.Prelude.{List, ◌++◌, ℕ, take, drop}

unfoldable pub stretch {ℓ} : {A : Type ℓ} → ℕ → ℕ → List A → List A
stretch a n w = take n (drop a w)

-- the memory with p in the stretch's place
unfoldable pub replaced {ℓ} : {A : Type ℓ} → ℕ → ℕ → List A → List A → List A
replaced a n w p = take a w ++ (p ++ drop n (drop a w))

-- what f does to a state and a stretch, done to the state and the whole memory
unfoldable pub within {ℓ ℓ'} : {S : Type ℓ} {A : Type ℓ'} → ℕ → ℕ → (S × List A → S × List A) → S × List A → S × List A
within a n f h = ((f (h.0, stretch a n h.1)).0, replaced a n h.1 (f (h.0, stretch a n h.1)).1)
