-- Module 2: products of numbers below 2 ^ 64 of which the upper 64 bits are kept, and a polynomial by such products. Definitions only.
use Rattle.std.specs.Prelude.{ℕ, zero, suc, ◌+◌, ◌*◌, ◌/◌, ◌^◌, List, [], ◌∷◌}

-- the upper half of a two-word product
abbrev pub hi : ℕ → ℕ → ℕ
hi u v = u * v / 2 ^ 64

-- c₀ + w (c₁ + w (c₂ + ..)), w in units of 2 ^ -64
unfoldable pub horner : ℕ → List ℕ → ℕ
horner w [] = 0
horner w (c ∷ cs) = c + hi (horner w cs) w

-- the table f i, f (i + 1), .., of n entries
unfoldable pub tabulate : ℕ → ℕ → (ℕ → ℕ) → List ℕ
tabulate zero i f = []
tabulate (suc n) i f = f i ∷ tabulate n (suc i) f
