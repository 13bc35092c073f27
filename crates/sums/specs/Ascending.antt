-- Sums by ascending index, as the scope orders them: every partial sum is rounded, so the order and the start are part of the meaning.
-- For any type and operation. Definitions only.
use Rattle.std.specs.Prelude.{ℕ, zero, suc, ◌+◌}

-- z + f 0 + f 1 + .. + f (n - 1), from the left
unfoldable pub sum_from {ℓ} : {A : Type ℓ} → (A → A → A) → A → (ℕ → A) → ℕ → A
sum_from op z f zero = z
sum_from op z f (suc n) = op (sum_from op z f n) (f n)

-- f 0 + f 1 + .. + f n, from the left: no zero stands in front
abbrev pub sum_to {ℓ} : {A : Type ℓ} → (A → A → A) → (ℕ → A) → ℕ → A
sum_to op f n = sum_from op (f 0) (λ j. f (j + 1)) n
