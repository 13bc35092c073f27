-- The difference of two polynomials, and what a polynomial can come to in size.
use mathlib.Core.List.{List, [], ◌∷◌}
use Prim.Native.Nat.{ℕ, zero, suc, ◌+◌, ◌-◌, ◌*◌, ◌^◌}
use Rattle.elementary_cells.specs.Polynomials.{Signed, at}

-- v * cs - w * bs
unfoldable pub difference : ℕ → ℕ → List Signed → List Signed → List Signed
difference v w [] [] = []
difference v w [] (b ∷ bs) = at (w * b.minus) (w * b.plus) ∷ difference v w [] bs
difference v w (c ∷ cs) [] = at (v * c.plus) (v * c.minus) ∷ difference v w cs []
difference v w (c ∷ cs) (b ∷ bs) = at (v * c.plus + w * b.minus) (v * c.minus + w * b.plus) ∷ difference v w cs bs

abbrev pub apart : ℕ → ℕ → ℕ
apart x y = x - y + (y - x)

-- what a polynomial of n coefficients can come to in size at an x of at most s / r, r ^ (n - 1) times
unfoldable pub norm : ℕ → ℕ → ℕ → List Signed → ℕ
norm r s zero cs = 0
norm r s (suc n) [] = 0
norm r s (suc n) (c ∷ cs) = apart c.plus c.minus * r ^ n + s * norm r s n cs
