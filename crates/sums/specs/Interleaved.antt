-- Lists that hold complex numbers as re, im, re, im, ... Definitions only.
use Rattle.std.specs.Prelude.{List, [], ◌∷◌, ◌++◌, ℕ, zero, suc, ◌+◌, ◌*◌, get_or, Float}
use Rattle.std.specs.Float.{nan}
use Rattle.sums.specs.Complex.{Cx}

-- number p of a list, counted from 0
abbrev pub at : List Float → ℕ → Cx
at xs p = (get_or xs (2 * p) nan, get_or xs (2 * p + 1) nan)

-- the list of f 0, f 1, .. f (n - 1)
unfoldable pub table : ℕ → (ℕ → Cx) → List Float
table zero f = []
table (suc n) f = table n f ++ ((f n).0 ∷ (f n).1 ∷ [])
