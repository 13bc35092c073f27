-- The search for a byte, and how long a line can be. Definitions only.
use Rattle.std.specs.Prelude.{cond, List, [], ◌∷◌, ℕ, suc, eqb}

-- how many bytes stand before the first b; all of them where there is none
unfoldable pub place : ℕ → List ℕ → ℕ
place b [] = 0
place b (c ∷ r) = cond (eqb c b) 0 (suc (place b r))

-- the longest line of the form, a block's: 12 digits, a space, 2,048 pairs of 16 digits, a newline
abbrev pub longest_line : ℕ
longest_line = 32782
