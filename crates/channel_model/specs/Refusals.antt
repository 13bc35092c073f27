-- Refusals (the scope, "Causes of refusal": "Checked in the order of their numbers"), and those of a block, 7 to 12, each over both lists. Definitions only.
use Rattle.std.specs.Prelude.{ℕ, ◌%◌, Bool, cond, not, ◌&&◌, ◌||◌, List, [], ◌∷◌, ltb, eqb, length, Float}
use Rattle.channel_samples.specs.Limits.{all_in_range}

-- the number of the first cause that holds, 0 where none does
unfoldable pub first_cause : List (ℕ × Bool) → ℕ
first_cause [] = 0
first_cause ((number, holds) ∷ rest) = cond holds number (first_cause rest)

-- what a block call brings besides the window memory: the flag and the two lists, as they stand at entry
pub record BlockArgs : Type 0 where
  pub flag : ℕ
  pub first : List Float
  pub second : List Float

-- 8: "a list of odd length or over 4,096 pairs"
unfoldable pub bad_length : ℕ → Bool
bad_length n = eqb (n % 2) 1 || ltb 8192 n

-- with the length of the window memory. 10: "second list unlike the first in length (two frequencies), or not empty (one)"
unfoldable pub block_refusal : Bool → BlockArgs → ℕ → ℕ
block_refusal two b size =
    first_cause
    ((7, ltb 4 b.flag)
    ∷ (8, bad_length (length b.first) || bad_length (length b.second))
    ∷ (9, ltb 1 b.flag && ltb 0 (length b.first))
    ∷ (10, not (eqb (length b.second) (cond two (length b.first) 0)))
    ∷ (11, not (all_in_range b.first && all_in_range b.second))
    ∷ (12, not (eqb size 8192))
    ∷ [])
