-- The window of the latest 1,024 pairs (absolute I, Q squared) as a ring in 2,048 numbers, pair after pair (the scope, "What changes shape"). A count n
-- says both where the next pair goes and how many there are. Nothing is asked of n: the slot is a remainder. Definitions only.
use Rattle.std.specs.Prelude.{ℕ, ◌+◌, ◌*◌, ◌%◌, Bool, cond, List, ltb, leb, get_or, set, Float}
use Rattle.std.specs.Float.{nan}

-- the slot of the next pair; in a full ring it holds the oldest
abbrev pub slot : ℕ → ℕ
slot n = n % 1024

abbrev pub full : ℕ → Bool
full n = leb 1024 n

-- the count after one more pair: up to 2,047, and then from 1,024 on again
unfoldable pub later : ℕ → ℕ
later n = cond (ltb n 2047) (n + 1) 1024

-- the pair in slot k, and the memory with another pair there
abbrev pub abs_i_at : List Float → ℕ → Float
abs_i_at w k = get_or w (2 * k) nan

abbrev pub q_sq_at : List Float → ℕ → Float
q_sq_at w k = get_or w (2 * k + 1) nan

abbrev pub with_pair : List Float → ℕ → Float → Float → List Float
with_pair w k i q = set (set w (2 * k) i) (2 * k + 1) q
