-- Lines at the head of a lent buffer. Definitions only.
use Rattle.std.specs.Prelude.{cond, List, ◌++◌, ◌≡◌, ℕ, leb, length, drop}

-- a buffer with a text laid over its head
unfoldable pub laid : List ℕ → List ℕ → List ℕ
laid text old = text ++ drop (length text) old

-- no line is longer than this
abbrev pub longest : ℕ
longest = 135

-- A line written to the head of a buffer, and how many bytes it has. Where there is no room for the longest line, nothing is written.
unfoldable pub written : List ℕ → List ℕ → ℕ × List ℕ
written text old = cond (leb longest (length old)) (length text, laid text old) (0, old)

-- a text written where there is room, and how many bytes it has
pub record Wrote (text old : List ℕ) (count : ℕ) (new : List ℕ) : Type 0 where
  pub count_is : count ≡ length text
  pub new_is : new ≡ laid text old
