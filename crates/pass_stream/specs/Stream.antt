-- The lines of a stream of bytes. Definitions only.
use Rattle.std.specs.Prelude.{cond, List, [], ◌∷◌, ℕ, eqb, length}
use Rattle.pass_reader.specs.Bytes.{newline, onto}

-- the lines of a text, each with its newline; bytes after the last newline are in none
unfoldable pub lines : List ℕ → List (List ℕ)
lines [] = []
lines (b ∷ r) = cond (eqb b newline) ((b ∷ []) ∷ lines r) (onto b (lines r))

-- what stands after the last newline: all of a text in which no line ends
unfoldable pub rest : List ℕ → List ℕ
rest [] = []
rest (b ∷ r) = cond (eqb (length (lines (b ∷ r))) 0) (b ∷ r) (rest r)
