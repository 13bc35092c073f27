-- Lines and fields of the pass text: one space parts fields, and every line ends with a newline. A line is the list of its bytes, its newline
-- with it, so a missing line is empty and a cut line has no newline. Definitions only.
use Rattle.std.specs.Prelude.{Bool, true, false, cond, ◌&&◌, List, [], ◌∷◌, ℕ, ◌-◌, eqb, length, take, get_or}
use Prim.Native.Char.{code}
use Prim.Native.String.{String, [] as empty, ◌∷◌ as ◌then◌}

-- a text as bytes: the codes of its characters
abbrev pub bytes : String → List ℕ
bytes empty = []
bytes (c then t) = code c ∷ bytes t

abbrev pub newline : ℕ
newline = code "\n"

abbrev pub space : ℕ
space = code " "

-- two lists of bytes are the same
unfoldable pub same : List ℕ → List ℕ → Bool
same [] [] = true
same [] (b ∷ s) = false
same (a ∷ r) [] = false
same (a ∷ r) (b ∷ s) = eqb a b && same r s

-- a byte in front of the first field
unfoldable pub onto : ℕ → List (List ℕ) → List (List ℕ)
onto b [] = []
onto b (f ∷ r) = (b ∷ f) ∷ r

-- the fields of a text: what stands between its spaces. Two spaces side by side have an empty field between them
unfoldable pub fields : List ℕ → List (List ℕ)
fields [] = [] ∷ []
fields (b ∷ r) = cond (eqb b space) ([] ∷ fields r) (onto b (fields r))

-- the last byte is a newline
unfoldable pub whole_line : List ℕ → Bool
whole_line line = eqb (get_or line (length line - 1) 0) newline

-- the fields of a line, before its newline; a line without one has none
unfoldable pub line_fields : List ℕ → List (List ℕ)
line_fields line = cond (whole_line line) (fields (take (length line - 1) line)) []
