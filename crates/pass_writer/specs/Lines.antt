-- The lines of the list: names, one line for each block, a refusal, and a read that failed. Definitions only.
use Rattle.std.specs.Prelude.{cond, List, [], ◌∷◌, ◌++◌, ℕ}
use Rattle.pass_reader.specs.Bytes.{bytes, newline, space}
use Rattle.pass_writer.specs.Digits.{decimal_text, float_text}
use Rattle.pass_writer.specs.declared.lines.Shown.{Shown}

-- fields with a space between two of them, and a newline after the last
unfoldable pub line_of : List ℕ → List (List ℕ) → List ℕ
line_of f [] = f ++ (newline ∷ [])
line_of f (g ∷ r) = f ++ (space ∷ line_of g r)

abbrev pub names_text : List ℕ
names_text = bytes "block locked tracker fade phase frequency snr\n"

-- the line of a block; 1 stands for locked
unfoldable pub block_text : ℕ → Shown → List ℕ
block_text count a =
    line_of (decimal_text count)
    (decimal_text (cond a.locked 1 0) ∷ decimal_text a.tracker ∷ decimal_text a.fade ∷ float_text a.phase ∷ float_text a.frequency ∷ float_text a.snr ∷ [])

-- the line of a refusal: its line number and its refusal number
unfoldable pub refusal_text : ℕ → ℕ → List ℕ
refusal_text line number = line_of (bytes "refused") (decimal_text line ∷ decimal_text number ∷ [])

-- the last line where a read failed: the system's number of the error. No complete list has it
unfoldable pub failure_text : ℕ → List ℕ
failure_text error = line_of (bytes "failed") (decimal_text error ∷ [])
