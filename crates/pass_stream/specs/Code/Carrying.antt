-- The first line of a chunk, and what is carried over from one chunk to the next. Definitions only.
use Rattle.std.specs.Prelude.{cond, ◌&&◌, List, ◌++◌, ℕ, ◌+◌, ◌-◌, ltb, leb, length, take, drop}
use Rattle.pass_reader.specs.Bytes.{newline}
use Rattle.pass_reader.specs.Code.Places.{place}

-- how many bytes the first line has, its newline with them; 0 where no line ends
unfoldable pub line_length : List ℕ → ℕ
line_length s = cond (ltb (place newline s) (length s)) (place newline s + 1) 0

-- The bytes of a buffer from one place up to another, moved to its front, and how many they are. Where these are no two places of the
-- buffer in their order, nothing is moved.
unfoldable pub carried : ℕ → ℕ → List ℕ → ℕ × List ℕ
carried from to buf =
    cond (leb from to && leb to (length buf)) (to - from, take (to - from) (drop from buf) ++ drop (to - from) buf) (0, buf)
