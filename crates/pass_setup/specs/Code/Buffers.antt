-- The list in a lent buffer: what is added stands at its head. Definitions only.
use Rattle.std.specs.Prelude.{Bool, true, false, List, [], ◌∷◌, ◌++◌, ℕ, ◌+◌, leb, length, take, drop, Float}
use Rattle.pass_writer.specs.Code.Buffers.{longest, written}
use Rattle.pass_setup.specs.declared.pass.Stage.{Stage}
use Rattle.pass_setup.specs.declared.pass.Stage.TheVariants.{Names, Values, BlockNames, Blocks, Stopped}
use Rattle.pass_setup.specs.declared.pass.Pass.{Pass}
use Rattle.pass_setup.specs.declared.pass.Judged.{Judged}
use Rattle.pass_setup.specs.declared.pass.Ran.{Ran}
use Rattle.pass_setup.specs.Judging.{Judgement, judged}

-- a pass, how many bytes were added to the list, and the buffer at whose head they stand
pub record Printed : Type 0 where
  pub pass : Pass
  pub added : ℕ
  pub out : List ℕ

-- a judgement whose text is written
unfoldable pub printed : Judgement → List ℕ → Printed
printed j out = record { pass = j.pass; added = (written j.text out).0; out = (written j.text out).1 }

-- with the window memory
unfoldable pub printed_with : Judgement × List Float → List ℕ → Printed × List Float
printed_with j out = (printed j.0 out, j.1)

-- what a call returned and left in the buffer
unfoldable pub as_printed : Judged → List ℕ → Printed
as_printed r out = record { pass = r.pass; added = r.added; out = out }

-- how far a run over the bytes of a chunk has come: how many of them are used, the list that waits at the head of its buffer, and what the buffer has behind it
pub record ChunkRun : Type 0 where
  pub pass : Pass
  pub windows : List Float
  pub used : ℕ
  pub list : List ℕ
  pub behind : List ℕ

-- a judged line, and the bytes it had: what it adds goes behind what waits
unfoldable pub past : ChunkRun → ℕ → Judgement × List Float → ChunkRun
past g used j = record { pass = j.0.pass; windows = j.1; used = used; list = g.list ++ j.0.text; behind = drop (length j.0.text) g.behind }

unfoldable pub line_run : ChunkRun → List ℕ → ChunkRun
line_run g line = past g (g.used + length line) (judged g.pass.stage g.pass g.windows line)

-- whether the longest line of the list has room
unfoldable pub run_has_room : ChunkRun → Bool
run_has_room g = leb longest (length g.behind)

unfoldable pub only_if : Bool → ChunkRun → ChunkRun → ChunkRun
only_if true next g = next
only_if false next g = g

-- the lines of a chunk, one after the other, as long as there is room
unfoldable pub lines_run : List (List ℕ) → ChunkRun → ChunkRun
lines_run [] g = g
lines_run (line ∷ more) g = only_if (run_has_room g) (lines_run more (line_run g line)) g

-- what a call returned and left in the lent memories
unfoldable pub as_chunk_run : Ran → List Float → List ℕ → ChunkRun
as_chunk_run r windows out = record { pass = r.pass; windows = windows; used = r.used; list = take r.at out; behind = drop r.at out }

-- whether the run has ended
unfoldable pub is_stopped : Stage → Bool
is_stopped Names = false
is_stopped Values = false
is_stopped BlockNames = false
is_stopped Blocks = false
is_stopped Stopped = true
