-- What a turn owes: the list of the text, whatever follows the bytes that are held. Definitions only.
use Rattle.std.specs.Prelude.{◌≡◌, false, List, ◌++◌, ℕ, ◌≤◌, ◌<◌, length, take, replicate, Float}
use Rattle.ieee754.specs.Binary64 as float
use Rattle.pass_reader.specs.Code.Places.{longest_line}
use Rattle.pass_writer.specs.Code.Buffers.{longest}
use Rattle.pass_setup.specs.declared.pass.Pass.{Pass}
use Rattle.pass_setup.specs.Listing.{Run, list_of, list_after}
use Rattle.pass_setup.specs.Code.Buffers.{is_stopped}
use Rattle.pass_transfer.specs.Code.Standing.{onward, NoLine}
use Rattle.pass_transfer.specs.declared.Next.{Next}
use Rattle.pass_transfer.specs.declared.Next.TheVariants.{Read, Turn, Close, Refused, Ended, Failed}

-- the window memory before the first line
abbrev pub zeros : List Float
zeros = replicate 8192 float.zero

-- the held bytes are in their buffer, which has more room than the longest line of the form needs, and so has the list's buffer for its longest line
pub record Buffers (left : ℕ) (buf out : List ℕ) : Type 0 where
  pub held : left ≤ length buf
  pub text : longest_line < length buf
  pub list : longest ≤ length out

-- what is held and what is to be written are in their buffers
pub record Within (left at : ℕ) (buf out : List ℕ) : Type 0 where
  pub held : left ≤ length buf
  pub list : at ≤ length out

-- a run that has not stopped holds the beginning of a line that is too long for the form
pub record TooLong (p : Pass) (held : List ℕ) : Type 0 where
  pub going : is_stopped p.stage ≡ false
  pub plain : NoLine held
  pub long : longest_line < length held

-- Before the first byte: the list of any text is what is to be written, and what the text then adds.
abbrev pub Begun : Pass → List ℕ → Type 0
Begun p made = (text : List ℕ) → list_of text ≡ made ++ list_after (onward p zeros) text

-- At the end of the text: what is to be written is all that the held bytes add.
abbrev pub Finished : Pass → List ℕ → List ℕ → Type 0
Finished p held made = (w : List Float) → list_after (onward p w) held ≡ made

-- A turn: for every continuation `more`, the list of what is held and `more` is what is to be written, followed by the list of what is then held and
-- `more`; after a refusal nothing follows. A turn ends no text, and no read fails in it.
unfoldable pub Turned : Next → Run → List ℕ → List ℕ → Run → List ℕ → Type 0
Turned Read before held made after left = (more : List ℕ) → list_after before (held ++ more) ≡ made ++ list_after after (left ++ more)
Turned Turn before held made after left = (more : List ℕ) → list_after before (held ++ more) ≡ made ++ list_after after (left ++ more)
Turned Close before held made after left = ⊥
Turned Refused before held made after left = (more : List ℕ) → list_after before (held ++ more) ≡ made
Turned Ended before held made after left = ⊥
Turned Failed before held made after left = ⊥

-- Every turn gets on. Where it asks for more of the text, no line is left and the buffer has room; where it asks for another turn, fewer bytes are held.
unfoldable pub GetsOn : Next → ℕ → ℕ → List ℕ → Type 0
GetsOn Read was left buf = NoLine (take left buf) × (left < length buf)
GetsOn Turn was left buf = left < was
GetsOn Close was left buf = Unit {0}
GetsOn Refused was left buf = Unit {0}
GetsOn Ended was left buf = Unit {0}
GetsOn Failed was left buf = Unit {0}
