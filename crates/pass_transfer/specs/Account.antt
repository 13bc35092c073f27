-- What a run of `passlist` answers for (the scope, "The pass text and its list"): the bytes that its writes took are the list of the bytes that its reads brought.
-- Definitions only.
use Rattle.std.specs.Prelude.{◌≡◌, Bool, true, false, List, ◌++◌, ℕ, ◌<◌, length, Option}
use Rattle.std.specs.Io.KnownBytes.{Appends, Consumes, IsAtEnd}
use Rattle.pass_writer.specs.Lines.{failure_text}
use Rattle.pass_setup.specs.Listing.{list_of}
use Rattle.pass_transfer.specs.declared.Next.{Next}
use Rattle.pass_transfer.specs.declared.Next.TheVariants.{Read, Turn, Close, Refused, Ended, Failed}
use Rattle.pass_transfer.specs.declared.Account.{Account}

-- a list begins with the bytes that are made of it
pub record Begins (made list : List ℕ) : Type 0 where
  pub rest : List ℕ
  pub list_is : list ≡ made ++ rest

-- so does the list of every text that begins with what was read
abbrev pub Front : List ℕ → List ℕ → Type 0
Front input made = (more : List ℕ) → Begins made (list_of (input ++ more))

-- a read failed: the line that says so stands behind what was made of the bytes before it
pub record Cut (error : ℕ) (input made : List ℕ) : Type 0 where
  pub front : List ℕ
  pub front_is : Front input front
  pub made_is : made ≡ front ++ failure_text error

-- What is made of the list, by what comes next. Where the text has ended, it is the list of what was read; where a line was refused, it is that whatever would
-- have followed.
unfoldable pub Listed : Next → ℕ → List ℕ → List ℕ → Type 0
Listed Ended error input made = list_of input ≡ made
Listed Refused error input made = (more : List ℕ) → list_of (input ++ more) ≡ made
Listed Failed error input made = Cut error input made
Listed Read error input made = Front input made
Listed Turn error input made = Front input made
Listed Close error input made = Front input made

-- `input` is what the reads brought, `output` what the writes took, `unsent` what a failed write left behind
pub record Accounted (a : Account) : Type 0 where
  pub input : List ℕ
  pub output : List ℕ
  pub unsent : List ℕ
  pub read_is : a.read ≡ length input
  pub written_is : a.written ≡ length output
  pub unsent_is : a.unsent ≡ length unsent
  pub list_is : Listed a.next a.error input (output ++ unsent)

-- Where it is known which bytes a reader has left and a writer holds, before and after: the bytes that were read are those that the reader has lost, the bytes that
-- were written are those that the writer has gained, and a text that has ended is all that the reader had.
pub record Carried (a : Account) (had left held holds : Option (List ℕ)) : Type 0 where
  pub account : Accounted a
  pub lost : Consumes had left account.input
  pub gained : Appends held holds account.output
  pub at_end : a.next ≡ Ended → IsAtEnd left

-- whether nothing comes next
abbrev pub is_last : Next → Bool
is_last Read = false
is_last Turn = false
is_last Close = false
is_last Refused = true
is_last Ended = true
is_last Failed = true

-- unless a write failed, or the turns were used up, all of the list is written
abbrev pub Completed : Account → Type 0
Completed a = a.stuck ≡ false → 0 < a.turns → (a.unsent ≡ 0) × (is_last a.next ≡ true)
