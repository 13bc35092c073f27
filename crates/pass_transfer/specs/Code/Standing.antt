-- Where the stream stands between two turns. Definitions only.
use Rattle.std.specs.Prelude.{◌≡◌, Bool, cond, true, false, ◌||◌, List, [], ◌++◌, ℕ, ◌+◌, ◌-◌, ◌≤◌, ◌<◌, min, eqb, ltb, length, take, drop, ℤ, pos, negsuc, Float, Result, Ok, Err, Option, Some, None, unwrap_or, option_map}
use Rattle.std.specs.Io.KnownBytes.{Keeps, Appends, Consumes, IsAtEnd}
use Rattle.std.specs.IoError.{error_kind, raw_os_error}
use Rattle.std.specs.declared.io.Error.{Error}
use Rattle.std.specs.declared.io.ErrorKind.{ErrorKind}
use Rattle.std.specs.declared.io.ErrorKind.TheVariants.{WouldBlock, Interrupted}
use Rattle.pass_reader.specs.Bytes.{newline}
use Rattle.pass_reader.specs.Code.Places.{place}
use Rattle.pass_writer.specs.Code.Buffers.{longest}
use Rattle.pass_setup.specs.declared.pass.Pass.{Pass}
use Rattle.pass_setup.specs.Listing.{Run, list_of, list_after}
use Rattle.pass_transfer.specs.declared.Next.{Next}
use Rattle.pass_transfer.specs.declared.Next.TheVariants.{Read, Turn, Close, Refused, Ended, Failed}
use Rattle.pass_transfer.specs.declared.State.{State}
use Rattle.pass_transfer.specs.declared.Account.{Account}
use Rattle.pass_transfer.specs.Account.{Listed, is_last}

-- a run that goes on, all of its list so far being written
abbrev pub onward : Pass → List Float → Run
onward p w = record { pass = p; windows = w; list = [] }

-- no line ends in these bytes
abbrev pub NoLine : List ℕ → Type 0
NoLine s = length s ≤ place newline s

-- what the answer of a read into so many bytes means: how many came, none at the end of the input, or a failure
unfoldable pub got_of : Result ℕ Error → ℕ → Result (Option ℕ) Error
got_of (Ok n) most = Ok (cond (eqb (min n most) 0) None (Some (min n most)))
got_of (Err e) most = Err e

-- bytes that came are at least one, and no more than there was room for
unfoldable pub Brought : Result (Option ℕ) Error → ℕ → Type 0
Brought (Ok (Some n)) most = (0 < n) × (n ≤ most)
Brought (Ok None) most = Unit {0}
Brought (Err e) most = Unit {0}

-- what a read that brought this did to the bytes that its reader has left: those that came are at the front of the part that was lent, and none came only at
-- the end of the input, or where there was no room
unfoldable pub Took : Result (Option ℕ) Error → Option (List ℕ) → Option (List ℕ) → List ℕ → Type 0
Took (Ok (Some n)) had left part = Consumes had left (take n part)
Took (Ok None) had left part = Keeps had left × (0 < length part → IsAtEnd left)
Took (Err e) had left part = Keeps had left

-- an error as the system numbers it; none is negative
abbrev pub error_of : ℤ → ℕ
error_of (pos n) = n
error_of (negsuc n) = 0

-- the number of a call's error: the system's, or else that of a call that would have to wait or that a signal came before, if it is of that kind
unfoldable pub kind_number : ErrorKind → ℕ
kind_number WouldBlock = 11
kind_number Interrupted = 4
kind_number kind = 0

unfoldable pub failure_of : Error → ℕ
failure_of e = unwrap_or (option_map error_of (raw_os_error e)) (kind_number (error_kind e))

-- whether a call that failed so is made again: EAGAIN, EINTR
unfoldable pub is_passing : ℕ → Bool
is_passing error = eqb error 11 || eqb error 4

-- whether the run is over: a write failed, or all is written and nothing comes next
abbrev pub is_over : State → Bool
is_over s = cond s.stuck true (cond (ltb s.from s.at) false (is_last s.next))

-- whether the bytes that are held are to be taken: all that was made is written, and no read is due
abbrev pub is_held : Next → Bool
is_held Read = false
is_held Turn = true
is_held Close = true
is_held Refused = false
is_held Ended = false
is_held Failed = false

abbrev pub is_due : State → Bool
is_due s = cond (ltb s.from s.at) false (is_held s.next)

-- the counts have room for another turn
abbrev pub Countable : State → Type 0
Countable s = (s.read + 262144 ≤ 0xffff_ffff_ffff_ffff) × (s.written + 262144 ≤ 0xffff_ffff_ffff_ffff)

-- a turn counts no more than the larger buffer
abbrev pub Counted : State → State → Type 0
Counted s r = (r.read ≤ s.read + 262144) × (r.written ≤ s.written + 262144)

-- What is made of the list, by what comes next: while the text is read, the list of any text that goes on from here is what is made and what the bytes that are
-- held and those to come add to it.
unfoldable pub Standing : Next → ℕ → List ℕ → List ℕ → Run → List ℕ → Type 0
Standing Read error input made r held = (more : List ℕ) → list_of (input ++ more) ≡ made ++ list_after r (held ++ more)
Standing Turn error input made r held = (more : List ℕ) → list_of (input ++ more) ≡ made ++ list_after r (held ++ more)
Standing Close error input made r held = (more : List ℕ) → list_of (input ++ more) ≡ made ++ list_after r (held ++ more)
Standing Refused error input made r held = Listed Refused error input made
Standing Ended error input made r held = Listed Ended error input made
Standing Failed error input made r held = Listed Failed error input made

-- where more of the text is asked for, no line is held, and there is room; where the text has ended, no line is held
unfoldable pub Ready : Next → ℕ → List ℕ → Type 0
Ready Read left buf = NoLine (take left buf) × (left < length buf)
Ready Turn left buf = Unit {0}
Ready Close left buf = NoLine (take left buf)
Ready Refused left buf = Unit {0}
Ready Ended left buf = Unit {0}
Ready Failed left buf = Unit {0}

-- what waits for a write
abbrev pub waits : State → List ℕ → List ℕ
waits s out = drop s.from (take s.at out)

-- the places are within the buffers, and what comes next can be done
pub record Placed (s : State) (buf out : List ℕ) : Type 0 where
  pub held : s.left ≤ length buf
  pub sent : s.from ≤ s.at
  pub within : s.at ≤ length out
  pub ready : Ready s.next s.left buf

-- so the stream stands: `input` was read, `output` was written, and the run g goes on
pub record Stands (s : State) (g : Run) (buf out : List ℕ) : Type 0 where
  pub input : List ℕ
  pub output : List ℕ
  pub read_is : s.read ≡ length input
  pub written_is : s.written ≡ length output
  pub placed : Placed s buf out
  pub list_is : Standing s.next s.error input (output ++ waits s out) g (take s.left buf)

-- where the text has ended, its reader is at its end
unfoldable pub AtEnd : Next → Option (List ℕ) → Type 0
AtEnd Read left = Unit {0}
AtEnd Turn left = Unit {0}
AtEnd Close left = IsAtEnd left
AtEnd Refused left = Unit {0}
AtEnd Ended left = IsAtEnd left
AtEnd Failed left = Unit {0}

-- the stream stands, and its reader and its writer, as far as their bytes are known, have lost what was read and gained what was written
pub record Moves (s : State) (g : Run) (buf out : List ℕ) (had left held holds : Option (List ℕ)) : Type 0 where
  pub stands : Stands s g buf out
  pub lost : Consumes had left stands.input
  pub gained : Appends held holds stands.output
  pub ends : AtEnd s.next left

-- the stream asks for more of the text: all that was made is written, and no line is held
pub record Asking (s : State) (buf out : List ℕ) : Type 0 where
  pub next_is : s.next ≡ Read
  pub sent : s.from ≡ s.at
  pub held : s.left < length buf
  pub plain : NoLine (take s.left buf)
  pub list : longest ≤ length out

-- WHAT A TURN CHANGES

-- so many of the bytes that wait are written
abbrev pub with_written : State → ℕ → State
with_written s n = record { left = s.left; from = s.from + n; at = s.at; next = s.next; error = s.error; stuck = s.stuck; read = s.read; written = s.written + n }

-- a write failed
abbrev pub given_up : State → State
given_up s = record { left = s.left; from = s.from; at = s.at; next = s.next; error = s.error; stuck = true; read = s.read; written = s.written }

-- so many bytes came, behind those that are held
abbrev pub with_more : State → ℕ → State
with_more s n = record { left = s.left + n; from = s.from; at = s.at; next = Turn; error = s.error; stuck = s.stuck; read = s.read + n; written = s.written }

-- the text has ended
abbrev pub with_end : State → State
with_end s = record { left = s.left; from = s.from; at = s.at; next = Close; error = s.error; stuck = s.stuck; read = s.read; written = s.written }

-- the list's last bytes wait
abbrev pub with_last : State → ℕ → Next → ℕ → State
with_last s at next error = record { left = 0; from = 0; at = at; next = next; error = error; stuck = s.stuck; read = s.read; written = s.written }

abbrev pub account_of : State → ℕ → Account
account_of s turns = record { read = s.read; written = s.written; unsent = s.at - s.from; next = s.next; error = s.error; stuck = s.stuck; turns = turns }
