-- The calls of a channel (the scope, module 9): what each brings, what it is refused for and what it gives back. They are parted by what is lent, so that what
-- is said of lent memory speaks of two kinds, however many calls there are: a new kind of call is a constructor of Ask or of Lend, with a clause in each
-- of the definitions below that go by it. Definitions only.
use Rattle.std.specs.Prelude.{ℕ, List, [], length, Float}
use Rattle.channel_model.specs.declared.Settings.{Settings}
use Rattle.channel_model.specs.declared.Carriers.{Carriers}
use Rattle.channel_model.specs.declared.Channel.{Channel}
use Rattle.channel_model.specs.declared.Answer.{Answer}
use Rattle.channel_model.specs.Opening.{opened}
use Rattle.channel_model.specs.Assigning.{assign_refusal, assigned}
use Rattle.channel_model.specs.Releasing.{released}
use Rattle.channel_model.specs.Figures as twelve
use Rattle.channel_model.specs.Answers.{refused_answer}
use Rattle.channel_model.specs.Refusals.{BlockArgs, block_refusal}
use Rattle.channel_model.specs.Blocks.{Outcome, blocked}

-- ---- what a call brings

-- a call that is lent no memory
pub data Ask : Type 0 where
  assign : Carriers → Ask
  release : Ask
  figures : Ask

-- a call that is lent window memory, with all else that it brings: a block its flag and its two "sample lists as they stand at entry"
pub data Lend : Type 0 where
  block : BlockArgs → Lend

-- A call, with all that it brings but the channel. A refused call is a call like any other.
pub data Call : Type 0 where
  ask : Ask → Call
  lend : Lend → List Float → Call

-- the memory that is lent to a call: the two lists and the window memory
pub record Memory : Type 0 where
  pub first : List Float
  pub second : List Float
  pub windows : List Float

unfoldable pub no_memory : Memory
no_memory = record { first = []; second = []; windows = [] }

-- as it stands at entry
unfoldable pub memory_of : Call → Memory
memory_of (ask a) = no_memory
memory_of (lend (block b) w) = record { first = b.first; second = b.second; windows = w }

-- ---- what a call gives back

-- what it tells besides its refusal number: a block its answer, figures twelve numbers, the others nothing
pub data Reply : Type 0 where
  nothing : Reply
  answered : Answer → Reply
  shown : List Float → Reply

-- "refusal number (0 if accepted)", the channel, what it tells, and what then stands in the lent memory. X is the type of channels.
pub record Result (X : Type 0) : Type 0 where
  pub refusal : ℕ
  pub channel : X
  pub reply : Reply
  pub memory : Memory

-- of a call that is lent no memory
abbrev pub told : {X : Type 0} → ℕ → X → Reply → Result X
told n x r = record { refusal = n; channel = x; reply = r; memory = no_memory }

-- of a block, from its outcome
abbrev pub replied : {X : Type 0} → Outcome X → Result X
replied o =
    let m : Memory = record { first = o.first; second = o.second; windows = o.windows } in
    record { refusal = o.answer.refusal; channel = o.channel; reply = answered o.answer; memory = m }

-- open and the calls, on channels of a type X
pub record Interface (X : Type 0) : Type 0 where
  pub opens : Settings → Result X
  pub calls : X → Call → Result X

-- ---- the channel's own

-- figures gives back the channel as it was
unfoldable pub called : Channel → Call → Result Channel
called c (ask (assign a)) = told (assigned c a).refusal (assigned c a).channel nothing
called c (ask release) = told 0 (released c) nothing
called c (ask figures) = told 0 c (shown (twelve.figures c))
called c (lend (block b) w) = replied (blocked c b w)

unfoldable pub model : Interface Channel
model = record { opens = λ s. told (opened s).refusal (opened s).channel nothing; calls = called }

-- ---- what a call is refused for

-- the number of the first cause in the scope's table, 0 where there is none. "Release and figures are never refused."
unfoldable pub refusal_of : Channel → Call → ℕ
refusal_of c (ask (assign a)) = assign_refusal a c.status
refusal_of c (ask release) = 0
refusal_of c (ask figures) = 0
refusal_of c (lend (block b) w) = block_refusal c.setup.two b (length w)

-- what a call tells that is refused with this number: a block "other fields 0, tracker 3"
unfoldable pub refused_reply : ℕ → Call → Reply
refused_reply n (ask a) = nothing
refused_reply n (lend (block b) w) = answered (refused_answer n)
