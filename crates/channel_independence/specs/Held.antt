-- What a caller holds between two calls, what a list of calls leads to and answers, and when two calls are equal (the scope, module 9, "Demand 3 is one claim
-- about whole lists of calls"). Definitions only.
use Rattle.std.specs.Prelude.{◌≡◌, cond, List, length, eqb, Float}
use Rattle.std.proofs.Math.Option.{Option, none, some}
use Rattle.channel_model.specs.declared.Settings.{Settings}
use Rattle.channel_model.specs.declared.Answer.{Answer}
use Rattle.channel_model.specs.Calls.{Ask, Lend, Call, ask, lend, Reply, nothing, answered, shown, Interface}

-- A channel as its last call returned it, and what the last block call with window memory "at length 8,192", "refused or not", left in that
-- memory: none before the first such call. X is the type of channels.
pub record Held (X : Type 0) : Type 0 where
  pub channel : X
  pub left : Option (List Float)

-- a channel just opened with s, or the one that a refused open returns; it has had no block
unfoldable pub just_opened : {X : Type 0} → Interface X → Settings → Held X
just_opened m s = record { channel = (m.opens s).channel; left = none }

-- window memory as it was last left, after one more call
unfoldable pub left_after : {X : Type 0} → Interface X → Held X → Call → Option (List Float)
left_after m h (ask a) = h.left
left_after m h (lend l w) = cond (eqb (length w) 8192) (some (m.calls h.channel (lend l w)).memory.windows) h.left

-- "Each call gets the channel as the last one returned it"
unfoldable pub next : {X : Type 0} → Interface X → Held X → Call → Held X
next m h c = record { channel = (m.calls h.channel c).channel; left = left_after m h c }

-- "all answers to blocks", with all fields "from refusal number to metric"; what another call tells is not compared
unfoldable pub compared : Reply → Option Answer
compared nothing = none
compared (answered a) = some a
compared (shown l) = none

unfoldable pub answer : {X : Type 0} → Interface X → Held X → Call → Option Answer
answer m h c = compared (m.calls h.channel c).reply

-- "Equal calls are of one kind with equal arguments", bit for bit. "Of window memory only the length must be equal."
pub data Equal : Call → Call → Type 0 where
  asks : (a : Ask) → Equal (ask a) (ask a)
  lends : (l : Lend) (w v : List Float) → length w ≡ length v → Equal (lend l w) (lend l v)

-- The contents of window memory: "In the list of equal calls, at length 8,192, they are those left by that channel's last block call with that length,
-- refused or not, from either list; before the first such call they are any. Another length is refused in both."
unfoldable pub HandsBack : {X : Type 0} → Held X → Call → Type 0
HandsBack h (ask a) = Unit {0}
HandsBack h (lend l w) = length w ≡ 8192 → (m : List Float) → h.left ≡ some m → w ≡ m
