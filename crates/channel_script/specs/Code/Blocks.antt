-- A block of a script: its lists, the call, and what it leaves. Definitions only.
use Rattle.std.specs.Prelude.{Bool, true, false, cond, ltb, List, [], ◌∷◌, ◌++◌, ℕ, ◌+◌, ◌*◌, ◌%◌, ◌^◌, get_or, take, drop, replicate, Float}
use Rattle.std.specs.Float.Ieee.{neg, ne}
use Rattle.ieee754.specs.Binary32.{zero, one, half}
use Rattle.sequences.specs.Folds.{some}
use Rattle.tracker_covariance.specs.Matrix.{list_from}
use Rattle.channel_model.specs.declared.Channel.{Channel}
use Rattle.channel_model.specs.Blocks.{Outcome, blocked}
use Rattle.channel_script.specs.declared.block.Left.{Left}
use Rattle.channel_script.specs.declared.session.Lists.{Lists}
use Rattle.channel_script.specs.declared.session.Seen.{Seen}
use Rattle.channel_script.specs.Code.Looking.{nothing, count}

-- ---- the lists that a letter stands for

-- "0 to 4 a block without samples of that flag"
abbrev pub no_lists : ℕ → Lists
no_lists flag =
    record {
      flag = flag;
      first = 0;
      second = 0;
      windows = 8192;
      re = half;
      im = half;
      other = half;
      fill = half;
      jumps = false;
    }

-- one sample
abbrev pub sample : ℕ → Float → Float → Lists
sample flag re im = record (no_lists flag) { first = 2; re = re; im = im }

-- "4,096 samples that jump about"
abbrev pub shaken : Lists
shaken = record (no_lists 1) { first = 8192; jumps = true }

-- "a sample for each of two frequencies, (1, 0) and (0, 1)"
abbrev pub doubled : ℕ → Lists
doubled flag = record (sample flag one zero) { second = 2; other = zero; fill = one }

-- ---- the memory that is lent: 8,194 numbers for each list and 8,193 for the windows, of which the call gets as many as it asks for

-- 4,096 samples, at quarter turns 0, 1, 3, 2, 2, 3, 1, 0 and again, and two zeros
abbrev pub turns : List Float
turns =
    one ∷ zero ∷ zero ∷ one ∷ zero ∷ neg one ∷ neg one ∷ zero ∷ neg one ∷ zero ∷ zero ∷ neg one ∷ zero ∷ one ∷ one ∷ zero ∷ []

abbrev pub jump : ℕ → Float
jump k = cond (ltb k 8192) (get_or turns (k % 16) nothing) zero

unfoldable pub jumps : List Float
jumps = list_from 8194 0 jump

-- the first list begins with its sample, the second with its first number
unfoldable pub first_memory : Lists → List Float
first_memory l = cond l.jumps jumps (l.re ∷ l.im ∷ replicate 8192 l.fill)

unfoldable pub second_memory : Lists → List Float
second_memory l = l.other ∷ replicate 8193 l.fill

-- sevens
abbrev pub seven : Float
seven = count 7

abbrev pub window_memory : List Float
window_memory = replicate 8193 seven

-- ---- the call

-- a block call with as much of three memories as is asked for, and the whole memories as it leaves them
unfoldable pub lent_block : Channel → Lists → List Float → List Float → List Float → Outcome Channel
lent_block c l first second windows =
    let o = blocked c (record { flag = l.flag; first = take l.first first; second = take l.second second }) (take l.windows windows) in
    record {
      answer = o.answer;
      channel = o.channel;
      first = o.first ++ drop l.first first;
      second = o.second ++ drop l.second second;
      windows = o.windows ++ drop l.windows windows;
    }

-- what is looked at of it: the first sample, the second list's second number, and whether the window memory changed
unfoldable pub left_of : Outcome Channel → Left
left_of o =
    record {
      channel = o.channel;
      answer = o.answer;
      re = get_or o.first 0 nothing;
      im = get_or o.first 1 nothing;
      other = get_or o.second 1 nothing;
      touched = some (λ w. ne w seven) o.windows;
    }

unfoldable pub block_left : Channel → Lists → Left
block_left c l = left_of (lent_block c l (first_memory l) (second_memory l) window_memory)

-- the lock marks of up to nine blocks as decimal digits, the first one highest
abbrev pub with_mark : ℕ → Bool → ℕ
with_mark marks locked = marks % 2 ^ 32 * 10 + cond locked 1 0

-- the answer becomes the last block's, and the last block's that of the block before
unfoldable pub with_block : Seen → Left → Seen
with_block e o =
    record e {
      answer = o.answer;
      before = e.answer;
      marks = with_mark e.marks o.answer.locked;
      re = o.re;
      im = o.im;
      other = o.other;
      touched = o.touched;
    }
