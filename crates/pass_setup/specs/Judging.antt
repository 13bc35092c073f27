-- What one line of a pass text does (the scope, "The pass text and its list"): the first line is names, the second values, the third names,
-- and each line after these is a block. "In one line, 13 comes before the other numbers." "A refused line prints `refused`, its line number and
-- the refusal number, and ends the run." Definitions only.
use Rattle.std.specs.Prelude.{cond, List, [], ℕ, ◌+◌, eqb, ltb, Float, Option, Some, None}
use Rattle.channel_model.specs.declared.Channel.{Channel}
use Rattle.channel_model.specs.declared.Answer.{Answer}
use Rattle.channel_model.specs.Opening.{new_channel, refused_settings}
use Rattle.channel_model.specs.Blocks.{Outcome, blocked}
use Rattle.pass_reader.specs.Bytes.{same}
use Rattle.pass_reader.specs.Lines.{outside, names, block_names, values_line, flag_and_samples}
use Rattle.pass_writer.specs.declared.lines.Shown.{Shown}
use Rattle.pass_writer.specs.Lines.{block_text, refusal_text}
use Rattle.pass_setup.specs.declared.pass.Stage.{Stage}
use Rattle.pass_setup.specs.declared.pass.Stage.TheVariants.{Names, Values, BlockNames, Blocks, Stopped}
use Rattle.pass_setup.specs.declared.pass.Pass.{Pass}
use Rattle.pass_setup.specs.Opening.{readied}

-- a pass after a line, and what the line adds to the list
pub record Judgement : Type 0 where
  pub pass : Pass
  pub text : List ℕ

-- lines and blocks are counted from 1 in 64 bits; the greatest number stands for all beyond it
unfoldable pub counted : ℕ → ℕ
counted n = cond (ltb n 0xffff_ffff_ffff_ffff) (n + 1) n

-- before the first line. The channel is not opened yet: it is the one that a refused open returns
unfoldable pub new_pass : Pass
new_pass = record { stage = Names; line = 0; block = 0; channel = new_channel refused_settings }

-- the pass after one more line
abbrev pub pass_after : Stage → ℕ → Channel → Pass → Pass
pass_after next blocks c p = record { stage = next; line = counted p.line; block = blocks; channel = c }

-- the line is refused: the channel stays, and the run ends
unfoldable pub line_refused : ℕ → Pass → Judgement
line_refused number p = record { pass = pass_after Stopped p.block p.channel p; text = refusal_text (counted p.line) number }

-- the line is taken, and adds nothing
unfoldable pub line_taken : Stage → Channel → Pass → Judgement
line_taken next c p = record { pass = pass_after next p.block c p; text = [] }

-- by the refusal number of a call: judged as given where it is 0, or the line is refused
unfoldable pub refused_or : ℕ → Pass → Judgement → Judgement
refused_or number p j = cond (eqb number 0) j (line_refused number p)

-- values open and assign the channel, if their line is in the form
unfoldable pub values_judged : Option (List ℕ) → Pass → Judgement
values_judged None p = line_refused outside p
values_judged (Some v) p = let o = readied v in refused_or o.refusal p (line_taken BlockNames o.channel p)

-- what the list shows of an answer; fade is the count
unfoldable pub shown_of : Answer → Shown
shown_of a =
    record { locked = a.locked; tracker = a.tracker; fade = a.fade_count; phase = a.phase; frequency = a.frequency; snr = a.snr }

-- an accepted block has its line in the list
unfoldable pub block_taken : Answer → Channel → Pass → Judgement
block_taken a c p = record { pass = pass_after Blocks (counted p.block) c p; text = block_text (counted p.block) (shown_of a) }

-- with the window memory, as the block call leaves it
unfoldable pub answered : Outcome Channel → Pass → Judgement × List Float
answered o p = (refused_or o.answer.refusal p (block_taken o.answer o.channel p), o.windows)

-- a block's flag and samples go to the channel, if its line is in the form
unfoldable pub block_judged : Option (ℕ × List Float) → Pass → List Float → Judgement × List Float
block_judged None p w = (line_refused outside p, w)
block_judged (Some b) p w = answered (blocked p.channel (record { flag = b.0; first = b.1; second = [] }) w) p

-- a line, by the stage of the pass; after the end of the run there is nothing more
unfoldable pub judged : Stage → Pass → List Float → List ℕ → Judgement × List Float
judged Names p w line = (cond (same line names) (line_taken Values p.channel p) (line_refused outside p), w)
judged Values p w line = (values_judged (values_line line) p, w)
judged BlockNames p w line = (cond (same line block_names) (line_taken Blocks p.channel p) (line_refused outside p), w)
judged Blocks p w line = block_judged (flag_and_samples line) p w
judged Stopped p w line = (record { pass = p; text = [] }, w)
