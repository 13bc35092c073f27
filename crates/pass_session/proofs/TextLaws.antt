-- What a line adds to the list is never longer than the list's longest line, so it is written where there is room for that.
use mathlib.Core.Bool.{Bool, true, false, cond}
use mathlib.Core.List.{List}
use Rattle.std.specs.Prelude.{Option, Some, None}
use Prim.Native.Nat.{ℕ, ◌≤◌}
use native.Mathlib.Omega.{arith}
use lib.Dec.{eqb}
use lib.ListN.{length}
use lib.Ieee.{Float}
use Rattle.channel_model.specs.declared.Answer.{Answer}
use Rattle.channel_model.specs.declared.Channel.{Channel}
use Rattle.channel_model.specs.Blocks.{Outcome}
use Rattle.pass_reader.specs.Lines.{outside, names, block_names, values_line, flag_and_samples}
use Rattle.pass_reader.specs.Bytes.{same}
use Rattle.pass_writer.specs.Code.Buffers.{longest}
use Rattle.pass_writer.proofs.TextLengths.{short_refusal, short_block}
use Rattle.pass_setup.specs.declared.pass.Stage.{Stage}
use Rattle.pass_setup.specs.declared.pass.Stage.TheVariants.{Names, Values, BlockNames, Blocks, Stopped}
use Rattle.pass_setup.specs.declared.pass.Pass.{Pass}
use Rattle.pass_setup.specs.Opening.{readied}
use Rattle.pass_setup.specs.Judging.{Judgement, counted, line_refused, line_taken, refused_or, values_judged, shown_of, block_taken, answered, block_judged, judged}
use Rattle.pass_setup.specs.Listing.{input_ended}

abbrev Short : Judgement → Type 0
Short j = length j.text ≤ longest

module _ (p : Pass) where
  refused_short : (n : ℕ) → Short (line_refused n p)
  unfolding line_refused
  refused_short n = short_refusal (counted p.line) n

  taken_short : (s : Stage) (c : Channel) → Short (line_taken s c p)
  unfolding line_taken
  taken_short s c = omega arith

  test_short : (b : Bool) (j k : Judgement) → Short j → Short k → Short (cond b j k)
  test_short true j k h g = h
  test_short false j k h g = g

  or_short : (n : ℕ) (j : Judgement) → Short j → Short (refused_or n p j)
  unfolding refused_or
  or_short n j h = test_short (eqb n 0) j (line_refused n p) h (refused_short n)

  names_short : (expected line : List ℕ) (s : Stage) → Short (cond (same line expected) (line_taken s p.channel p) (line_refused outside p))
  names_short expected line s = test_short (same line expected) _ _ (taken_short s p.channel) (refused_short outside)

  values_short : (o : Option (List ℕ)) → Short (values_judged o p)
  unfolding values_judged
  values_short None = refused_short outside
  values_short (Some v) = or_short (readied v).refusal _ (taken_short BlockNames (readied v).channel)

  block_taken_short : (a : Answer) (c : Channel) → Short (block_taken a c p)
  unfolding block_taken
  block_taken_short a c = short_block (counted p.block) (shown_of a)

  answered_short : (o : Outcome Channel) → Short (answered o p).0
  unfolding answered
  answered_short o = or_short o.answer.refusal _ (block_taken_short o.answer o.channel)

  block_short : (o : Option (ℕ × List Float)) (w : List Float) → Short (block_judged o p w).0
  unfolding block_judged
  block_short None w = refused_short outside
  block_short (Some b) w = answered_short _

  pub judged_short : (s : Stage) (w : List Float) (line : List ℕ) → Short (judged s p w line).0
  unfolding judged
  judged_short Names w line = names_short names line Values
  judged_short Values w line = values_short (values_line line)
  judged_short BlockNames w line = names_short block_names line Blocks
  judged_short Blocks w line = block_short (flag_and_samples line) w
  judged_short Stopped w line = omega arith

  pub input_ended_short : (s : Stage) (left : List ℕ) → Short (input_ended s p left)
  unfolding input_ended
  input_ended_short Names left = refused_short outside
  input_ended_short Values left = refused_short outside
  input_ended_short BlockNames left = refused_short outside
  input_ended_short Blocks left = test_short (eqb (length left) 0) _ _ (omega arith) (refused_short outside)
  input_ended_short Stopped left = omega arith
