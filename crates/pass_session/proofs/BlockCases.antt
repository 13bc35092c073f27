-- The line of a block, from what the steps of the code ensure.
use mathlib.Core.Path.{◌≡◌, ap, sym, ◌∙◌}
use mathlib.Core.List.{List, [], ◌++◌}
use Rattle.std.specs.Prelude.{Option, Some, None}
use Rattle.std.proofs.lemmas.Option.{none-some, some_pair_parts}
use Prim.Native.Nat.{ℕ, ◌+◌, ◌≤◌}
use native.Mathlib.Omega.{arith}
use lib.ListN.{length, take, drop, length-append}
use lib.Seq.{take_at}
use lib.Ieee.{Float}
use Rattle.channel_model.specs.declared.Channel.{Channel}
use Rattle.channel_model.specs.declared.Answer.{Answer}
use Rattle.channel_model.specs.declared.Blocked.{Blocked}
use Rattle.channel_model.specs.Blocks.{Outcome, blocked, outcome}
use Rattle.pass_reader.specs.Lines.{flag_and_samples}
use Rattle.pass_reader.specs.Code.Answers.{read_into}
use Rattle.pass_writer.specs.declared.lines.Shown.{Shown}
use Rattle.pass_writer.specs.Lines.{block_text}
use Rattle.pass_writer.specs.Code.Buffers.{written}
use Rattle.pass_setup.specs.declared.pass.Stage.TheVariants.{Blocks}
use Rattle.pass_setup.specs.declared.pass.Pass.{Pass}
use Rattle.pass_setup.specs.Judging.{counted, refused_or, shown_of, block_taken, answered, block_judged}
use Rattle.pass_setup.specs.Code.Buffers.{Printed, printed, printed_with, as_printed}

-- an accepted answer
module _ (p : Pass) (a : Answer) (c : Channel) where
  pub answer_printed : (old : List ℕ) {line block n : ℕ} {s : Shown} {new : List ℕ}
      → line ≡ counted p.line → block ≡ counted p.block → s ≡ shown_of a → (n, new) ≡ written (block_text block s) old
      → as_printed (record { pass = record { stage = Blocks; line = line; block = block; channel = c }; added = n }) new ≡ printed (block_taken a c p) old
  unfolding as_printed printed block_taken
  answer_printed old el eb es w =
      let x = w ∙ (λ i. written (block_text (eb i) (es i)) old) in
      λ i. record { pass = record { stage = Blocks; line = el i; block = eb i; channel = c }; added = (x i).0; out = (x i).1 }

-- what a line of a block said, from what was read of it
module _ (old new : List Float) where
  module _ (flag count : ℕ) where
    read_taken : (o : Option (ℕ × List Float)) → (Some (flag, count), new) ≡ read_into o old → o ≡ Some (flag, take count new)
    unfolding read_into
    read_taken None e = absurd (none-some _ (sym (ap (λ (x : Option (ℕ × ℕ) × List Float). x.0) e)))
    read_taken (Some b) e =
        let s = some_pair_parts flag b.0 count (length b.1) (ap (λ (x : Option (ℕ × ℕ) × List Float). x.0) e) in
        let n : new ≡ b.1 ++ drop (length b.1) old = ap (λ (x : Option (ℕ × ℕ) × List Float). x.1) e in
        let t : take count new ≡ b.1 = ap (take count) n ∙ take_at b.1 (drop (length b.1) old) count (sym s.1) in
        λ i. Some (sym s.0 i, sym t i)

    read-within : (o : Option (ℕ × List Float)) → (Some (flag, count), new) ≡ read_into o old → count ≤ length new
    unfolding read_into
    read-within None e = absurd (none-some _ (sym (ap (λ (x : Option (ℕ × ℕ) × List Float). x.0) e)))
    read-within (Some b) e =
        let s = some_pair_parts flag b.0 count (length b.1) (ap (λ (x : Option (ℕ × ℕ) × List Float). x.0) e) in
        let k = s.1 in
        let n : length new ≡ length b.1 + length (drop (length b.1) old) = ap (λ (x : Option (ℕ × ℕ) × List Float). length x.1) e ∙ length-append b.1 (drop (length b.1) old) in
        omega arith

-- what the line itself says, from what the code reads of it
module _ (line : List ℕ) (old new : List Float) {b : Option (ℕ × ℕ)} (e : (b, new) ≡ read_into (flag_and_samples line) old) where
  said_taken : (flag count : ℕ) → b ≡ Some (flag, count) → flag_and_samples line ≡ Some (flag, take count new)
  said_taken flag count h = read_taken old new flag count (flag_and_samples line) (ap (λ (x : Option (ℕ × ℕ)). (x, new)) (sym h) ∙ e)

  pub said_within : (flag count : ℕ) → b ≡ Some (flag, count) → count ≤ length new
  said_within flag count h = read-within old new flag count (flag_and_samples line) (ap (λ (x : Option (ℕ × ℕ)). (x, new)) (sym h) ∙ e)

  module _ (p : Pass) (w : List Float) (out : List ℕ) where
    pub block-answered : (flag count : ℕ) (d : Blocked) (first second after : List Float) {x : Printed} → b ≡ Some (flag, count)
        → outcome d first second after ≡ blocked p.channel (record { flag = flag; first = take count new; second = [] }) w
        → x ≡ printed (refused_or d.answer.refusal p (block_taken d.answer d.channel p)) out
        → (x, after) ≡ printed_with (block_judged (flag_and_samples line) p w) out
    unfolding printed_with block_judged answered outcome
    block-answered flag count d first second after h eb ex =
        (λ i. (ex i, after)) ∙ ap (λ (o : Outcome Channel). printed_with (answered o p) out) eb
        ∙ ap (λ (o : Option (ℕ × List Float)). printed_with (block_judged o p w) out) (sym (said_taken flag count h))
