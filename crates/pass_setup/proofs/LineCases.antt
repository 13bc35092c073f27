-- What a line does, case by case, from what the steps of the code ensure.
use mathlib.Core.Path.{◌≡◌, ap, ◌∙◌}
use mathlib.Core.List.{List, []}
use Prim.Native.Nat.{ℕ}
use Rattle.channel_model.specs.declared.Channel.{Channel}
use Rattle.pass_writer.specs.Lines.{refusal_text}
use Rattle.pass_writer.specs.Code.Buffers.{written}
use Rattle.pass_writer.proofs.WrittenLaws.{nothing_written}
use Rattle.pass_setup.specs.declared.pass.Stage.{Stage}
use Rattle.pass_setup.specs.declared.pass.Stage.TheVariants.{Stopped}
use Rattle.pass_setup.specs.declared.pass.Pass.{Pass}
use Rattle.pass_setup.specs.Judging.{counted, line_refused, line_taken}
use Rattle.pass_setup.specs.Code.Buffers.{printed, as_printed}

-- a refused line, a line that is taken, and none
module _ (p : Pass) (old : List ℕ) where
  pub refused_printed : (number : ℕ) {line n : ℕ} {new : List ℕ} → line ≡ counted p.line → (n, new) ≡ written (refusal_text line number) old
      → as_printed (record { pass = record { stage = Stopped; line = line; block = p.block; channel = p.channel }; added = n }) new ≡ printed (line_refused number p) old
  unfolding as_printed printed line_refused
  refused_printed number e w =
      let x = w ∙ ap (λ (l : ℕ). written (refusal_text l number) old) e in
      λ i. record { pass = record { stage = Stopped; line = e i; block = p.block; channel = p.channel }; added = (x i).0; out = (x i).1 }

  pub taken_printed : (s : Stage) (c : Channel) {q : Pass} → q ≡ (line_taken s c p).pass → as_printed (record { pass = q; added = 0 }) old ≡ printed (line_taken s c p) old
  unfolding as_printed printed line_taken
  taken_printed s c e = let w = nothing_written old in λ i. record { pass = e i; added = (w i).0; out = (w i).1 }

  pub still_printed : as_printed (record { pass = p; added = 0 }) old ≡ printed (record { pass = p; text = [] }) old
  unfolding as_printed printed
  still_printed = let w = nothing_written old in λ i. record { pass = p; added = (w i).0; out = (w i).1 }
