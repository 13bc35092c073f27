-- The whole list of a whole pass text (the scope, "The pass text and its list"). Definitions only.
use Rattle.std.specs.Prelude.{cond, List, [], ◌++◌, ℕ, eqb, length, replicate, Float}
use Rattle.ieee754.specs.Binary64 as float
use Rattle.sequences.specs.Folds.{fold}
use Rattle.pass_reader.specs.Lines.{outside}
use Rattle.pass_writer.specs.Lines.{names_text}
use Rattle.pass_stream.specs.Stream.{lines, rest}
use Rattle.pass_setup.specs.declared.pass.Stage.{Stage}
use Rattle.pass_setup.specs.declared.pass.Stage.TheVariants.{Names, Values, BlockNames, Blocks, Stopped}
use Rattle.pass_setup.specs.declared.pass.Pass.{Pass}
use Rattle.pass_setup.specs.Judging.{Judgement, new_pass, line_refused, judged}

-- how far a run has come: the pass, the window memory, and the list so far
pub record Run : Type 0 where
  pub pass : Pass
  pub windows : List Float
  pub list : List ℕ

-- one line further: what the line adds stands behind the list so far
unfoldable pub further : Run → List ℕ → Run
further r line =
    let j = judged r.pass.stage r.pass r.windows line in
    record { pass = j.0.pass; windows = j.1; list = r.list ++ j.0.text }

-- The end of the input, with what stands after the last newline. "Every line ends with a newline": what is left there is a line outside the form.
-- "Each of the first three lines, if missing, is outside the form"; blocks may be as many as there are, or none.
unfoldable pub input_ended : Stage → Pass → List ℕ → Judgement
input_ended Names p left = line_refused outside p
input_ended Values p left = line_refused outside p
input_ended BlockNames p left = line_refused outside p
input_ended Blocks p left = cond (eqb (length left) 0) (record { pass = p; text = [] }) (line_refused outside p)
input_ended Stopped p left = record { pass = p; text = [] }

-- the list of a run that goes on with a text, up to its end
unfoldable pub list_after : Run → List ℕ → List ℕ
list_after r text = let e = fold further r (lines text) in e.list ++ (input_ended e.pass.stage e.pass (rest text)).text

-- All that is printed for an input. "The line of names is always printed first." The window memory is lent as zeros
unfoldable pub list_of : List ℕ → List ℕ
list_of input = list_after (record { pass = new_pass; windows = replicate 8192 float.zero; list = names_text }) input
