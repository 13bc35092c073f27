-- A line of the survey's vectors: its kind, which is 7, a count n, n f32, and the flag that the Rust's raw scan gave. Definitions only.
use Rattle.std.specs.Prelude.{List, [], ◌∷◌, Bool, ◌&&◌, ℕ, eqb, leb, drop}
use Rattle.sequences.specs.Pairs.{pairs}
use Rattle.survey.specs.Survey.{survey_of}
use Rattle.vectors.specs.Code.Lines.{number_at, float32_at, list_in, behind_list, is_rest}

-- the flag of the samples that a line begins with
unfoldable pub flag_of : List ℕ → ℕ
flag_of ws = survey_of (pairs (list_in float32_at ws))

-- behind the samples stands their flag, and nothing more; a line of more than 8,192 samples does not agree
unfoldable pub samples_agree : List ℕ → Bool
samples_agree ws = leb (number_at 0 ws) 8192 && is_rest (flag_of ws ∷ []) (behind_list ws)

unfoldable pub line_agrees : List ℕ → Bool
line_agrees ws = eqb (number_at 0 ws) 7 && samples_agree (drop 1 ws)
