-- The steps of the list, for proofs: they compute to what `further` and `list_after` say. Definitions only.
use Rattle.std.specs.Prelude.{List, ◌++◌, ℕ, Float}
use Rattle.pass_setup.specs.Judging.{Judgement}
use Rattle.pass_setup.specs.Listing.{Run, input_ended}

-- a judgement's text behind the list so far
abbrev pub listed : List ℕ → Judgement × List Float → Run
listed list j = record { pass = j.0.pass; windows = j.1; list = list ++ j.0.text }

-- the whole list, where the input ends with what is left
abbrev pub closed : Run → List ℕ → List ℕ
closed r left = r.list ++ (input_ended r.pass.stage r.pass left).text
