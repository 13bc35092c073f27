-- `flag_of`: at each turn a mark, or a pair that is left and passes its test, is what the whole list has.
use mathlib.Core.Path.{◌≡◌}
use mathlib.Core.Bool.{Bool, ◌||◌}
use mathlib.Core.List.{List}
use Prim.Native.Nat.{ℕ, ◌*◌}
use lib.ListN.{drop}
use lib.Ieee.{Float}
use Rattle.sequences.specs.Pairs.{pairs}
use Rattle.sequences.specs.Folds.{some}
use Rattle.survey.specs.Survey.{not_a_number, clipped, signal}
use Rattle.survey.proofs.flag_of.Given as goal

-- what the whole list has, of one test
abbrev pub Left : (Float × Float → Bool) → List Float → Bool → ℕ → Type 0
Left p xs m k = (m || some p (pairs (drop (2 * k) xs))) ≡ some p (pairs xs)

abbrev pub invariant-loop-re : goal.invariant-loop-re
invariant-loop-re l =
    Left not_a_number l.fn.samples l.not_a_number l.re-index × Left clipped l.fn.samples l.clipped l.re-index × Left signal l.fn.samples l.signal l.re-index
