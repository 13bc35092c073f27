-- `elementary_logarithm::series::argument` meets its contract.
use mathlib.Core.Path.{◌≡◌, ap}
use Prim.Native.Nat.{ℕ, ◌*◌, ◌≤◌}
use native.Mathlib.Nat.{le_trans, le_of_eq, lt_of_le_of_lt}
use lib.Dec.{lit<}
use Rattle.elementary_logarithm.specs.Steps.{argument}
use Rattle.elementary_logarithm.proofs.Argument.{argument_proper, argument_upto}
use Rattle.elementary_logarithm.proofs.series.argument.Goals.{After-ratio}
use Rattle.elementary_logarithm.proofs.series.argument.Goals as goal

is : (c : After-ratio) → c.ratio.result * 4 ≡ argument c.args.s
unfolding argument
is c = ap (λ (z : ℕ). z * 4) c.ratio.ensures.bits

upto : (c : After-ratio) → c.ratio.result * 4 ≤ 6148914691236517205
upto c = let s = c.before.before.before in le_trans (le_of_eq (is c)) (argument_upto s.args.s s.requires.0 s.requires.1)

pub ratio-requires : goal.ratio-requires
ratio-requires c = argument_proper c.args.s c.requires.0 c.requires.1

pub overflow_mul-result : goal.overflow_mul-result
overflow_mul-result c = record { fits = lt_of_le_of_lt (upto (goal.at.overflow_mul-result c).After-ratio) (lit< tt) }

pub returns : goal.returns
returns c = (is (goal.at.returns c).After-ratio, upto (goal.at.returns c).After-ratio)
