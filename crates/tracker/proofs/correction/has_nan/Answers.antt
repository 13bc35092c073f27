-- `has_nan` looks at each of the six.
use mathlib.Core.Path.{◌∙◌}
use borrow.Author.Rules.{rules}
use Rattle.tracker.proofs.NanTest.{any_of_six}
use Rattle.tracker.proofs.correction.has_nan.Goals as goal

pub returns : goal.returns
returns c = c.contains_nan.ensures ∙ any_of_six c.args.x (search rules)
