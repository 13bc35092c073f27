-- `choose`, from its three steps.
use Rattle.std.proofs.Common.{rules, ◌∙◌}
use Rattle.bank_selection.proofs.ChoiceCases.{chosen_is}
use Rattle.bank_selection.proofs.choice.choose.Goals as goal

pub returns : goal.returns
returns c = search rules ∙ chosen_is _ c.better_of-best.ensures c.better_of-best-2.ensures c.better_of-best-3.ensures
