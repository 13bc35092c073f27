-- `is_one_of` meets its contract: what the library's `contains` answers. Assumes nothing.
use Rattle.std.proofs.Common.{◌∙◌}
use Rattle.channel_script.proofs.LetterLaws.{contains_is}
use Rattle.channel_script.proofs.letters.is_one_of.Goals as goal

pub returns : goal.returns
returns c = c.contains.ensures.value ∙ contains_is c.args.letter c.args.letters.now
