-- `is_touched` meets its contract: what the library's `any` answers. Assumes nothing.
use Rattle.std.proofs.Common.{◌∙◌, rules, tests}
use Rattle.std.proofs.lemmas.Iterator.{YieldsList-from_slice}
use Rattle.std.proofs.lemmas.Iterator.Search.{any_from_yields_List}
use lib.Ieee.{ne, of_bits, of_int}
use Rattle.channel_script.specs.Code.Blocks.{seven}
use Rattle.channel_script.proofs.LetterLaws.{some_is}
use Rattle.channel_script.proofs.block.is_touched.Goals as goal

pub returns : goal.returns
unfolding of_bits of_int
returns c =
    let w = c.args.windows.now in
    any_from_yields_List (λ x. ne x seven) _ _ _ c.any.ensures.ran (YieldsList-from_slice w cc) (λ x b q k. search (rules, tests)) ∙ some_is (λ x. ne x seven) w
