-- `differing` meets its contract: how many pairs the library counts. Assumes nothing.
use Rattle.std.proofs.Common.{◌∙◌, rules, tests}
use Rattle.std.specs.Float.Ieee.{ne}
use Rattle.std.proofs.lemmas.Iterator.{YieldsList-from_slice, YieldsList-from_zip}
use Rattle.std.proofs.lemmas.Iterator.Consumers.{count_from_yields_List, YieldsList-from_filter}
use Rattle.channel_script.proofs.LookLaws.{differing_is}
use Rattle.channel_script.proofs.look.differing.Goals as goal

pub returns : goal.returns
returns c =
    let a = c.args in
    count_from_yields_List c.filter.result _ c.count.ensures.ran
    (YieldsList-from_filter _ (λ p. ne p.0 p.1) (YieldsList-from_zip (YieldsList-from_slice a.f cc) (YieldsList-from_slice a.remembered cc)) c.filter.ensures.closure (λ x r q k. search (rules, tests)))
    ∙ differing_is a.f a.remembered
