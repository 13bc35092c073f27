-- `decimal_of` meets its contract: the fold of the bytes. Assumes nothing.
use Rattle.std.proofs.Common.{ap, ◌∙◌, rules, tests}
use Rattle.std.proofs.lemmas.Iterator.{YieldsList-from_slice}
use Rattle.std.proofs.lemmas.Iterator.Consumers.{fold_from_yields_List}
use Rattle.channel_cases.specs.Code.Numbers.{no_digits, with_byte, quotient, decimal_of}
use Rattle.channel_cases.proofs.number.decimal_of.Goals as goal

pub returns : goal.returns
unfolding decimal_of
returns c =
    let s = c.args.s.now in
    let digits = fold_from_yields_List _ with_byte no_digits c.fold.result c.fold.ensures.ran (YieldsList-from_slice s cc) (λ a x b q k. search (rules, tests)) in
    c.quotient.ensures ∙ ap quotient digits
