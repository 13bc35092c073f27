-- `holds` meets its contract: the library's fold over the words that it splits a line into. Assumes nothing.
use Rattle.std.proofs.Common.{ap, ◌∙◌, eqb, false, true, rules, tests}
use Rattle.std.specs.List as lists
use Rattle.std.proofs.lemmas.Iterator.Consumers.{fold_from_yields_List}
use Rattle.std.proofs.lemmas.Iterator.Splits.{YieldsList-from_slice_split}
use Rattle.std.specs.List.{fold}
use Rattle.pass_reader.specs.Bytes.{fields}
use Rattle.channel_script.specs.declared.session.Session.{Session}
use Rattle.channel_cases.specs.declared.line.Judged.{Judged}
use Rattle.channel_cases.specs.Code.Cases.{judged, verdict, case_holds}
use Rattle.channel_cases.proofs.CaseLaws.{fields_is}
use Rattle.channel_cases.proofs.line.holds.Goals as goal

pub returns : goal.returns
unfolding case_holds
returns c =
    let line = c.args.line.now in
    let j : Judged = record { session = c.new.result; asked = false; good = true } in
    let words = lists.slice_split (λ b. eqb b 32) line in
    let all = fold_from_yields_List _ judged j c.fold-j.result c.fold-j.ensures.ran
    (YieldsList-from_slice_split _ (λ b. eqb b 32) line c.split.ensures.rest c.split.ensures.done c.split.ensures.closure (λ x b q k. search (rules, tests)))
    (λ a x b q k. search (rules, tests)) in
    ap verdict (all ∙ ap (fold judged j) (fields_is line) ∙ ap (λ (s : Session). fold judged (record { session = s; asked = false; good = true }) (fields line)) c.new.ensures)
