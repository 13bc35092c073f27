-- `of_letter` meets its contract, table by table. Assumes nothing.
use Rattle.std.proofs.Common.{ap, ◌∙◌, List, Float}
use Rattle.std.specs.Option.{option_or}
use Rattle.channel_script.specs.Code.Letters.{found}
use Rattle.channel_script.specs.Code.Looking.{figure_names}
use Rattle.channel_script.proofs.LookLaws.{one_letter_lem}
use Rattle.channel_script.proofs.look.of_letter.Goals as goal

pub returns : goal.returns
returns c =
    let a = c.args in
    let f = c.in_figures.ensures ∙ ap (λ (l : List Float). found a.letter (figure_names l a.e.figures)) c.figures.ensures in
    let o1 = c.or.ensures ∙ (λ j. option_or (c.in_seen.ensures j) (c.in_channel.ensures j)) in
    let o2 = c.or-2.ensures ∙ (λ j. option_or (o1 j) (f j)) in
    let o3 = c.or-3.ensures ∙ (λ j. option_or (o2 j) (c.in_answer.ensures j)) in
    c.or-4.ensures ∙ (λ j. option_or (o3 j) (c.in_before.ensures j)) ∙ one_letter_lem a.e a.c a.letter
