-- `played` meets its contract: the fold of the letters that are left is the fold of all. Assumes nothing.
use Rattle.std.proofs.Common.{refl, sym, ap, ◌∙◌, arith}
use Rattle.sequences.proofs.FoldLaws.{fold_next, fold_end}
use Rattle.channel_script.specs.Code.Playing.{after, after_letter, after_script}
use Rattle.channel_script.proofs.session.Session.played.Goals as goal

pub loop-letter-init : goal.loop-letter-init
loop-letter-init c = refl

pub loop-letter-preserved : goal.loop-letter-preserved
unfolding after_letter
loop-letter-preserved c =
    let l = c.loop-letter in
    fold_next c.args.script.now l.letter-index after_letter 0 (omega arith) (c.after.ensures ∙ ap (after l.s) c.try_from.ensures) ∙ l.invariant

pub returns : goal.returns
unfolding after_script
returns c =
    let l = c.loop-letter in
    sym (fold_end c.args.script.now l.letter-index after_letter l.s (omega arith)) ∙ l.invariant
