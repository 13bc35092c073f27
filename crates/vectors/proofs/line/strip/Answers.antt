-- `vectors::line::strip` meets its contract: no number is left, one that differs, one turn, and the end. Assumes nothing.
use Rattle.vectors.proofs.LineLaws.{strip_none, strip_differs, strip_next, strip_end}
use Rattle.vectors.proofs.line.strip.Goals as goal

pub returns-in_default : goal.returns-in_default
returns-in_default g c = strip_none g.W.Word.pattern _ _ _ c.loop-x-test.true c.x-item.is _ c.in_default.len_below c.loop-x.invariant

pub returns-then-first-pattern : goal.returns-then-first-pattern
returns-then-first-pattern g c =
    strip_differs g.W.Word.pattern _ _ _ c.loop-x-test.true c.x-item.is _ c.in-len1-up.len_at_least c.pattern.ensures c.if-first-pattern.true c.loop-x.invariant

pub loop-x-preserved : goal.loop-x-preserved
loop-x-preserved g c =
    strip_next g.W.Word.pattern _ _ _ c.loop-x-test.true c.x-item.is _ c.in-len1-up.len_at_least c.pattern.ensures c.if-first-pattern.false c.loop-x.invariant

pub returns : goal.returns
returns g c = strip_end g.W.Word.pattern _ _ _ c.loop-x-test.false c.loop-x.invariant
