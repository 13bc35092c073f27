-- `vectors::line::fill` meets its contract: one turn. Assumes nothing.
use native.Mathlib.Omega.{arith}
use lib.ListN.{length-set}
use Rattle.vectors.proofs.LineLaws.{fill_next}
use Rattle.vectors.proofs.line.fill.Goals as goal

pub loop-k-preserved : goal.loop-k-preserved
loop-k-preserved g c =
    let l = c.loop-k in
    (fill_next _ l.list l.k (omega arith) c.at.ensures l.invariant.0, simp length-set l.invariant.1)
