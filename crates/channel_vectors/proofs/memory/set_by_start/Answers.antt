-- `set_by_start` meets its contract: one turn. Assumes nothing.
use native.Mathlib.Omega.{arith}
use lib.ListN.{length-set}
use Rattle.vectors.proofs.LineLaws.{fill_next}
use Rattle.channel_vectors.proofs.memory.set_by_start.Goals as goal

pub loop-i-preserved : goal.loop-i-preserved
loop-i-preserved c =
    let l = c.loop-i in
    (fill_next _ l.windows l.i (omega arith) c.sixty_fourths.ensures l.invariant.0, simp length-set l.invariant.1)
