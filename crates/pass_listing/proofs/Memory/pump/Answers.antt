-- `pump`: what is answered for is what the stream stands for.
use Rattle.std.proofs.Common.{rules}
use Rattle.pass_transfer.proofs.StandingLaws.{accounted_as}
use Rattle.pass_transfer.proofs.MovesLaws.{carried_as}
use Rattle.pass_listing.proofs.Memory.pump.Goals as goal

pub returns-then-is_over-clause-accounted : goal.returns-then-is_over-clause-accounted
returns-then-is_over-clause-accounted g c = accounted_as _ _ _ _ _ _ c.account.ensures c.loop-turn.invariant.stands

pub returns-clause-accounted : goal.returns-clause-accounted
returns-clause-accounted g c = accounted_as _ _ _ _ _ _ c.account-2.ensures c.loop-turn.invariant.stands

pub returns-then-is_over-clause-carried : goal.returns-then-is_over-clause-carried
returns-then-is_over-clause-carried g c = λ had held h. carried_as _ _ _ _ _ _ _ _ _ _ c.account.ensures (c.loop-turn.invariant.moves had held h)

pub returns-clause-carried : goal.returns-clause-carried
returns-clause-carried g c = λ had held h. carried_as _ _ _ _ _ _ _ _ _ _ c.account-2.ensures (c.loop-turn.invariant.moves had held h)

pub loop-turn-preserved : goal.loop-turn-preserved
loop-turn-preserved g c =
    let i = c.loop-turn.invariant in
    let w = c.go_on-w.ensures in
    record {
      stands = w.stands i.stands;
      moves = λ had held h. w.moves had held (i.moves had held h);
      read = search rules;
      written = search rules;
    }
