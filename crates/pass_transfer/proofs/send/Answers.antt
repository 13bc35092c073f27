-- `send`: what a write took is written, and the rest waits.
use native.Mathlib.Omega.{arith}
use Rattle.pass_transfer.proofs.StandingLaws.{stands-written, stands_as}
use Rattle.pass_transfer.proofs.MovesLaws.{keeps_none, moves_held, moves_written, moves_given_up, moves_as}
use Rattle.pass_transfer.proofs.send.Goals as goal

pub returns-in-Ok-clause-stands : goal.returns-in-Ok-clause-stands
returns-in-Ok-clause-stands g c =
    λ r b h. stands_as _ _ r b _ c.sent.ensures (stands-written c.args.s r b _ h c.in-Ok.n c.in-Ok.ensures.upper_bound)

pub returns-in-Ok-clause-moves : goal.returns-in-Ok-clause-moves
returns-in-Ok-clause-moves g c =
    λ r b had left held h.
    moves_as _ _ r b _ _ _ _ _ c.sent.ensures (moves_written c.args.s r b _ _ _ _ _ h c.in-Ok.n c.in-Ok.ensures.upper_bound _ c.in-Ok.ensures.gave)

pub returns-in-Ok-eq0-clause-moves : goal.returns-in-Ok-eq0-clause-moves
returns-in-Ok-eq0-clause-moves g c =
    λ r b had left held h.
    let k = keeps_none _ _ _ _ c.in-Ok-eq0.ensures.gave (omega arith) in
    moves_as _ _ r b _ _ _ _ _ c.give_up.ensures (moves_given_up _ r b _ _ _ _ _ (moves_held _ r b _ _ _ _ _ h _ k))

pub returns-in-Err-clause-moves : goal.returns-in-Err-clause-moves
returns-in-Err-clause-moves g c = λ r b had left held h. moves_held _ r b _ _ _ _ _ h _ c.in-Err.ensures.gave

pub returns-in-Err-2-clause-moves : goal.returns-in-Err-2-clause-moves
returns-in-Err-2-clause-moves g c =
    λ r b had left held h. moves_as _ _ r b _ _ _ _ _ c.give_up-in-Err-2.ensures (moves_given_up _ r b _ _ _ _ _ (moves_held _ r b _ _ _ _ _ h _ c.in-Err-2.ensures.gave))
