-- `at_failure`: the line of the failure is alone in the buffer, behind all that was made.
use mathlib.Core.Path.{◌≡◌}
use native.Mathlib.Omega.{arith}
use lib.ListN.{length}
use borrow.Author.Rules.{rules}
use Rattle.pass_writer.proofs.WrittenLaws.{alone, within}
use Rattle.pass_transfer.proofs.StandingLaws.{stands_failed, stands_as}
use Rattle.pass_transfer.proofs.MovesLaws.{moves_failed, moves_as}
use Rattle.pass_transfer.proofs.at_failure.Goals as goal

pub returns-clause-stands : goal.returns-clause-stands
returns-clause-stands g c =
    let e = c.failure_line-n.ensures in
    let z : length c.args.out.now ≡ 65536 = search rules in
    λ r b h. stands_as _ _ r b _ c.closing.ensures (stands_failed _ r b _ h c.requires.0 c.requires.1 _ _ _ (within _ _ e) (alone _ _ e (omega arith)))

pub returns-clause-moves : goal.returns-clause-moves
returns-clause-moves g c =
    let e = c.failure_line-n.ensures in
    let z : length c.args.out.now ≡ 65536 = search rules in
    λ r b had left held holds h.
    moves_as _ _ r b _ _ _ _ _ c.closing.ensures (moves_failed _ r b _ _ _ _ _ h c.requires.0 c.requires.1 _ _ _ (within _ _ e) (alone _ _ e (omega arith)))
