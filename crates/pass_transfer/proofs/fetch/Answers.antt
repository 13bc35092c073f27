-- `fetch`: what a read brought is held behind what was there; none is the end of the text.
use Rattle.std.specs.Prelude.{Ok}
use mathlib.Core.Path.{◌≡◌, sym, subst, ap, ◌∙◌}
use Prim.Native.Nat.{◌<◌}
use native.Mathlib.Omega.{arith}
use borrow.Author.Rules.{rules}
use lib.ListN.{length, drop, length-drop}
use Rattle.pass_transfer.specs.Code.Standing.{NoLine, Took}
use Rattle.pass_transfer.proofs.ReadLaws.{bytes_within}
use Rattle.pass_transfer.proofs.StandingLaws.{stands_read, stands-more, stands_end, stands_as, counted_as}
use Rattle.pass_transfer.proofs.MovesLaws.{moves_read, moves_left, moves_more, moves_end, moves_as}
use Rattle.pass_transfer.proofs.fetch.Goals as goal

pub came-requires : goal.came-requires
came-requires g c =
    let w = bytes_within _ _ _ c.read_behind.ensures.brought (c.in-Ok-Some.is ∙ ap Ok c.in-Ok-Some.field-0-is) in
    let z : length c.args.buf.now ≡ 262144 = search rules in
    let h = c.requires.0.held in (omega arith, c.requires.1)

pub returns-in-Ok-Some-clause-stands : goal.returns-in-Ok-Some-clause-stands
returns-in-Ok-Some-clause-stands g c =
    let r = c.read_behind in
    let k = r.auto.buf in
    let h = c.requires.0.held in
    let n = bytes_within _ _ _ r.ensures.brought (c.in-Ok-Some.is ∙ ap Ok c.in-Ok-Some.field-0-is) in
    λ q s. stands_as _ _ q _ _ c.came.ensures (stands-more _ q _ _ (stands_read _ q _ _ _ s k r.ensures.buf_unchanged) c.requires.0.next_is _ (omega arith))

pub returns-in-Ok-Some-clause-counted : goal.returns-in-Ok-Some-clause-counted
returns-in-Ok-Some-clause-counted g c =
    let n = bytes_within _ _ _ c.read_behind.ensures.brought (c.in-Ok-Some.is ∙ ap Ok c.in-Ok-Some.field-0-is) in
    let z : length c.args.buf.now ≡ 262144 = search rules in
    counted_as _ _ c.args.s c.came.ensures (omega arith) (omega arith)

pub returns-in-Ok-None-clause-stands : goal.returns-in-Ok-None-clause-stands
returns-in-Ok-None-clause-stands g c =
    let r = c.read_behind in
    λ q h.
    stands_as _ _ q _ _ c.at_end.ensures
    (stands_end _ q _ _ (stands_read _ q _ _ _ h r.auto.buf r.ensures.buf_unchanged) c.requires.0.next_is (subst NoLine (sym r.ensures.buf_unchanged) c.requires.0.plain))

pub returns-in-Err-clause-stands : goal.returns-in-Err-clause-stands
returns-in-Err-clause-stands g c =
    let r = c.read_behind in
    λ q h. c.at_failure.ensures.stands q _ (stands_read _ q _ _ _ h r.auto.buf r.ensures.buf_unchanged)

pub returns-in-Ok-Some-clause-moves : goal.returns-in-Ok-Some-clause-moves
unfolding Took
returns-in-Ok-Some-clause-moves g c =
    let q = c.read_behind in
    let k = q.auto.buf in
    let d = c.requires.0.held in
    let n = bytes_within _ _ _ q.ensures.brought (c.in-Ok-Some.is ∙ ap Ok c.in-Ok-Some.field-0-is) in
    λ r had held holds h.
    moves_as _ _ r _ _ _ _ _ _ c.came.ensures
    (moves_more _ r _ _ _ _ _ _ (moves_read _ r _ _ _ _ _ _ h _ k q.ensures.buf_unchanged) c.requires.0.next_is _ (omega arith) _ (rw c.in-Ok-Some.field-0-is at c.in-Ok-Some.ensures.took))

pub returns-in-Ok-None-clause-moves : goal.returns-in-Ok-None-clause-moves
unfolding Took
returns-in-Ok-None-clause-moves g c =
    let q = c.read_behind in
    let k = q.auto.buf in
    let d = c.requires.0.held in
    let room : 0 < length (drop c.args.s.left q.new.buf) = simp length-drop (omega arith) in
    let t = rw c.in-Ok-None.field-0-is at c.in-Ok-None.ensures.took in
    λ r had held holds h.
    moves_as _ _ r _ _ _ _ _ _ c.at_end.ensures
    (moves_end _ r _ _ _ _ _ _ (moves_read _ r _ _ _ _ _ _ h _ k q.ensures.buf_unchanged) c.requires.0.next_is
    (subst NoLine (sym q.ensures.buf_unchanged) c.requires.0.plain)
    _
    t.0
    (t.1 room))

pub returns-in-Err-clause-moves : goal.returns-in-Err-clause-moves
unfolding Took
returns-in-Err-clause-moves g c =
    let q = c.read_behind in
    λ r had held holds h.
    c.at_failure.ensures.moves r _ _ _ _ _
    (moves_left _ r _ _ _ _ _ _ (moves_read _ r _ _ _ _ _ _ h _ q.auto.buf q.ensures.buf_unchanged) _ c.in-Err.ensures.took c.requires.0.next_is)
