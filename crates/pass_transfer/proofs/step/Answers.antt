-- `step`: a write, or a read if one is due.
use mathlib.Core.Path.{◌≡◌}
use native.Mathlib.Omega.{arith}
use lib.ListN.{length}
use borrow.Author.Rules.{rules}
use Rattle.pass_transfer.proofs.StandingLaws.{ready_read}
use Rattle.pass_transfer.proofs.step.Goals as goal

pub fetch-requires : goal.fetch-requires
fetch-requires g c =
    let h = c.requires.0 in
    let q = ready_read _ _ _ h.ready c.in-Read.is in
    let a = h.sent in
    let b = c.if-s.false in
    let z : length c.args.out.now ≡ 65536 = search rules in
    (record { next_is = c.in-Read.is; sent = omega arith; held = q.1; plain = q.0; list = omega arith }, c.requires.1)

pub returns-then-s-clause-moves : goal.returns-then-s-clause-moves
returns-then-s-clause-moves g c = λ r had held h. c.send.ensures.moves r _ _ _ _ h

pub returns-in-Read-clause-moves : goal.returns-in-Read-clause-moves
returns-in-Read-clause-moves g c = λ r had held h. c.fetch.ensures.moves r _ _ _ h
