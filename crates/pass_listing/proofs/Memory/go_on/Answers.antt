-- `go_on`: a write or a read, the end of the text, or the lines that are held.
use lib.ListN.{length}
use borrow.Author.Rules.{rules}
use mathlib.Core.Path.{◌≡◌, refl, sym, ◌∙◌}
use native.Mathlib.Omega.{arith}
use Rattle.pass_transfer.specs.declared.State.{State}
use Rattle.pass_transfer.proofs.StandingLaws.{stands_as, ready_close}
use Rattle.pass_transfer.proofs.MovesLaws.{moves_as}
use Rattle.pass_listing.proofs.TurnedLaws.{stands_ended, stands-turned}
use Rattle.pass_listing.proofs.CarriedLaws.{moves_ended, moves_turned}
use Rattle.pass_listing.proofs.Memory.go_on.Goals as goal

pub end-n-requires : goal.end-n-requires
end-n-requires g c =
    let z : length c.args.self.now.list ≡ 65536 = search rules in
    (omega arith, ready_close _ _ _ c.requires.0.ready c.in-Close.is)

pub returns-in-Close-clause-stands : goal.returns-in-Close-clause-stands
returns-in-Close-clause-stands g c =
    λ h.
    stands_as _ _ _ _ _ c.closing.ensures
    (stands_ended c.args.s _ _ _ _ h (sym c.is_due.ensures ∙ c.if-not-is_due.false) _ _ c.end-n.ensures.upper_bound c.end-n.ensures.finished)

pub returns-then-not-is_due-clause-moves : goal.returns-then-not-is_due-clause-moves
returns-then-not-is_due-clause-moves g c = λ had held h. c.step.ensures.moves _ _ _ h

pub returns-in-Close-clause-moves : goal.returns-in-Close-clause-moves
returns-in-Close-clause-moves g c =
    λ had held h.
    moves_as _ _ _ _ _ _ _ _ _ c.closing.ensures
    (moves_ended c.args.s _ _ _ _ _ _ _ _ h (sym c.is_due.ensures ∙ c.if-not-is_due.false) c.in-Close.is _ _ c.end-n.ensures.upper_bound c.end-n.ensures.finished)

pub returns : goal.returns
returns g c =
    let a = c.args.s in
    let t = c.turn-f in
    let f = t.result in
    let due = sym c.is_due.ensures ∙ c.if-not-is_due.false in
    let r : State = record { left = f.left; from = 0; at = f.at; next = f.next; error = a.error; stuck = a.stuck; read = a.read; written = a.written } in
    record {
      moves = λ had held h. moves_turned a _ _ _ _ _ _ _ _ h due r _ _ _ _ refl refl refl t.ensures.within.held t.ensures.within.list t.ensures.turned t.ensures.gets_on;
      stands = λ h. stands-turned a _ _ _ _ h due r _ _ _ _ refl refl refl t.ensures.within.held t.ensures.within.list t.ensures.turned t.ensures.gets_on;
      counted = (omega arith, omega arith);
    }
