-- `turn`: the run over the held bytes, and the four ways out of it.
use mathlib.Core.Path.{sym, subst, ◌∙◌}
use Prim.Native.Nat.{◌<◌}
use native.Mathlib.Omega.{arith}
use lib.ListN.{length}
use lib.Seq.{length-take-le, take_all}
use borrow.Author.Tests.{leb-true, le-leb}
use Rattle.pass_transfer.specs.Code.Standing.{NoLine}
use Rattle.pass_session.proofs.RunLaws.{given_back_length, fits_behind}
use Rattle.pass_turn.proofs.TurnLaws.{carried_count, carried_front, turn_stops, no_line, some_used, turn-again, turn-reads, turn-refuses}
use Rattle.pass_turn.specs.Code.Turning.{GetsOn}
use Rattle.pass_turn.proofs.turn.Goals as goal

pub returns-then-is_stopped : goal.returns-then-is_stopped
unfolding GetsOn
returns-then-is_stopped c =
    let r = c.run-r in
    record {
      within = record { held = omega arith; list = r.ensures.within.1 };
      turned = turn_stops _ _ _ _ r.result _ _ r.ensures.ran (sym c.is_stopped.ensures ∙ c.if-is_stopped.true) _ _;
      gets_on = tt;
    }

pub returns-then-not-has_room : goal.returns-then-not-has_room
unfolding GetsOn
returns-then-not-has_room c =
    let r = c.run-r in
    let k = c.carry-rest in
    let u = r.ensures.within.0 in
    let q = length-take-le c.args.left c.args.buf.now c.requires.held in
    let n = carried_count _ _ _ _ _ k.ensures u c.requires.held in
    let b = k.auto.buf in
    let full = sym c.has_room.ensures ∙ c.if-not-has_room.true in
    let o = some_used _ _ _ _ r.result _ _ r.ensures.ran (le-leb _ _ c.requires.list) full in
    record {
      within = record { held = let m = c.requires.held in omega arith; list = r.ensures.within.1 };
      turned = turn-again _ _ _ _ r.result _ _ r.ensures.ran _ (carried_front _ _ _ _ _ k.ensures u c.requires.held);
      gets_on = omega arith;
    }

pub too_long-added-requires : goal.too_long-added-requires
too_long-added-requires c =
    let r = c.run-r in
    let k = c.carry-rest in
    let f = carried_front _ _ _ _ _ k.ensures r.ensures.within.0 c.requires.held in
    let whole = sym (take_all k.result k.new.buf (let v = c.if-rest-buf.true in omega arith)) ∙ f in
    let h = sym c.has_room.ensures ∙ c.if-not-has_room.false in
    let b = k.auto.buf in
    let z = c.requires.text in
    (leb-true _ _ h, record { going = sym c.is_stopped.ensures ∙ c.if-is_stopped.false; plain = subst NoLine (sym whole) (no_line _ _ _ _ r.result _ _ r.ensures.ran h); long = omega arith })

pub returns-then-rest-buf : goal.returns-then-rest-buf
unfolding GetsOn
returns-then-rest-buf c =
    let r = c.run-r in
    let k = c.carry-rest in
    let f = carried_front _ _ _ _ _ k.ensures r.ensures.within.0 c.requires.held in
    let whole = sym (take_all k.result k.new.buf (let v = c.if-rest-buf.true in omega arith)) ∙ f in
    let t = c.too_long-added in
    let l = r.ensures.within.1 in
    let g = given_back_length r.result.at r.new.out t.new.out l t.auto.out in
    let a = fits_behind r.result.at t.result r.new.out t.new.out l t.auto.out t.ensures.upper_bound in
    record {
      within = record { held = omega arith; list = omega arith };
      turned = turn-refuses _ _ _ _ r.result _ _ r.ensures.ran _ whole t.result t.new.out l t.ensures.upper_bound (t.ensures.more_value _) _ _;
      gets_on = tt;
    }

pub returns : goal.returns
unfolding GetsOn
returns c =
    let r = c.run-r in
    let k = c.carry-rest in
    let u = r.ensures.within.0 in
    let q = length-take-le c.args.left c.args.buf.now c.requires.held in
    let n = carried_count _ _ _ _ _ k.ensures u c.requires.held in
    let f = carried_front _ _ _ _ _ k.ensures u c.requires.held in
    let b = k.auto.buf in
    let m = c.requires.held in
    let h = sym c.has_room.ensures ∙ c.if-not-has_room.false in
    let v = c.if-rest-buf.false in
    let y : k.result < length k.new.buf = omega arith in
    record {
      within = record { held = omega arith; list = r.ensures.within.1 };
      turned = turn-reads _ _ _ _ r.result _ _ r.ensures.ran _ f;
      gets_on = (subst NoLine (sym f) (no_line _ _ _ _ r.result _ _ r.ensures.ran h), y);
    }
