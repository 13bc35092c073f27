-- `run`: the lines of what is left of the chunk, run from here, come to the same as all its lines from the start.
use mathlib.Core.Path.{refl, sym, ◌∙◌}
use native.Mathlib.Omega.{arith}
use lib.ListN.{drop}
use borrow.Author.Tests.{leb-true}
use Rattle.pass_stream.specs.Stream.{lines}
use Rattle.pass_setup.specs.Code.Buffers.{as_chunk_run}
use Rattle.pass_session.proofs.RunLaws.{run_full, has_room_is, run_ends, run_goes_on, line_fits, given_back_length, added_fits}
use Rattle.pass_session.proofs.run.run.Goals as goal

pub loop-n-init : goal.loop-n-init
unfolding as_chunk_run
loop-n-init c = record { used = omega arith; fits = omega arith; room = refl; ran = refl }

pub returns-in_default-clause-ran : goal.returns-in_default-clause-ran
unfolding as_chunk_run
returns-in_default-clause-ran c =
    run_ends c.args.s.now (as_chunk_run c.loop-n.r c.loop-n.windows c.loop-n.out) c.in_default.ensures ∙ c.loop-n.invariant.ran

pub overflow_add-end : goal.overflow_add-end
overflow_add-end c =
    let h = line_fits c.args.s.now c.loop-n.r.used c.in-Some.n c.in-Some.ensures.1 c.loop-n.invariant.used in
    omega (arith, c.well_formed.1.0.1)

pub slice_bounds-judge-end : goal.slice_bounds-judge-end
slice_bounds-judge-end c =
    let h = line_fits c.args.s.now c.loop-n.r.used c.in-Some.n c.in-Some.ensures.1 c.loop-n.invariant.used in
    omega arith

pub overflow_add-r : goal.overflow_add-r
overflow_add-r c =
    let i = c.loop-n.invariant in
    let a = added_fits c.judge-j.result c.judge-j.new.out _ c.loop-n.r.at c.loop-n.out i.fits c.judge-j.auto.out c.judge-j.ensures in
    omega (arith, c.well_formed.1.1.1)

pub loop-n-preserved : goal.loop-n-preserved
loop-n-preserved c =
    let i = c.loop-n.invariant in
    let e = c.in-Some.ensures.1 in
    let k = c.judge-j.auto in
    let l = given_back_length c.loop-n.r.at c.loop-n.out c.judge-j.new.out i.fits k.out in
    let a = added_fits c.judge-j.result c.judge-j.new.out _ c.loop-n.r.at c.loop-n.out i.fits k.out c.judge-j.ensures in
    record {
      used = line_fits c.args.s.now c.loop-n.r.used c.in-Some.n e i.used;
      fits = omega arith;
      room = l ∙ i.room;
      ran =
          run_goes_on c.args.s.now c.loop-n.r c.loop-n.windows c.loop-n.out c.in-Some.n e c.judge-j.result c.judge-j.new.windows c.judge-j.new.out i.fits
          (leb-true _ _ (sym c.has_room.ensures ∙ c.loop-n-test.true)) c.in-Some.ensures.0 c.judge-j.ensures ∙ i.ran;
    }

pub returns-clause-ran : goal.returns-clause-ran
returns-clause-ran c =
    run_full (lines (drop c.loop-n.r.used c.args.s.now)) (as_chunk_run c.loop-n.r c.loop-n.windows c.loop-n.out)
    (has_room_is c.loop-n.r c.loop-n.windows c.loop-n.out _ (sym c.has_room.ensures ∙ c.loop-n-test.false))
    ∙ c.loop-n.invariant.ran
