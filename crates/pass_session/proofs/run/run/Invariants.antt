-- `run`: the lines of what is left of the chunk, run from here, come to the same as all its lines from the start.
use mathlib.Core.Path.{◌≡◌}
use mathlib.Core.List.{[]}
use Prim.Native.Nat.{◌-◌, ◌≤◌}
use lib.ListN.{length, drop}
use Rattle.pass_stream.specs.Stream.{lines}
use Rattle.pass_setup.specs.Code.Buffers.{lines_run, as_chunk_run}
use Rattle.pass_session.proofs.run.run.Given as goal

abbrev pub invariant-loop-n : goal.invariant-loop-n
invariant-loop-n l = record {
  used : l.r.used ≤ length l.s;
  fits : l.r.at ≤ length l.out;
  room : length l.out ≡ length l.initial.out;
  ran : lines_run (lines (drop l.r.used l.s)) (as_chunk_run l.r l.windows l.out)
      ≡ lines_run (lines l.s) (record { pass = l.initial.r.pass; windows = l.initial.windows; used = 0; list = []; behind = l.initial.out });
}

abbrev pub decreases-loop-n : goal.decreases-loop-n
decreases-loop-n l = length l.s - l.r.used
