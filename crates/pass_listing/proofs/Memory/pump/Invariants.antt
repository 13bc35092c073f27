-- `pump`: every turn leaves the stream standing, and counts no more than the larger buffer.
use mathlib.Core.List.{List}
use Rattle.std.specs.Prelude.{Option}
use Prim.Native.Nat.{ℕ, ◌*◌, ◌≤◌}
use Rattle.pass_transfer.specs.Code.Standing.{onward, Stands, Moves}
use Rattle.pass_listing.proofs.Memory.pump.Given as goal

abbrev pub invariant-loop-turn : goal.invariant-loop-turn
invariant-loop-turn g l = record {
  stands : Stands l.s (onward l.pass l.self.windows) l.self.text l.self.list;
  moves : (had held : Option (List ℕ)) → Moves l.initial.s (onward l.initial.pass l.initial.self.windows) l.initial.self.text l.initial.self.list had (g.R.Read.remaining l.initial.input) held (g.W.Write.contents l.initial.output)
      → Moves l.s (onward l.pass l.self.windows) l.self.text l.self.list had (g.R.Read.remaining l.input) held (g.W.Write.contents l.output);
  read : l.s.read ≤ 262144 * l.turn;
  written : l.s.written ≤ 262144 * l.turn;
}
