-- `set_by_start` meets its contract: as much of the memory as was written has what the rule gives. Assumes nothing.
use Rattle.std.proofs.Common.{◌≡◌, take, length}
use Rattle.vectors.specs.Code.Lines.{from_place}
use Rattle.channel_vectors.specs.Code.Memory.{sixty_fourths}
use Rattle.channel_vectors.proofs.memory.set_by_start.Given as goal

abbrev pub invariant-loop-i : goal.invariant-loop-i
invariant-loop-i l = (take l.i l.windows ≡ from_place (sixty_fourths l.start) 0 l.i) × (length l.windows ≡ length l.initial.windows)
