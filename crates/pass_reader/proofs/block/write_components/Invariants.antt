-- `pass_reader::block::write_components` meets its contract. Loop: the first i components lie over the front of the buffer.
use mathlib.Core.Path.{◌≡◌}
use mathlib.Core.List.{◌++◌, map}
use Prim.Native.Nat.{◌≤◌}
use lib.ListN.{length, take, drop}
use lib.Ieee.{binary32, of_bits}
use Rattle.pass_reader.proofs.block.write_components.Given as goal

abbrev pub invariant-loop-i : goal.invariant-loop-i
invariant-loop-i l =
    (length l.bits ≤ length l.initial.out) × (length l.out ≡ length l.initial.out) × (l.out ≡ map (of_bits binary32) (take l.i l.bits) ++ drop l.i l.initial.out)
