-- `pass_reader::block::read_bits` meets its contract. Loop: the i groups passed are of digits alone, and their bits, in front of those of the groups that are left, are the bits of all.
use mathlib.Core.Path.{◌≡◌}
use mathlib.Core.List.{◌++◌}
use Prim.Native.Nat.{◌-◌, ◌*◌}
use lib.ListN.{length, take, drop}
use Rattle.sequences.specs.Folds.{every}
use Rattle.pass_reader.specs.Numbers.{is_digit}
use Rattle.pass_reader.specs.Lines.{bits_of}
use Rattle.pass_reader.proofs.block.read_bits.Given as goal

abbrev pub invariant-loop-i : goal.invariant-loop-i
invariant-loop-i l = record {
  whole : 8 * length l.bits ≡ length l.t;
  room : length l.bits ≡ length l.initial.bits;
  digits : every (is_digit 16) (drop (8 * l.i) l.t) ≡ every (is_digit 16) l.t;
  read : bits_of (length l.bits) l.t ≡ take l.i l.bits ++ bits_of (length l.bits - l.i) (drop (8 * l.i) l.t);
}
