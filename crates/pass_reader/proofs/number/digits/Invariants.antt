-- `pass_reader::number::digits` meets its contract. Loop: the digits read so far make v, which stays below 16 to the power of their count; what is left of the test and of the number is that of the whole.
use mathlib.Core.Path.{◌≡◌}
use Prim.Native.Nat.{◌≤◌, ◌<◌, ◌^◌}
use lib.ListN.{length, drop}
use Rattle.sequences.specs.Folds.{fold, every}
use Rattle.pass_reader.specs.Numbers.{is_digit, digit_behind}
use Rattle.pass_reader.proofs.number.digits.Given as goal

abbrev pub invariant-loop-b : goal.invariant-loop-b
invariant-loop-b l = record {
  short : length l.s ≤ 12;
  base : l.base ≤ 16;
  below : l.v < 16 ^ l.b-index;
  digits : every (is_digit l.base) (drop l.b-index l.s) ≡ every (is_digit l.base) l.s;
  number : fold (digit_behind l.base) l.v (drop l.b-index l.s) ≡ fold (digit_behind l.base) 0 l.s;
}
