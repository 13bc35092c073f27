-- `pass_reader::number::digits` meets its contract. Loop: the digits read so far make v, which stays below 16 to the power of their count; what is left of the test and of the number is that of the whole.
use mathlib.Core.Path.{◌≡◌, ◌∙◌, ap}
use Prim.Native.Nat.{ℕ, ◌+◌, ◌*◌}
use native.Mathlib.Omega.{arith}
use lib.ListN.{get_or}
use Rattle.sequences.proofs.FoldLaws.{fold_next}
use Rattle.pass_reader.specs.Numbers.{digit_value, digit_behind}
use Rattle.pass_reader.proofs.NumberLaws.{grown, short, number_stops, number_ends, digit_goes_on}
use Rattle.pass_reader.proofs.number.digits.Goals as goal

pub returns-then-d-base : goal.returns-then-d-base
returns-then-d-base c =
    let d = c.digit-d.ensures in
    number_stops c.args.base c.args.s.now c.loop-b.b-index (omega arith) c.loop-b.invariant.digits (omega arith)

pub overflow_mul-v : goal.overflow_mul-v
overflow_mul-v c =
    let g = grown c.args.base c.loop-b.v c.digit-d.result c.loop-b.b-index c.loop-b.invariant.base c.loop-b.invariant.below (omega arith) in
    let r = short _ (c.loop-b.b-index + 1) (omega arith) g in
    record { fits = omega arith }

pub overflow_add-v : goal.overflow_add-v
overflow_add-v c =
    let g = grown c.args.base c.loop-b.v c.digit-d.result c.loop-b.b-index c.loop-b.invariant.base c.loop-b.invariant.below (omega arith) in
    let r = short _ (c.loop-b.b-index + 1) (omega arith) g in
    record { fits = omega arith }

pub loop-b-preserved : goal.loop-b-preserved
loop-b-preserved c =
    let s = c.args.s.now in
    let b = c.args.base in
    let i = c.loop-b.b-index in
    let h = c.loop-b.invariant in
    let d : c.digit-d.result ≡ digit_value (get_or s i 0) = c.digit-d.ensures in
    record {
      short = h.short;
      base = h.base;
      below = grown b c.loop-b.v c.digit-d.result i h.base h.below (omega arith);
      digits = digit_goes_on b s i (omega arith) (omega arith) ∙ h.digits;
      number = fold_next s i (digit_behind b) 0 (omega arith) (ap (λ (x : ℕ). c.loop-b.v * b + x) d) ∙ h.number;
    }

pub returns : goal.returns
returns c = number_ends c.args.base c.args.s.now c.loop-b.b-index c.loop-b.v (omega arith) c.loop-b.invariant.digits c.loop-b.invariant.number
