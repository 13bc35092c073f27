-- `pass_reader::block::read_bits` meets its contract. Loop: the i groups passed are of digits alone, and their bits, in front of those of the groups that are left, are the bits of all.
use Rattle.std.proofs.Common.{Some, None, rules}
use mathlib.Core.Path.{◌≡◌, refl, sym, ◌∙◌}
use mathlib.Core.Bool.{true}
use Prim.Native.Nat.{◌*◌, ◌/◌}
use native.Mathlib.Omega.{arith}
use lib.ListN.{length, take, drop, length-set, length-drop}
use lib.Seq.{length-take-le}
use Rattle.sequences.specs.Folds.{every}
use Rattle.sequences.proofs.FoldLaws.{every_end}
use Rattle.pass_reader.specs.Numbers.{is_digit, number_of}
use Rattle.pass_reader.proofs.NumberLaws.{number_below}
use Rattle.pass_reader.proofs.BlockLaws.{group_of, group_stops, group_goes_on, bits_more, bits_start, bits_end}
use Rattle.pass_reader.proofs.block.read_bits.Goals as goal

pub loop-i-init : goal.loop-i-init
loop-i-init c = record { whole = c.requires; room = refl; digits = refl; read = bits_start _ _ }

pub returns-in_err-bit : goal.returns-in_err-bit
returns-in_err-bit c =
    let t = c.args.t.now in
    let n : c.from_residual.result ≡ None = search rules in
    let e : None ≡ number_of 16 (take 8 (drop (8 * c.loop-i.i) t)) = sym c.in_err-bit.was ∙ c.digits.ensures ∙ group_of t c.loop-i.i in
    rw n (sym c.loop-i.invariant.digits ∙ group_stops t c.loop-i.i e)

pub overflow_cast-bit : goal.overflow_cast-bit
overflow_cast-bit c =
    let t = c.args.t.now in
    let e : Some c.in_ok-bit.field-0 ≡ number_of 16 (take 8 (drop (8 * c.loop-i.i) t)) = sym c.in_ok-bit.was ∙ c.digits.ensures ∙ group_of t c.loop-i.i in
    let n = length-take-le 8 (drop (8 * c.loop-i.i) t) (rw length-drop (omega arith)) in
    let b = rw n at (number_below 16 _ _ e) in
    record { fits = omega arith }

pub loop-i-preserved : goal.loop-i-preserved
loop-i-preserved c =
    let t = c.args.t.now in
    let i = c.loop-i.i in
    let h = c.loop-i.invariant in
    let e : Some c.in_ok-bit.field-0 ≡ number_of 16 (take 8 (drop (8 * i) t)) = sym c.in_ok-bit.was ∙ c.digits.ensures ∙ group_of t i in
    record {
      whole = simp length-set h.whole;
      room = simp length-set h.room;
      digits = group_goes_on t i _ e ∙ h.digits;
      read = simp length-set (bits_more t i _ _ c.loop-i.bits (omega arith) (omega arith) e h.read);
    }

pub returns : goal.returns
returns c =
    let t = c.args.t.now in
    let i = c.loop-i.i in
    let h = c.loop-i.invariant in
    let bits = c.loop-i.bits in
    let n : length t / 8 ≡ length bits = omega arith in
    let d : every (is_digit 16) (drop (8 * i) t) ≡ true = every_end t (8 * i) (is_digit 16) (omega arith) in
    (sym h.digits ∙ d, rw n (bits_end (length bits) i t bits refl (omega arith) (omega arith) h.read))
