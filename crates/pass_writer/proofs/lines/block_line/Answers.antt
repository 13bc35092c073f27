-- `pass_writer::lines::block_line` meets its contract. By the room that there is: seven fields, one behind the other.
use mathlib.Core.Bool.{cond}
use mathlib.Core.Path.{◌∙◌, ap}
use mathlib.Core.List.{◌++◌, ◌∷◌, []}
use Prim.Native.Nat.{ℕ}
use native.Mathlib.Omega.{arith}
use Rattle.pass_writer.specs.Digits.{decimal_text, float_text}
use Rattle.pass_writer.specs.Lines.{block_text}
use Rattle.pass_writer.proofs.LaidLaws.{line_written, room_size, then_wrote, wrote_as, joined_seven, bit_is}
use Rattle.pass_writer.proofs.lines.block_line.Goals as goal

pub returns : goal.returns
unfolding block_text
returns c =
    let room = c.in-Some.ensures.cases in
    let size = room_size room in
    let a = c.args.a in
    let n1 = c.put_number-n.ensures in
    let n2 = c.put_number-n-2.ensures in
    let n3 = c.put_number-n-3.ensures in
    let n4 = c.put_number-n-4.ensures in
    let f1 = c.put_float-n.ensures in
    let f2 = c.put_float-n-2.ensures in
    let f3 = c.put_float.ensures in
    let l1 = n1.upper_bound in let l2 = n2.upper_bound in let l3 = n3.upper_bound in let l4 = n4.upper_bound in let l5 = f1.upper_bound in let l6 = f2.upper_bound in let l7 = f3.upper_bound in
    let w2 = wrote_as (decimal_text (cond a.locked 1 0) ++ (32 ∷ []))
    (ap (λ (n : ℕ). decimal_text n ++ (32 ∷ [])) (c.from.ensures ∙ bit_is a.locked))
    n2.wrote in
    let r2 = then_wrote (decimal_text (cond a.locked 1 0) ++ (32 ∷ [])) size (omega arith) n1.wrote w2 in
    let r3 = then_wrote (decimal_text a.tracker ++ (32 ∷ [])) size (omega arith) r2 n3.wrote in
    let r4 = then_wrote (decimal_text a.fade ++ (32 ∷ [])) size (omega arith) r3 n4.wrote in
    let r5 = then_wrote (float_text a.phase ++ (32 ∷ [])) size (omega arith) r4 f1.wrote in
    let r6 = then_wrote (float_text a.frequency ++ (32 ∷ [])) size (omega arith) r5 f2.wrote in
    let r7 = then_wrote (float_text a.snr ++ (10 ∷ [])) size (omega arith) r6 f3.wrote in
    line_written room (omega arith)
    (wrote_as _
    (joined_seven (decimal_text c.args.count) (decimal_text (cond a.locked 1 0)) (decimal_text a.tracker) (decimal_text a.fade) (float_text a.phase) (float_text a.frequency) (float_text a.snr))
    r7)
