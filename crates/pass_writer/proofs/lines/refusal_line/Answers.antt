-- `pass_writer::lines::refusal_line` meets its contract. By the room that there is: three fields, one behind the other.
use mathlib.Core.List.{◌++◌, ◌∷◌, []}
use native.Mathlib.Omega.{arith}
use Rattle.pass_reader.specs.Bytes.{bytes}
use Rattle.pass_writer.specs.Digits.{decimal_text}
use Rattle.pass_writer.specs.Lines.{refusal_text}
use Rattle.pass_writer.proofs.LaidLaws.{line_written, room_size, then_wrote, wrote_as, joined_three}
use Rattle.pass_writer.proofs.lines.refusal_line.Goals as goal

pub returns : goal.returns
unfolding refusal_text
returns c =
    let room = c.in-Some.ensures.cases in
    let size = room_size room in
    let n1 = c.put_number-n.ensures in
    let n2 = c.put_number.ensures in
    let k = c.put_bytes-n.ensures.count_is in
    let l1 = n1.upper_bound in let l2 = n2.upper_bound in
    let r2 = then_wrote (decimal_text c.args.line ++ (32 ∷ [])) size (omega arith) c.put_bytes-n.ensures n1.wrote in
    let r3 = then_wrote (decimal_text c.args.number ++ (10 ∷ [])) size (omega arith) r2 n2.wrote in
    line_written room (omega arith) (wrote_as _ (joined_three (bytes "refused") (decimal_text c.args.line) (decimal_text c.args.number)) r3)
