-- `pass_writer::lines::failure_line` meets its contract. By the room that there is: two fields, one behind the other.
use mathlib.Core.List.{◌++◌, ◌∷◌, []}
use native.Mathlib.Omega.{arith}
use Rattle.pass_reader.specs.Bytes.{bytes}
use Rattle.pass_writer.specs.Digits.{decimal_text}
use Rattle.pass_writer.specs.Lines.{failure_text}
use Rattle.pass_writer.proofs.LaidLaws.{line_written, room_size, then_wrote, wrote_as, joined_two}
use Rattle.pass_writer.proofs.lines.failure_line.Goals as goal

pub returns : goal.returns
unfolding failure_text
returns c =
    let room = c.in-Some.ensures.cases in
    let size = room_size room in
    let n = c.put_number.ensures in
    let k = c.put_bytes-n.ensures.count_is in
    let l = n.upper_bound in
    line_written room (omega arith)
    (wrote_as _ (joined_two (bytes "failed") (decimal_text c.args.error)) (then_wrote (decimal_text c.args.error ++ (10 ∷ [])) size (omega arith) c.put_bytes-n.ensures n.wrote))
