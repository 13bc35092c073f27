-- `pass_writer::lines::names_line` meets its contract. By the room that there is.
use native.Mathlib.Omega.{arith}
use Rattle.pass_writer.proofs.LaidLaws.{line_written}
use Rattle.pass_writer.proofs.lines.names_line.Goals as goal

pub returns : goal.returns
returns c = let k = c.put_bytes.ensures.count_is in line_written c.in-Some.ensures.cases (omega arith) c.put_bytes.ensures
