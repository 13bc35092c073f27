-- `pass_writer::digits::put_number` meets its contract. The digits, and the byte after them.
use mathlib.Core.Path.{sym, ◌∙◌}
use native.Mathlib.Omega.{arith}
use lib.Seq.{length-take-le}
use Rattle.pass_writer.specs.Digits.{decimal_text}
use Rattle.pass_writer.proofs.DigitLaws.{decimal_digits}
use Rattle.pass_writer.proofs.LaidLaws.{put_after}
use Rattle.pass_writer.proofs.digits.put_number.Goals as goal

pub returns-clause-wrote : goal.returns-clause-wrote
returns-clause-wrote c =
    let n = c.args.n in
    let k = c.places-count.ensures.value in
    let l = length-take-le c.places-count.result c.args.out.now (omega arith) in
    put_after (decimal_text n) c.args.out.now c.places-count.result c.args.end (sym k) (omega arith) (c.put_digits.ensures ∙ rw (l, k, decimal_digits n))
