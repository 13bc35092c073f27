-- `pass_writer::digits::put_float` meets its contract. The digits, and the byte after them.
use mathlib.Core.Path.{◌∙◌}
use native.Mathlib.Omega.{arith}
use lib.Seq.{length-take-le}
use Rattle.pass_writer.specs.Digits.{float_text}
use Rattle.pass_writer.proofs.DigitLaws.{length_float}
use Rattle.pass_writer.proofs.LaidLaws.{put_after}
use Rattle.pass_writer.proofs.digits.put_float.Goals as goal

pub returns-clause-wrote : goal.returns-clause-wrote
unfolding float_text
returns-clause-wrote c =
    let x = c.args.x in
    let l = length-take-le 16 c.args.out.now (omega arith) in
    put_after (float_text x) c.args.out.now 16 c.args.end (length_float x) (omega arith) (c.put_digits.ensures ∙ rw (l, c.f64_to_bits.ensures))
