-- `pass_writer::digits::put_digits` meets its contract. It calls itself for the places in front of the last.
use Rattle.std.proofs.Common.{length}
use Rattle.pass_writer.proofs.digits.+put_digits.Given as goal

abbrev pub decreases-put_digits : goal.decreases-put_digits
decreases-put_digits l = length l.out.now
