-- `pass_reader::block::flag_and_samples` meets its contract. With samples that are none, and with both fields.
use Rattle.std.proofs.Common.{◌≡◌, None, rules, sym, ◌∙◌}
use Rattle.pass_reader.proofs.ByteLaws.{tail_is}
use Rattle.pass_reader.proofs.BlockLaws.{no_samples_said, both_said}
use Rattle.pass_reader.proofs.block.flag_and_samples.Goals as goal

pub returns-in_err-count : goal.returns-in_err-count
returns-in_err-count c =
    let n : c.from_residual-in_err-count.result ≡ None = search rules in
    let p = c.in_ok-end.ensures in
    rw n (no_samples_said c.args.s.now _ _ p.0 p.1 (rw tail_is at c.samples.ensures) c.in_err-count.was)

pub returns : goal.returns
returns c =
    let p = c.in_ok-end.ensures in
    both_said c.args.s.now _ _ p.0 p.1 (sym c.in_ok-flag.was ∙ c.decimal.ensures) (rw tail_is at c.samples.ensures) c.in_ok-count.was
