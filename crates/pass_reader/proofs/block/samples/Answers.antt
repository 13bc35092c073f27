-- `pass_reader::block::samples` meets its contract. Refused before anything is written, or all of it written.
use mathlib.Core.Path.{sym, ◌∙◌}
use lib.Seq.{length-take-le}
use Rattle.pass_reader.proofs.BlockLaws.{whole_groups, few_groups}
use Rattle.pass_reader.proofs.block.samples.Goals as goal

pub slice_bounds-read_bits-end : goal.slice_bounds-read_bits-end
slice_bounds-read_bits-end c = sym (length-take-le _ _ (few_groups c.args.t.now (sym c.has_whole_pairs.ensures ∙ c.if-not-has_whole_pairs.false)))

pub read_bits-requires : goal.read_bits-requires
read_bits-requires c =
    let w = sym c.has_whole_pairs.ensures ∙ c.if-not-has_whole_pairs.false in
    rw (length-take-le _ _ (few_groups c.args.t.now w)) (whole_groups c.args.t.now w)
