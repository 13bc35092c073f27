-- `pass_reader::block::write_components` meets its contract. Loop: the first i components lie over the front of the buffer.
use mathlib.Core.Path.{◌∙◌, ap}
use mathlib.Core.List.{List, ◌++◌, map}
use native.Mathlib.Omega.{arith}
use lib.ListN.{take, drop, set, length-set}
use lib.Ieee.{Float, binary32, of_bits}
use Rattle.pass_reader.proofs.BlockLaws.{laid_more, laid_done}
use Rattle.pass_reader.proofs.block.write_components.Goals as goal

pub loop-i-preserved : goal.loop-i-preserved
loop-i-preserved c = let bits = c.args.bits.now in
    let old = c.args.out.now in
    let i = c.loop-i.i in (
      c.loop-i.invariant.0,
      simp length-set c.loop-i.invariant.1,
      ap (λ (o : List Float). set o i c.f32_from_bits.result) c.loop-i.invariant.2 ∙ ap (set (map (of_bits binary32) (take i bits) ++ drop i old) i)
          c.f32_from_bits.ensures ∙ laid_more bits old i (omega arith) (omega arith),
    )

pub returns : goal.returns
returns c = c.loop-i.invariant.2 ∙ laid_done c.args.bits.now c.args.out.now c.loop-i.i (omega arith)
