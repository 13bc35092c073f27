-- `Estimate::start` is safe: its pattern is no NaN's.
use Rattle.std.proofs.Common.{ℕ, ◌-◌, ◌/◌, ◌≤◌, arith}
use lib.Ieee.{binary64}
use Rattle.ieee754.proofs.Fields.{no_nan_plain}
use Rattle.ieee754_roots.proofs.goldschmidt.Estimate.start.Goals as goal

pub float_from_bits-y : goal.float_from_bits-y
float_from_bits-y c = no_nan_plain binary64 _ (under c.args.bits)
  where
    under : (b : ℕ) → 0x5fe6_eb50_c7b5_37a9 - b / 2 ≤ 0x7ff0_0000_0000_0000
    under b = omega arith
