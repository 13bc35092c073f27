-- Figures (the scope, module 9): "`collect_tracker_features`; twelve zeros without a bank". Definitions only.
use Rattle.std.specs.Prelude.{cond, List, replicate, Float}
use Rattle.ieee754.specs.Binary32 as float32
use Rattle.bank_model.specs.Features.{features}
use Rattle.channel_model.specs.declared.Channel.{Channel}

unfoldable pub figures : Channel → List Float
figures c = cond c.setup.bank (features c.bank) (replicate 12 float32.zero)
