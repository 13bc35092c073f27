-- `jumps` meets its contract: each call makes one number. Assumes nothing.
use Rattle.std.proofs.Common.{rules}
use Rattle.tracker_covariance.proofs.Filling.{made_by}
use Rattle.channel_script.specs.Code.Blocks.{jump, jumps}
use Rattle.channel_script.proofs.block.jumps.Goals as goal

pub returns : goal.returns
unfolding jumps
returns c = made_by _ jump _ (λ i y q h. (search rules, search rules)) _ 8194 c.from_fn.ensures.items
