-- `limit`: the two states after the phase are among the six; the limits are the products that the definition names.
use Rattle.tracker.proofs.CorrectionSteps.{limited_is}
use Rattle.tracker.proofs.correction.limit.Goals as goal

pub returns : goal.returns
returns c = limited_is _ _ _ _ _ c.phase_index-i.ensures c.clamp-f.ensures c.clamp-c.ensures
