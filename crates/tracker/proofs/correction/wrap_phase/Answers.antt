-- `wrap_phase` writes the wrapped phase to its own place, which is one of the six.
use Rattle.tracker.proofs.CorrectionSteps.{phase_is}
use Rattle.tracker.proofs.correction.wrap_phase.Goals as goal

pub returns : goal.returns
returns c = phase_is _ _ _ _ _ c.phase_index-i.ensures c.wrap.ensures
