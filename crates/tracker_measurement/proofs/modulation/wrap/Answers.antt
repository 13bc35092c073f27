-- `wrap` by the range of the modulation: the quick way within it, and the remainder elsewhere, where plus half can be reached.
use Rattle.tracker_measurement.proofs.WrapSteps.{quick, at_half, below_half}
use Rattle.tracker_measurement.proofs.modulation.wrap.Goals as goal

pub returns-then-y-limit : goal.returns-then-y-limit
returns-then-y-limit c = quick _ _ _ _ c.half_limit-half.ensures c.limit-limit.ensures c.if-y-limit.true

pub returns-then-half-r : goal.returns-then-half-r
returns-then-half-r c = at_half _ _ _ _ c.half_limit-half.ensures c.limit-limit.ensures c.rem_euclid.result c.rem_euclid.ensures c.if-half-r.true

pub returns : goal.returns
returns c = below_half _ _ _ _ c.half_limit-half.ensures c.limit-limit.ensures c.rem_euclid.result c.rem_euclid.ensures c.if-half-r.false
