-- `measure`, from what its parts ensure.
use Rattle.std.proofs.Common.{refl}
use Rattle.tracker_measurement.proofs.MeasuredParts.{measured_by_parts}
use Rattle.tracker_measurement.proofs.measure.measure.Goals as goal

pub returns : goal.returns
returns c =
    let a = c.args in
    measured_by_parts a.prior a.re a.im _ c.receive-a.result c.detect-d.result c.in_phase.result refl c.receive-a.ensures c.detect-d.ensures c.in_phase.ensures
