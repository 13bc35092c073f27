-- Twenty bits more, by one remainder.
use Rattle.elementary_reduction.proofs.ShiftedBits.{twenty}
use Rattle.elementary_reduction.proofs.powers.By20Power.times.Goals as goal

pub returns : goal.returns
returns c = twenty c.args.r c.remainder.result c.remainder.ensures
