-- Twice as many bits.
use Rattle.elementary_reduction.proofs.ShiftedBits.{twice}
use Rattle.elementary_reduction.proofs.powers.TwicePower.times.Goals as goal

pub returns : goal.returns
returns g c = twice g.P.Power.bits c.args.r c.times.result c.times-2.result c.times.ensures c.times-2.ensures
