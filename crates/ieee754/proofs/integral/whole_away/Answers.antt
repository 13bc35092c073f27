-- `ieee754::integral::whole_away` meets its contract. Assumes nothing.
use Rattle.std.proofs.Common.{◌+◌, ◌-◌, ◌*◌, ◌/◌, ◌%◌, ◌^◌, ◌<◌, ◌≤◌, arith}
use lib.Ieee.{binary64}
use Rattle.ieee754.proofs.RoundAwayCases.{away_small, half_small, away_shifted, away_le}
use Rattle.ieee754.proofs.integral.whole_away.Goals as goal

pub returns-then-e-lt1022 : goal.returns-then-e-lt1022
returns-then-e-lt1022 c = (λ s. away_small binary64 s c.args.a c.if-e-lt1022.true, omega arith)

pub returns : goal.returns
returns c =
    let a = c.args.a in
    let h = half_small a c.if-e-lt1022.false in
    let g : a % 2 ^ 52 + 2 ^ 52 + 1 * 2 ^ (1074 - a / 2 ^ 52) % 2 ^ 64 < 2 ^ 54 = omega arith in
    let k : 1 ≤ 1075 - a / 2 ^ 52 = omega arith in
    (λ s. away_shifted a c.if-e-lt1022.false s c.requires, away_le _ (1075 - a / 2 ^ 52) g k)
