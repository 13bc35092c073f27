-- `places` meets its contract.
use Rattle.std.proofs.Common.{sym}
use Rattle.ieee754.proofs.UnitPatterns.{places_low, places_high}
use Rattle.ieee754.proofs.remainder.places.Goals as goal

pub returns-then-a-lt4503599627370496 : goal.returns-then-a-lt4503599627370496
returns-then-a-lt4503599627370496 c = sym (places_low c.args.a c.if-a-lt4503599627370496.true)

pub returns : goal.returns
returns c = sym (places_high c.args.a c.if-a-lt4503599627370496.false)
