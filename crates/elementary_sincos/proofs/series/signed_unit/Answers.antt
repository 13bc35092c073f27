-- `series::signed_unit` meets its contract.
use mathlib.Core.Path.{◌≡◌, refl, sym}
use mathlib.Core.Bool.{Bool, true, false, beq, true≢false}
use lib.Dec.{ltb}
use lib.Ieee.{neg}
use Rattle.ieee754.specs.Sign.{signed}
use Rattle.ieee754_rounding.proofs.Opposites.{neg_neg}
use Rattle.ieee754.specs.Binary64.{two_to_minus53}
use Rattle.elementary_sincos.proofs.series.signed_unit.Goals as goal

same : (b s : Bool) → beq b s ≡ true → two_to_minus53 ≡ signed s (signed b two_to_minus53)
same true true h = sym (neg_neg two_to_minus53)
same false false h = refl
same true false h = absurd (true≢false (sym h))
same false true h = absurd (true≢false (sym h))

apart : (b s : Bool) → beq b s ≡ false → neg two_to_minus53 ≡ signed s (signed b two_to_minus53)
apart true false h = refl
apart false true h = refl
apart true true h = absurd (true≢false h)
apart false false h = absurd (true≢false h)

pub returns-then-less-negative : goal.returns-then-less-negative
returns-then-less-negative c = let a = c.args in same (ltb a.p a.n) a.negative c.if-less-negative.true

pub returns-else-less-negative : goal.returns-else-less-negative
returns-else-less-negative c = let a = c.args in apart (ltb a.p a.n) a.negative c.if-less-negative.false
