-- `series::signed_difference` meets its contract.
use mathlib.Core.Path.{◌≡◌, ap, ◌∙◌}
use Prim.Native.Nat.{ℕ}
use mathlib.Core.Bool.{Bool}
use lib.Dec.{ltb}
use lib.Ieee.{Float}
use Rattle.ieee754_rounding.specs.Distance.{distance}
use Rattle.elementary_fixed_point.specs.Conversion.{scaled}
use Rattle.ieee754.specs.Sign.{signed}
use Rattle.elementary_sincos.specs.Steps.{difference}
use Rattle.ieee754.specs.Binary64.{two_to_minus53}
use Rattle.elementary_sincos.proofs.SignedUnit.{signed_difference}
use Rattle.elementary_sincos.proofs.series.signed_difference.Goals as goal

is : (p n d : ℕ) (s : Bool) (u v : Float) → d ≡ distance p n → u ≡ signed s (signed (ltb p n) two_to_minus53) → v ≡ scaled d u → v ≡ signed s (difference p n)
is p n d s u v a b e = e ∙ ap (λ (z : ℕ). scaled z u) a ∙ ap (scaled (distance p n)) b ∙ signed_difference p n s

pub returns : goal.returns
returns c = let s = c.args in is s.p s.n _ s.negative _ _ c.abs_diff-d.ensures c.signed_unit-u.ensures c.to_f64.ensures
