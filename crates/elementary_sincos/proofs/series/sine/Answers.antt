-- `series::sine` meets its contract: its tables are the rule's, by computation.
use mathlib.Core.Path.{◌≡◌}
use Prim.Native.Nat.{ℕ}
use mathlib.Core.Bool.{Bool}
use lib.Ieee.{Float}
use Rattle.elementary_fixed_point.specs.Series.{factorial}
use Rattle.elementary_fixed_point.specs.Product.{hi, horner, tabulate}
use Rattle.ieee754.specs.Sign.{signed}
use Rattle.elementary_sincos.specs.Steps.{coefficients, difference}
use Rattle.elementary_sincos.specs.Code.Parts.{sine_from, sine_plus, sine_minus}
use Rattle.elementary_sincos.proofs.SeriesBound.{sine_plus_below, sine_minus_below}
use Rattle.elementary_sincos.proofs.series.sine.Goals as goal

is : (x x2 x4 x3 a b p n : ℕ) (s : Bool) (v : Float) → x3 ≡ hi x x2 → a ≡ horner x4 sine_plus → b ≡ horner x4 sine_minus → p ≡ hi x a → n ≡ hi x3 b → v ≡ signed s (difference p n) → v ≡ signed s (sine_from x x2 x4)
unfolding sine_from
is x x2 x4 x3 a b p n s v e3 ea eb ep en ev = cc

pub chain-a-requires : goal.chain-a-requires
unfolding coefficients tabulate factorial
chain-a-requires c = record { w_bound = c.requires; t = sine_plus_below }

pub chain-b-requires : goal.chain-b-requires
unfolding coefficients tabulate factorial
chain-b-requires c = record { w_bound = c.requires; t = sine_minus_below }

pub returns : goal.returns
unfolding coefficients tabulate factorial
returns c =
    let args = c.args in
    is args.x args.x2 args.x4 _ _ _ _ _ args.negative _ c.high_product-x3.ensures c.chain-a.ensures c.chain-b.ensures c.high_product-p.ensures c.high_product-n.ensures c.signed_difference.ensures
