-- `series::cosine` meets its contract: its tables are the rule's, by computation.
use mathlib.Core.Path.{◌≡◌}
use mathlib.Core.Bool.{false}
use Prim.Native.Nat.{ℕ}
use lib.Ieee.{Float}
use Rattle.elementary_fixed_point.specs.Series.{factorial}
use Rattle.elementary_fixed_point.specs.Product.{hi, horner, tabulate}
use Rattle.ieee754.specs.Sign.{signed}
use Rattle.elementary_sincos.specs.Steps.{coefficients, difference}
use Rattle.elementary_sincos.specs.Code.Parts.{cosine_from, cosine_plus, cosine_minus}
use Rattle.elementary_sincos.proofs.SeriesBound.{cosine_plus_below, cosine_minus_below}
use Rattle.elementary_sincos.proofs.series.cosine.Goals as goal

is : (x2 x4 p b n : ℕ) (v : Float) → p ≡ horner x4 cosine_plus → b ≡ horner x4 cosine_minus → n ≡ hi x2 b → v ≡ signed false (difference p n) → v ≡ cosine_from x2 x4
unfolding cosine_from
is x2 x4 p b n v ep eb en ev = cc

pub chain-p-requires : goal.chain-p-requires
unfolding coefficients tabulate factorial
chain-p-requires c = record { w_bound = c.requires; t = cosine_plus_below }

pub chain-b-requires : goal.chain-b-requires
unfolding coefficients tabulate factorial
chain-b-requires c = record { w_bound = c.requires; t = cosine_minus_below }

pub returns : goal.returns
unfolding coefficients tabulate factorial
returns c =
    let args = c.args in
    is args.x2 args.x4 _ _ _ _ c.chain-p.ensures c.chain-b.ensures c.high_product-n.ensures c.signed_difference.ensures
