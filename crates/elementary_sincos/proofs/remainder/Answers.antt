-- `remainder`, by the size of the angle.
use mathlib.Core.Path.{◌≡◌, sym, subst}
use mathlib.Core.Bool.{false}
use lib.Dec.{T}
use lib.Ieee.{Float, lt}
use Rattle.elementary_sincos.proofs.Cases.{infinite, near_requires, near_known, far_requires, far_known, some_remainder, no_remainder}
use Rattle.elementary_sincos.proofs.remainder.Goals as goal

pub from_f64-requires : goal.from_f64-requires
from_f64-requires c = near_requires c.args.theta c.abs-a.result c.abs-a.ensures c.if-a.true

pub returns-then-a : goal.returns-then-a
returns-then-a c =
    let θ = c.args.theta in
    some_remainder θ _ (near_known θ c.abs-a.result c.abs-a.ensures c.from_f64.result (subst T (sym c.well_formed.0.1) tt) c.if-a.true c.from_f64.ensures)

pub reduced-requires : goal.reduced-requires
reduced-requires c = far_requires c.args.theta c.abs-a.result c.abs-a.ensures c.if-a.false c.if-a-2.true

pub returns-then-a-2 : goal.returns-then-a-2
returns-then-a-2 c =
    let θ = c.args.theta in some_remainder θ _ (far_known θ c.abs-a.result c.abs-a.ensures c.reduced.result c.if-a-2.true c.reduced.ensures)

pub returns : goal.returns
returns c = no_remainder c.args.theta (subst (λ (z : Float). lt z infinite ≡ false) c.abs-a.ensures c.if-a-2.false)
