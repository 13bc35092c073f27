-- `sin_cos`, by its remainder.
use mathlib.Core.Path.{◌≡◌, sym, ◌∙◌}
use Prim.Native.Nat.{◌^◌, ◌<◌}
use lib.Ieee.{binary64, lt, of_bits}
use Rattle.elementary_sincos.specs.Steps.{cosine}
use Rattle.elementary_sincos.proofs.Cases.{known, most, of_none, of_small, of_large, of_cosine, fourth_below, sine_from_lem, cosine_from_lem}
use Rattle.elementary_sincos.proofs.sin_cos.Goals.{After-cosine-cos, After-high_product-x4}
use Rattle.elementary_sincos.proofs.sin_cos.Goals as goal

fourth : (c : After-high_product-x4) → c.high_product-x4.result < 2 ^ 63
fourth c =
    let h = c.before in
    let s = h.before in
    fourth_below s.in-Some.x h.high_product-x2.result c.high_product-x4.result h.high_product-x2.ensures c.high_product-x4.ensures (most s.args.theta s.in-Some.x (known s.args.theta s.in-Some.x s.in-Some.ensures))

-- the cosine, once its steps are done
cosine_done : (c : After-cosine-cos) → c.cosine-cos.result ≡ cosine c.args.theta
cosine_done c =
    let h4 = c.before in
    let h2 = h4.before in
    let s = h2.before in
    of_cosine s.args.theta s.in-Some.x (known s.args.theta s.in-Some.x s.in-Some.ensures) _ (c.cosine-cos.ensures ∙ cosine_from_lem s.in-Some.x h2.high_product-x2.result h4.high_product-x4.result h2.high_product-x2.ensures h4.high_product-x4.ensures)

pub returns-in_default : goal.returns-in_default
returns-in_default c = of_none c.args.theta c.in_default.ensures

pub cosine-cos-requires : goal.cosine-cos-requires
cosine-cos-requires c = fourth (goal.at.cosine-cos-requires c).After-high_product-x4

pub returns-then-is_small : goal.returns-then-is_small
returns-then-is_small c = (of_small c.args.theta (sym c.if-is_small.ensures), cosine_done (goal.at.returns-then-is_small c).After-cosine-cos)

pub sine-requires : goal.sine-requires
sine-requires c = fourth (goal.at.sine-requires c).After-high_product-x4

pub returns : goal.returns
returns c = (
  of_large c.args.theta c.in-Some.x (known c.args.theta c.in-Some.x c.in-Some.ensures) c.sine.result (sym c.if-is_small.ensures)
      (c.sine.ensures ∙ sine_from_lem c.in-Some.x c.high_product-x2.result c.high_product-x4.result c.high_product-x2.ensures c.high_product-x4.ensures (lt c.args.theta (of_bits binary64 0))),
  cosine_done (goal.at.returns c).After-cosine-cos,
)
