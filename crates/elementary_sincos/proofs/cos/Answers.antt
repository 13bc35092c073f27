-- `cos`, by its remainder.
use mathlib.Core.Path.{◌∙◌}
use Rattle.elementary_sincos.proofs.Cases.{known, most, not_finite, of_cosine, fourth_below, cosine_from_lem, cosine_promised}
use Rattle.elementary_sincos.proofs.cos.Goals as goal

pub returns-in_default-clause-bits : goal.returns-in_default-clause-bits
returns-in_default-clause-bits c = (c.no_number.ensures (not_finite c.args.theta c.in_default.ensures)).1

pub returns-in_default-clause-near : goal.returns-in_default-clause-near
returns-in_default-clause-near c = cosine_promised c.args.theta _ (c.no_number.ensures (not_finite c.args.theta c.in_default.ensures)).1

pub cosine-requires : goal.cosine-requires
cosine-requires c =
    fourth_below c.in-Some.x c.high_product-x2.result c.high_product-x4.result c.high_product-x2.ensures c.high_product-x4.ensures (most c.args.theta c.in-Some.x (known c.args.theta c.in-Some.x c.in-Some.ensures))

pub returns-clause-bits : goal.returns-clause-bits
returns-clause-bits c =
    of_cosine c.args.theta c.in-Some.x (known c.args.theta c.in-Some.x c.in-Some.ensures) _ (c.cosine.ensures ∙ cosine_from_lem c.in-Some.x c.high_product-x2.result c.high_product-x4.result c.high_product-x2.ensures c.high_product-x4.ensures)

pub returns-clause-near : goal.returns-clause-near
returns-clause-near c =
    cosine_promised c.args.theta _ (of_cosine c.args.theta c.in-Some.x (known c.args.theta c.in-Some.x c.in-Some.ensures) _ (c.cosine.ensures ∙ cosine_from_lem c.in-Some.x c.high_product-x2.result c.high_product-x4.result c.high_product-x2.ensures c.high_product-x4.ensures))
