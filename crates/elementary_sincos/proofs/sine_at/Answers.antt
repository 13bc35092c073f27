-- `sine_at` meets its contract.
use mathlib.Core.Path.{◌∙◌}
use Rattle.elementary_sincos.proofs.Cases.{fourth_below, sine_from_lem}
use Rattle.elementary_sincos.proofs.sine_at.Goals as goal

pub sine-requires : goal.sine-requires
sine-requires c = fourth_below c.args.x c.high_product-x2.result c.high_product-x4.result c.high_product-x2.ensures c.high_product-x4.ensures c.requires

pub returns : goal.returns
returns c =
    c.sine.ensures ∙ sine_from_lem c.args.x c.high_product-x2.result c.high_product-x4.result c.high_product-x2.ensures c.high_product-x4.ensures c.args.negative
