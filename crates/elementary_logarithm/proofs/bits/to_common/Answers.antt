-- `elementary_logarithm::bits::to_common` meets its contract.
use mathlib.Core.Path.{sym, ap, ◌∙◌}
use Prim.Native.Nat.{ℕ}
use Rattle.elementary_fixed_point.specs.Product.{hi}
use Rattle.elementary_logarithm.proofs.Constants.{reciprocal_ten_is}
use Rattle.elementary_logarithm.proofs.bits.to_common.Goals as goal

pub returns : goal.returns
returns c = c.high_product.ensures ∙ ap (λ (z : ℕ). hi c.args.d z) (sym reciprocal_ten_is)
