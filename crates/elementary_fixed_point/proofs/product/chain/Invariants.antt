-- `product::chain`: the entries that are left, onto what is computed, are the whole chain.
use Rattle.std.proofs.Common.{◌≡◌, ◌^◌, T}
use Rattle.elementary_fixed_point.specs.Product.{horner}
use Rattle.elementary_fixed_point.specs.Code.Bounds.{below}
use Rattle.elementary_fixed_point.proofs.Chains.{horner_onto}
use Rattle.elementary_fixed_point.proofs.product.chain.Given as goal

abbrev pub invariant-loop-coefficient : goal.invariant-loop-coefficient
invariant-loop-coefficient l =
    let left = l.coefficient-iterator.iter.rest.now in (horner_onto l.w l.p left ≡ horner l.w l.c) × T (below (2 ^ 63) left)
