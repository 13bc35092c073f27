-- `remainder` meets its contract: a smaller number is its own remainder, and where there is no remainder it is a NaN.
use Rattle.std.proofs.Common.{T, sym, ◌∙◌, subst}
use lib.Ieee.{binary64}
use Rattle.ieee754.proofs.Fields.{nan_64, infinity_64}
use Rattle.ieee754.proofs.SmallRemainder.{zero_is}
use Rattle.ieee754.proofs.RemainderCases.{less, found, none_of_infinity, none_by_zero}
use Rattle.ieee754.proofs.remainder.remainder.Goals as goal

pub returns-then-size-divisor : goal.returns-then-size-divisor
returns-then-size-divisor c = less c.args.x c.args.y (subst T (sym c.well_formed.0.1) tt) (rw (c.abs-size.ensures, c.abs-divisor.ensures) at c.if-size-divisor.true)

pub finite_remainder-requires : goal.finite_remainder-requires
finite_remainder-requires c =
    let f =
    found c.args.x c.args.y (rw (c.abs-size.ensures, c.abs-divisor.ensures) at c.if-size-divisor.false) (rw (c.abs-size.ensures, infinity_64) at c.if-size.true)
    (rw (c.abs-divisor.ensures, zero_is binary64) at c.if-divisor.true) in
    (f.dividend, f.divisor, f.some, f.large)

pub returns-else-divisor : goal.returns-else-divisor
returns-else-divisor c =
    nan_64
    ∙ none_by_zero c.args.x c.args.y (rw (c.abs-size.ensures, c.abs-divisor.ensures) at c.if-size-divisor.false) (rw (c.abs-size.ensures, infinity_64) at c.if-size.true)
    (rw (c.abs-divisor.ensures, zero_is binary64) at c.if-divisor.false)

pub returns-else-size : goal.returns-else-size
returns-else-size c = nan_64 ∙ none_of_infinity c.args.x c.args.y (rw (c.abs-size.ensures, infinity_64) at c.if-size.false)
