-- `is_plus_zero` looks at the pattern, which no other float has.
use mathlib.Core.Path.{sym, ap, ◌∙◌, subst}
use lib.Dec.{T}
use lib.Ieee.{binary64, of_bits}
use lib.Ieee.Bits.{of_bits-to_bits}
use borrow.Author.Tests.{eqb-true}
use Rattle.tracker_block_diagonal.proofs.joining.is_plus_zero.Goals as goal

pub returns : goal.returns
returns c h =
    sym (of_bits-to_bits binary64 c.args.x (subst T (sym c.well_formed.0.1) tt))
    ∙ ap (of_bits binary64) (sym c.f64_to_bits.ensures ∙ eqb-true c.f64_to_bits.result 0 h)
