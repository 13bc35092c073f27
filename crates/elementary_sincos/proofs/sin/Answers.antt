-- `sin`, by its remainder.
use mathlib.Core.Path.{sym}
use Rattle.elementary_sincos.proofs.Cases.{known, most, not_finite, of_small, of_large, sine_promised}
use Rattle.elementary_sincos.proofs.sin.Goals as goal

pub returns-in_default-clause-bits : goal.returns-in_default-clause-bits
returns-in_default-clause-bits c = (c.no_number.ensures (not_finite c.args.theta c.in_default.ensures)).0

pub returns-in_default-clause-near : goal.returns-in_default-clause-near
returns-in_default-clause-near c = sine_promised c.args.theta _ (c.no_number.ensures (not_finite c.args.theta c.in_default.ensures)).0

pub returns-then-is_small-clause-bits : goal.returns-then-is_small-clause-bits
returns-then-is_small-clause-bits c = of_small c.args.theta (sym c.if-is_small.ensures)

pub returns-then-is_small-clause-near : goal.returns-then-is_small-clause-near
returns-then-is_small-clause-near c = sine_promised c.args.theta _ (of_small c.args.theta (sym c.if-is_small.ensures))

pub sine_at-requires : goal.sine_at-requires
sine_at-requires c = most c.args.theta c.in-Some.x (known c.args.theta c.in-Some.x c.in-Some.ensures)

pub returns-clause-bits : goal.returns-clause-bits
returns-clause-bits c =
    of_large c.args.theta c.in-Some.x (known c.args.theta c.in-Some.x c.in-Some.ensures) c.sine_at.result (sym c.if-is_small.ensures) c.sine_at.ensures

pub returns-clause-near : goal.returns-clause-near
returns-clause-near c =
    sine_promised c.args.theta _ (of_large c.args.theta c.in-Some.x (known c.args.theta c.in-Some.x c.in-Some.ensures) c.sine_at.result (sym c.if-is_small.ensures) c.sine_at.ensures)
