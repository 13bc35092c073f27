-- `is_steady` looks at half the interval's square, which is finite only where the interval is, and at the ratio.
use mathlib.Core.Path.{sym, ◌∙◌}
use lib.Ieee.{binary64}
use Rattle.ieee754.specs.Binary64.{times, half}
use Rattle.tracker_block_diagonal.proofs.Finite.{second_factor, same_finite}
use Rattle.tracker_block_diagonal.proofs.prediction.is_steady.Goals as goal

pub returns-then-is_finite : goal.returns-then-is_finite
returns-then-is_finite c h =
    let dt = c.args.dt in
    let g = sym (same_finite _) ∙ sym c.is_finite.ensures.value ∙ c.if-is_finite.true in
    record { interval = second_factor binary64 (times half dt) dt g; half_square = g; same = sym c.same_frequency.ensures ∙ h }
