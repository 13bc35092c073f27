-- `right` is T·(I − K·h)ᵀ + K·R·Kᵀ. The invariants: the rows above r, and row r up to column c, are stored.
use Prim.Native.Nat.{ℕ}
use mathlib.Core.Path.{ap, ◌∙◌}
use Rattle.tracker_covariance.specs.States.{phase_of}
use Rattle.tracker_covariance.specs.Correction.{joseph_right}
use Rattle.tracker_covariance.proofs.Filling.{all_rows}
use Rattle.tracker_joseph.proofs.right.Goals as goal

pub returns : goal.returns
returns g c =
    all_rows _ _ _ c.loop-r-test.false c.loop-r.invariant.2 ∙ ap (λ (i : ℕ). joseph_right c.args.t i c.args.k c.args.noise) (c.phase_index-i.ensures ∙ ap phase_of c.BAND.ensures)
