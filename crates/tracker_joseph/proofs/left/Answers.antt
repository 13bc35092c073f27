-- `left` is (I − K·h)·P. The invariants: the rows above r, and row r up to column c, are stored.
use Prim.Native.Nat.{ℕ}
use mathlib.Core.Path.{ap, ◌∙◌}
use Rattle.tracker_covariance.specs.States.{phase_of}
use Rattle.tracker_covariance.specs.Correction.{joseph_left}
use Rattle.tracker_covariance.proofs.Filling.{all_rows}
use Rattle.tracker_joseph.proofs.left.Goals as goal

pub returns : goal.returns
returns g c =
    all_rows _ _ _ c.loop-r-test.false c.loop-r.invariant.2 ∙ ap (λ (i : ℕ). joseph_left c.args.p i c.args.k) (c.phase_index-i.ensures ∙ ap phase_of c.BAND.ensures)
