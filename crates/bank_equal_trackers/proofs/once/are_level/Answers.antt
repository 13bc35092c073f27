-- `are_level`, from two comparisons with stretch 1.
use Rattle.sequences.specs.Stretches.{stretch}
use Rattle.bank_equal_trackers.proofs.EqualBits.{both}
use Rattle.bank_equal_trackers.proofs.once.are_level.Goals as goal

pub returns : goal.returns
unfolding stretch
returns c = λ h.
    let g = both _ _ h in record { s2 = c.same_lists.ensures g.0; s3 = c.same_lists-2.ensures g.1 }
