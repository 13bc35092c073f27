-- The choice of the tracker in use, with the best so far as the code has it: there may be none. Definitions only.
use Rattle.std.specs.Prelude.{ℕ, cond, ◌&&◌, Float, Option, Some, None}
use Rattle.std.specs.Float.Ieee.{lt, neg}
use Rattle.ieee754.specs.Binary64.{one}
use Rattle.tracker.specs.declared.state.CarrierPllEkf.{CarrierPllEkf}
use Rattle.bank_selection.specs.declared.choice.Candidate.{Candidate}

-- what a metric has to be above
unfoldable pub bar : Option Candidate → Float
bar None = neg one
bar (Some c) = c.metric

-- tracker i takes the best candidate's place where it is locked and its metric is higher
unfoldable pub better_of : Option Candidate → ℕ → CarrierPllEkf → Option Candidate
better_of best i t = cond (t.is_locked && lt (bar best) t.lock_metric) (Some (record { number = i; metric = t.lock_metric })) best
