-- `sum` adds the 36 entries.
use mathlib.Core.Path.{◌≡◌, sym, ◌∙◌}
use borrow.Author.Rules.{rules}
use lib.ListN.{get_or}
use lib.Ieee.{nan}
use Rattle.ieee754.specs.Binary64.{plus}
use Rattle.tracker_covariance.specs.Matrix.{matrix}
use Rattle.tracker_covariance.specs.Code.Entries.{sum_at}
use Rattle.tracker_covariance.proofs.Filling.{made_by, place, at_place}
use Rattle.tracker_covariance.proofs.prediction.sum.Goals as goal

pub returns : goal.returns
unfolding matrix
returns c =
    let a = c.args in
    made_by _ (place (sum_at a.p a.q)) _
    (λ i y f h.
    let e : y ≡ plus (get_or a.p i nan) (get_or a.q i nan) = search rules in
    (e ∙ (λ j. plus (sym (at_place a.p i) j) (sym (at_place a.q i) j)), search rules))
    _ 36 c.from_fn.ensures.items
