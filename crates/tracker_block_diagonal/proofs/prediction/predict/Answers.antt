-- `predict` moves, settles and keeps apart the halves, as the 36 numbers are predicted.
use mathlib.Core.Path.{◌≡◌, sym, ap, ◌∙◌}
use Rattle.ieee754.specs.Binary64.{zero}
use Rattle.tracker_block_diagonal.specs.Code.HalfPrediction.{moved_rows, moved_columns, half_mean}
use Rattle.tracker_block_diagonal.specs.Code.Joined.{joined}
use Rattle.tracker_block_diagonal.proofs.Blocks.{blocks, alike}
use Rattle.tracker_block_diagonal.proofs.PredictedHalves.{predicted_blocks}
use Rattle.tracker_block_diagonal.proofs.prediction.predict.Goals as goal

pub returns : goal.returns
unfolding joined
returns c =
    let a = c.args in
    let dt = a.dt in
    let n = a.n in
    let first : c.half_mean.result ≡ half_mean n (moved_columns dt (moved_rows dt a.h.first)) =
    c.half_mean.ensures ∙ ap (half_mean n) (c.move_columns.ensures ∙ ap (moved_columns dt) c.move_rows.ensures) in
    let second : c.half_mean-2.result ≡ half_mean n (moved_columns dt (moved_rows dt a.h.second)) =
    c.half_mean-2.ensures ∙ ap (half_mean n) (c.move_columns-2.ensures ∙ ap (moved_columns dt) c.move_rows-2.ensures) in
    (λ j. blocks (first j) (alike zero) (alike zero) (second j)) ∙ sym (predicted_blocks dt n a.h.first a.h.second c.requires)
