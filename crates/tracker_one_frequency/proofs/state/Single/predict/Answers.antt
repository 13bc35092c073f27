-- `predict`, from what the prediction of the states and of the halves ensure.
use mathlib.Core.Path.{◌≡◌, ap, sym, subst, ◌∙◌}
use Rattle.tracker_covariance.specs.declared.prediction.ProcessNoise.{ProcessNoise}
use Rattle.tracker_covariance.specs.Prediction.{predicted}
use lib.Ieee.{Float}
use Rattle.tracker.specs.State.{with_state}
use Rattle.tracker.specs.Prediction.{process_noise, predicted_over}
use Rattle.tracker_block_diagonal.specs.Code.Joined.{joined}
use Rattle.tracker_block_diagonal.specs.Code.Steady.{Steady}
use Rattle.tracker_one_frequency.proofs.state.Single.predict.Goals as goal

pub predict-requires : goal.predict-requires
unfolding process_noise
predict-requires c =
    let e : c.process_noise-n.result.ratio ≡ c.args.self.ekf.tuning.frequency_ratio = ap (λ (n : ProcessNoise). n.ratio) c.process_noise-n.ensures in
    subst (λ (r : Float). Steady c.args.dt r) (sym e) c.requires

pub returns : goal.returns
unfolding predicted_over
returns c =
    let a = c.args in
    let q =
    c.predict.ensures
    ∙ ap (λ (n : ProcessNoise). predicted a.dt n (joined a.self.halves)) c.process_noise-n.ensures in
    λ j. record { ekf = with_state a.self.ekf (c.predict_state.ensures j); p = q j }
