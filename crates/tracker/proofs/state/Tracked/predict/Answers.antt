-- `predict`, from what the prediction of the states and of the covariance ensure.
use mathlib.Core.Path.{ap, ◌∙◌}
use Rattle.tracker_covariance.specs.declared.prediction.ProcessNoise.{ProcessNoise}
use Rattle.tracker_covariance.specs.Prediction.{predicted}
use Rattle.tracker.specs.State.{with_state}
use Rattle.tracker.specs.Prediction.{predicted_over}
use Rattle.tracker.proofs.state.Tracked.predict.Goals as goal

pub returns : goal.returns
unfolding predicted_over
returns c =
    let a = c.args in
    let q =
    c.predict.ensures
    ∙ ap (λ (n : ProcessNoise). predicted a.dt n a.self.p) c.process_noise-n.ensures in
    λ j. record { ekf = with_state a.self.ekf (c.predict_state.ensures j); p = q j }
