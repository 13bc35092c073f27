-- `end`, lost and kept.
use mathlib.Core.Path.{ap, ◌∙◌}
use Rattle.tracker_covariance.specs.declared.states.Band.{Band}
use Rattle.tracker_covariance.specs.States.{phase_of}
use Rattle.tracker.specs.Correction.{wrapped_phase, limited}
use Rattle.tracker.proofs.CorrectionSteps.{corrected_lost, corrected_kept}
use Rattle.tracker.proofs.gain.end.Goals as goal

pub returns-then-has_nan : goal.returns-then-has_nan
returns-then-has_nan g c =
    let a = c.args in
    let b = c.BAND-band.ensures in
    corrected_lost a.h.ekf a.h.p (phase_of g.C.Channel.BAND) a.noise a.k a.y _ a.kept _ _ _
    (c.wrap_phase-v.ensures ∙ ap (λ (d : Band). wrapped_phase a.y (phase_of d) a.h.ekf.modulation) b) c.has_nan.ensures
    c.if-has_nan.true c.lose.ensures c.initial.ensures

pub returns : goal.returns
returns g c =
    let a = c.args in
    let b = c.BAND-band.ensures in
    corrected_kept a.h.ekf a.h.p (phase_of g.C.Channel.BAND) a.noise a.k a.y _ a.kept _ _ _
    (c.wrap_phase-v.ensures ∙ ap (λ (d : Band). wrapped_phase a.y (phase_of d) a.h.ekf.modulation) b) c.has_nan.ensures
    c.if-has_nan.false (c.limit.ensures ∙ ap (λ (d : Band). limited c.wrap_phase-v.result (phase_of d)) b) c.correct.ensures
