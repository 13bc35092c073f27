-- `apply`, with a gain and without.
use mathlib.Core.Path.{ap, ◌∙◌}
use Rattle.tracker_covariance.specs.declared.states.Band.{Band}
use Rattle.tracker_covariance.specs.States.{phase_of}
use Rattle.tracker_covariance.specs.Correction.{innovation_variance, gain_of}
use Rattle.tracker.proofs.SecondSteps.{moved_gain, moved_not}
use Rattle.tracker.proofs.gain.apply.Goals as goal

pub returns-then-takes_gain : goal.returns-then-takes_gain
returns-then-takes_gain g c =
    let a = c.args in
    let b = c.BAND-band.ensures in
    moved_gain a.h.ekf a.h.p (phase_of g.C.Channel.BAND) a.z a.noise a.kept _ _ c.end.result _ _
    (c.innovation_variance-s.ensures ∙ ap (λ (d : Band). innovation_variance a.h.p (phase_of d) a.noise) b) c.takes_gain.ensures
    c.if-takes_gain.true (c.gain-k.ensures ∙ ap (λ (d : Band). gain_of a.h.p (phase_of d) c.innovation_variance-s.result) b)
    c.correct_state-y.ensures c.end.ensures

pub returns : goal.returns
returns g c =
    let a = c.args in
    let b = c.BAND-band.ensures in
    moved_not a.h.ekf a.h.p (phase_of g.C.Channel.BAND) a.z a.noise a.kept _ _
    (c.innovation_variance-s.ensures ∙ ap (λ (d : Band). innovation_variance a.h.p (phase_of d) a.noise) b) c.takes_gain.ensures c.if-takes_gain.false
