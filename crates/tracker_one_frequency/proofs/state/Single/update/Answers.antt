-- `update`, made and not made.
use mathlib.Core.Path.{ap, sym}
use Rattle.tracker_measurement.specs.declared.measure.Prior.{Prior}
use Rattle.tracker_block_diagonal.specs.Code.Joined.{joined, gains}
use Rattle.tracker_covariance.specs.Correction.{takes_gain}
use Rattle.tracker_measurement.specs.Code.Parts.{together}
use Rattle.tracker_measurement.proofs.MeasuredParts.{measured_by_parts}
use Rattle.tracker_one_frequency.proofs.UpdateLaws.{made}
use Rattle.tracker_one_frequency.proofs.state.Single.update.Goals as goal

pub returns : goal.returns
unfolding takes_gain
returns c =
    let v = c.prior_of in
    let r = c.receive-a in
    let k = c.in_ok-k in
    let d = c.detect-d in
    let n = c.in_phase-norm_re in
    let a = c.args in
    let h = k.ensures in
    let em = measured_by_parts v.result a.sample.0 a.sample.1 _ r.result d.result n.result (sym (ap (λ (q : Prior). q.modulation) v.ensures)) r.ensures d.ensures n.ensures in
    made a.self.ekf (joined a.self.halves) a.w.now a.sample.0 a.sample.1 _ (together r.result d.result n.result) _ _ (gains k.k) _ (joined k.halves) _ _
    v.ensures em
    c.enter-u.ensures h.0 h.1 c.move_state-v.ensures c.has_nan.ensures c.if-has_nan.false h.2
    c.settle_at-s.ensures
