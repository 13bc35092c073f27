-- `step`: locked, fading, or neither. Assumes nothing.
use mathlib.Core.Path.{ap, ◌∙◌}
use lib.Ieee.{Float}
use Rattle.sequences.proofs.Choices.{cond_yes, cond_no}
use Rattle.tracker.specs.declared.state.Tracked.{Tracked}
use Rattle.tracker.specs.Prediction.{predicted_over}
use Rattle.tracker_over_block.proofs.FollowingLaws.{locked_is, fading_is, still_is, second_of, neither_of}
use Rattle.tracker_over_block.proofs.step.step.Goals as goal

pub returns-then-locked : goal.returns-then-locked
returns-then-locked c =
    let a = c.args in
    let k = c.if-locked.true in
    let d = c.interval_of.ensures ∙ cond_yes a.dt a.h.ekf.tuning.ts k in
    let p = c.predict-after.ensures ∙ ap (λ (x : Float). predicted_over x a.h.ekf a.h.p) d in
    locked_is a.dt a.fade (a.h, a.w.now) a.first a.second _ _ k (ap (λ (t : Tracked). (t, a.w.now)) p) c.update.ensures

pub returns-then-locked-fade : goal.returns-then-locked-fade
returns-then-locked-fade c =
    let a = c.args in
    let k = c.if-locked.false in
    let d = c.interval_of.ensures ∙ cond_no a.dt a.h.ekf.tuning.ts k in
    let p = c.predict-after.ensures ∙ ap (λ (x : Float). predicted_over x a.h.ekf a.h.p) d in
    fading_is a.dt a.fade (a.h, a.w.now) a.first a.second _ k (second_of _ _ c.if-locked-fade.true k) (ap (λ (t : Tracked). (t, a.w.now)) p)

pub returns : goal.returns
returns c =
    let a = c.args in
    let n = neither_of _ _ c.if-locked-fade.false in
    still_is a.dt a.fade (a.h, a.w.now) a.first a.second n.0 n.1
