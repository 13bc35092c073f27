-- `update`: the first correction lost, or kept and followed by the second channel's or by the lock.
use Rattle.tracker.proofs.EitherUpdate.{lost_is, two_is, one_is}
use Rattle.tracker.proofs.state.Tracked.update.Goals as goal

pub returns-in_default : goal.returns-in_default
returns-in_default c =
    let a = c.args in
    let d = c.correct_by_first-answer in
    lost_is a.self.ekf a.self.p a.w.now a.first.0 a.first.1 d.result _ d.ensures a.second c.in_default.is

pub returns-in-Some : goal.returns-in-Some
returns-in-Some c =
    let a = c.args in
    let d = c.correct_by_first-answer in
    two_is a.self.ekf a.self.p a.w.now a.first.0 a.first.1 d.result _ d.ensures a.second _ _ _ c.update_by_second.result c.in-Some.is c.in-Kept.is (c.update_by_second.ensures _)

pub returns : goal.returns
returns c =
    let a = c.args in
    let d = c.correct_by_first-answer in
    one_is a.self.ekf a.self.p a.w.now a.first.0 a.first.1 d.result _ d.ensures a.second _ _ c.settle-ekf.result c.in_default-second.is c.in-Kept.is c.settle-ekf.ensures
