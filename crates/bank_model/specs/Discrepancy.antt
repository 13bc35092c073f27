-- How far apart a bank's trackers are (the scope, module 7: `compute_tracker_frequency_diffs`, `compute_tracker_discrepancy`): the mean of the sizes
-- of their frequency differences, each weighted by the product of two lock metrics. The products are taken in binary64, all else in binary32.
-- Definitions only.
use Rattle.std.specs.Prelude.{cond, ◌||◌, Float}
use Rattle.std.specs.Float.{binary32}
use Rattle.std.specs.Float.Ieee.{add, sub, mul, div, lt, is_nan}
use Rattle.ieee754.specs.Binary32 as float32
use Rattle.ieee754.specs.Sign.{absolute}
use Rattle.ieee754.specs.Conversion.{convert}
use Rattle.ieee754.specs.Binary64.{times, zero}
use Rattle.tracker.specs.declared.state.CarrierPllEkf.{CarrierPllEkf}
use Rattle.bank_model.specs.declared.state.EkfTrackingBank.{EkfTrackingBank}
use Rattle.bank_model.specs.declared.state.FrequencyDiffs.{FrequencyDiffs}
use Rattle.tracker_readings.specs.Readings.{scale, hertz}

-- the frequency of a tracker, in hertz at binary32
unfoldable pub hertz32 : Float → CarrierPllEkf → Float
hertz32 k t = convert binary32 (hertz k t 1)

-- from each tracker to the next; the first tracker's modulation decides the scale
unfoldable pub frequency_diffs : EkfTrackingBank → FrequencyDiffs
frequency_diffs b =
    let k = scale b.t0.ekf.modulation in
    let f0 = hertz32 k b.t0.ekf in
    let f1 = hertz32 k b.t1.ekf in
    let f2 = hertz32 k b.t2.ekf in
    record { d01 = sub binary32 f1 f0; d12 = sub binary32 f2 f1; d20 = sub binary32 f0 f2 }

-- a tracker weighs its metric while it is locked
unfoldable pub weight : CarrierPllEkf → Float
weight t = cond t.is_locked t.lock_metric zero

unfoldable pub joint_weight : CarrierPllEkf → CarrierPllEkf → Float
joint_weight t u = convert binary32 (times (weight t) (weight u))

-- the mean of the differences' sizes with the weights a, b, c; 0 where the weights come to less than 1e-5 or to no number, or the mean to none
unfoldable pub weighted_mean : Float → Float → Float → FrequencyDiffs → Float
weighted_mean a b c d =
    let sum = add binary32 (add binary32 a b) c in
    let total =
    add binary32 (add binary32 (mul binary32 a (absolute d.d01)) (mul binary32 b (absolute d.d12))) (mul binary32 c (absolute d.d20)) in
    let mean = div binary32 total sum in
    cond ((lt sum float32.ten_to_minus5 || is_nan sum) || is_nan mean) float32.zero mean

unfoldable pub discrepancy : EkfTrackingBank → Float
discrepancy b =
    weighted_mean (joint_weight b.t0.ekf b.t1.ekf) (joint_weight b.t1.ekf b.t2.ekf) (joint_weight b.t2.ekf b.t0.ekf) (frequency_diffs b)
