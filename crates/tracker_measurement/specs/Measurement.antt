-- All that one sample says to a tracker (the scope, module 3; the source's `update_channel` up to its window). Definitions only.
use Rattle.std.specs.Prelude.{Float}
use Rattle.std.specs.Float.{binary64}
use Rattle.std.specs.Float.Ieee.{mul}
use Rattle.ieee754.specs.Sign.{absolute}
use Rattle.tracker_measurement.specs.declared.measure.Prior.{Prior}
use Rattle.tracker_measurement.specs.declared.measure.Measured.{Measured}
use Rattle.tracker_measurement.specs.Phase.{wrapped}
use Rattle.tracker_measurement.specs.Sample.{used, derotated, amplitude, folded}
use Rattle.tracker_measurement.specs.Angle.{phase_error, in_phase}
use Rattle.tracker_measurement.specs.Noise.{envelope, effective_noise}

-- z is wrapped; the in-phase value is that of z before its wrap
unfoldable pub measured : Prior → Float → Float → Measured
measured v re im =
    let m = v.modulation in
    let s = used m re im in
    let d = derotated v.theta_pred s in
    let amp = amplitude s in
    let env = envelope v.envelope_ema amp in
    let error = phase_error m d in
    let n = folded m d in
    record {
      z = wrapped m error;
      norm_re = in_phase m error;
      abs_i = absolute n.re;
      q_sq = mul binary64 n.im n.im;
      envelope_ema = env;
      r_effective = effective_noise v.r_meas v.lock_metric amp env;
    }
