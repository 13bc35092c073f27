-- All that one sample says (the scope, module 3; `measured`), in the parts in which a fast update asks for it: what the covariance waits for; what the
-- phase detector gives; and last the in-phase value, for which no state waits. Definitions only.
use Rattle.std.specs.Prelude.{Float}
use Rattle.std.specs.Float.{binary64}
use Rattle.std.specs.Float.Ieee.{mul}
use Rattle.ieee754.specs.Sign.{absolute}
use Rattle.tracker_measurement.specs.declared.measure.Prior.{Prior}
use Rattle.tracker_measurement.specs.declared.measure.Measured.{Measured}
use Rattle.tracker_measurement.specs.declared.modulation.Modulation.{Modulation}
use Rattle.tracker_measurement.specs.declared.sample.Point.{Point}
use Rattle.tracker_measurement.specs.Phase.{wrapped}
use Rattle.tracker_measurement.specs.Sample.{used, derotated, amplitude, folded}
use Rattle.tracker_measurement.specs.Angle.{phase_error}
use Rattle.tracker_measurement.specs.Noise.{envelope, effective_noise}
use Rattle.tracker_measurement.specs.declared.measure.Received.{Received}
use Rattle.tracker_measurement.specs.declared.measure.Detected.{Detected}

unfoldable pub received : Prior → Float → Float → Received
received v re im =
    let s = used v.modulation re im in
    let amp = amplitude s in
    let env = envelope v.envelope_ema amp in
    record { point = derotated v.theta_pred s; envelope_ema = env; r_effective = effective_noise v.r_meas v.lock_metric amp env }

unfoldable pub detected : Modulation → Point → Detected
detected m d =
    let n = folded m d in
    record { error = phase_error m d; z = wrapped m (phase_error m d); abs_i = absolute n.re; q_sq = mul binary64 n.im n.im }

-- the parts together
abbrev pub together : Received → Detected → Float → Measured
together a d in_phase =
    record { z = d.z; norm_re = in_phase; abs_i = d.abs_i; q_sq = d.q_sq; envelope_ema = a.envelope_ema; r_effective = a.r_effective }
