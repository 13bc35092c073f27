-- z, the angle of the derotated sample, and the in-phase value: cos(z), or cos(4z) for QPSK, z before its wrap (the scope, module 3). Definitions only.
use Rattle.std.specs.Prelude.{Float}
use Rattle.std.specs.Float.{binary64}
use Rattle.std.specs.Float.Ieee.{sub, mul}
use Rattle.ieee754.specs.Binary64.{two, four, quarter}
use Rattle.elementary_sincos.specs.Steps.{cosine}
use Rattle.elementary_arctangent.specs.Steps.{atan2_of}
use Rattle.tracker_measurement.specs.declared.modulation.Modulation.{Modulation}
use Rattle.tracker_measurement.specs.declared.modulation.Modulation.TheVariants.{Carrier, Bpsk, Qpsk}
use Rattle.tracker_measurement.specs.declared.sample.Point.{Point}
use Rattle.tracker_measurement.specs.Sample.{point}

-- the square of the square
unfoldable pub fourth_power : Point → Point
fourth_power d =
    let i2 = sub binary64 (mul binary64 d.re d.re) (mul binary64 d.im d.im) in
    let q2 = mul binary64 (mul binary64 two d.re) d.im in
    point (sub binary64 (mul binary64 i2 i2) (mul binary64 q2 q2)) (mul binary64 (mul binary64 two i2) q2)

-- the angle of a point
abbrev pub angle_of : Point → Float
angle_of d = atan2_of d.im d.re

-- z before its wrap: for QPSK a quarter of the fourth power's angle
abbrev pub phase_error : Modulation → Point → Float
phase_error Carrier d = angle_of d
phase_error Bpsk d = angle_of d
phase_error Qpsk d = mul binary64 quarter (angle_of (fourth_power d))

abbrev pub in_phase : Modulation → Float → Float
in_phase Carrier z = cosine z
in_phase Bpsk z = cosine z
in_phase Qpsk z = cosine (mul binary64 four z)
