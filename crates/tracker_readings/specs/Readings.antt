-- What is read from a tracker (the scope, modules 7 and 9). BPSK is tracked at twice its phase, so its states are halved. Definitions only.
use Rattle.std.specs.Prelude.{ℕ, Float}
use Rattle.ieee754.specs.Binary64 as float
use Rattle.ieee754.specs.Binary64.{over, one, two_pi}
use Rattle.tracker_covariance.specs.Matrix.{el}
use Rattle.tracker_measurement.specs.declared.modulation.Modulation.{Modulation}
use Rattle.tracker_measurement.specs.declared.modulation.Modulation.TheVariants.{Carrier, Bpsk, Qpsk}
use Rattle.tracker.specs.declared.state.CarrierPllEkf.{CarrierPllEkf}

-- what a state is divided by: 2 for BPSK, else 1
unfoldable pub scale : Modulation → Float
scale Carrier = one
scale Bpsk = float.two
scale Qpsk = one

-- state i, an angular frequency, in hertz, at the scale k
unfoldable pub hertz : Float → CarrierPllEkf → ℕ → Float
hertz k t i = over (over (el t.x i) k) two_pi

-- the phase at the scale k
unfoldable pub phase_at : Float → CarrierPllEkf → Float
phase_at k t = over (el t.x 0) k
