-- The envelope and R, the variance of the measured phase (the scope, module 3: "F, Q, R and z are the source's"). Definitions only.
use Rattle.std.specs.Prelude.{cond, Float}
use Rattle.std.specs.Float.{binary64}
use Rattle.std.specs.Float.Ieee.{add, sub, mul, div, lt}
use Rattle.ieee754.specs.Binary64.{one, hundred, point999, point995, point1, point005, point001, point0001, ten_to_minus6}
use Rattle.ieee754.specs.Order.{maximum, clamped}

-- 0.995 of the old and 0.005 of the new
unfoldable pub envelope : Float → Float → Float
envelope old amp = add binary64 (mul binary64 point995 old) (mul binary64 point005 amp)

-- the amplitude over the envelope; 1 unless the envelope exceeds 1e-6
unfoldable pub relative_amplitude : Float → Float → Float
relative_amplitude amp env = cond (lt ten_to_minus6 env) (div binary64 amp env) one

-- (1 − m) / m within 0.1 to 100, m being the metric within 0.001 to 0.999
unfoldable pub snr_factor : Float → Float
snr_factor metric =
    let m = clamped metric point001 point999 in
    clamped (div binary64 (sub binary64 one m) m) point1 hundred

-- 1 over the squared relative amplitude, which counts as 0.0001 at least
unfoldable pub fade_factor : Float → Float → Float
fade_factor amp env =
    let a = relative_amplitude amp env in
    div binary64 one (maximum (mul binary64 a a) point0001)

unfoldable pub effective_noise : Float → Float → Float → Float → Float
effective_noise meas metric amp env = mul binary64 (mul binary64 meas (snr_factor metric)) (fade_factor amp env)
