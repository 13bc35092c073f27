-- The range of phases of each modulation, and the wrap into it (the scope, module 3; the source's `limit` and `half_limit`; the request for one name for
-- half a turn). Squaring BPSK leaves a carrier; QPSK looks the same after a quarter turn. Definitions only.
use Rattle.std.specs.Prelude.{cond, Float}
use Rattle.std.specs.Float.{binary64}
use Rattle.std.specs.Float.Ieee.{add, sub, neg, le}
use Rattle.ieee754.specs.Binary64.{two_pi, pi, half_pi, quarter_pi}
use Rattle.ieee754.specs.Remainder.{rem_euclid}
use Rattle.tracker_measurement.specs.declared.modulation.Modulation.{Modulation}
use Rattle.tracker_measurement.specs.declared.modulation.Modulation.TheVariants.{Carrier, Bpsk, Qpsk}

-- the range's length
abbrev pub limit : Modulation → Float
limit Carrier = two_pi
limit Bpsk = two_pi
limit Qpsk = half_pi

abbrev pub half_limit : Modulation → Float
half_limit Carrier = pi
half_limit Bpsk = pi
half_limit Qpsk = quarter_pi

-- the source's steps: the angle moved by whole ranges into the one around 0. A tiny negative remainder can round up to the whole length, and then the
-- steps end at plus half
unfoldable pub centred : Modulation → Float → Float
centred m angle = sub binary64 (rem_euclid binary64 (add binary64 angle (half_limit m)) (limit m)) (half_limit m)

-- plus half and minus half are one angle, and its name is minus half: so the answer is that where the steps end at plus half or above. A NaN stays one
unfoldable pub wrapped : Modulation → Float → Float
wrapped m angle = cond (le (half_limit m) (centred m angle)) (neg (half_limit m)) (centred m angle)
