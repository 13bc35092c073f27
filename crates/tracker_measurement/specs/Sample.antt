-- The sample that is used and its components after derotation (the source's `update_channel`). Definitions only.
use Rattle.std.specs.Prelude.{Float}
use Rattle.std.specs.Float.{binary32, binary64}
use Rattle.std.specs.Float.Ieee.{add, sub, mul, div, neg}
use Rattle.ieee754.specs.Binary64.{root_two}
use Rattle.ieee754.specs.Sign.{absolute}
use Rattle.ieee754.specs.Hypotenuse.{hypotenuse}
use Rattle.elementary_sincos.specs.Steps.{sine, cosine}
use Rattle.tracker_measurement.specs.declared.modulation.Modulation.{Modulation}
use Rattle.tracker_measurement.specs.declared.modulation.Modulation.TheVariants.{Carrier, Bpsk, Qpsk}
use Rattle.tracker_measurement.specs.declared.sample.Point.{Point}

abbrev pub point : Float → Float → Point
point re im = record { re = re; im = im }

-- the complex square, each operation rounded to f32
abbrev pub squared : Float → Float → Point
squared re im =
    point (sub binary32 (mul binary32 re re) (mul binary32 im im)) (add binary32 (mul binary32 re im) (mul binary32 im re))

-- the sample, for BPSK its square; every f32 is an f64
abbrev pub used : Modulation → Float → Float → Point
used Carrier re im = point re im
used Bpsk re im = squared re im
used Qpsk re im = point re im

-- the sample times e^(-iθ)
unfoldable pub derotated : Float → Point → Point
derotated theta s =
    let c = cosine (neg theta) in
    let n = sine (neg theta) in
    point (sub binary64 (mul binary64 s.re c) (mul binary64 s.im n))
    (add binary64 (mul binary64 s.re n) (mul binary64 s.im c))

unfoldable pub amplitude : Point → Float
amplitude s = hypotenuse s.re s.im

-- (|re| + |im|) / √2 and (|im| − |re|) / √2
unfoldable pub diagonals : Point → Point
diagonals d =
    point (div binary64 (add binary64 (absolute d.re) (absolute d.im)) root_two)
    (div binary64 (sub binary64 (absolute d.im) (absolute d.re)) root_two)

-- in phase and in quadrature, all symbols folded onto one
abbrev pub folded : Modulation → Point → Point
folded Carrier d = d
folded Bpsk d = d
folded Qpsk d = diagonals d
