-- What the wrap promises (the request for one name for half a turn): every finite phase, once wrapped, lies from minus half the range, included, to plus
-- half, excluded, for all three modulations, so no angle has two names; and it is the source's own answer but for one angle. Statements;
-- proofs/WrappedPhase.antt and proofs/OneAngle.antt prove them.
use Rattle.std.specs.Prelude.{◌≡◌, T, Float}
use Rattle.std.specs.Float.{binary64}
use Rattle.std.specs.Float.Ieee.{neg, lt, le, fits, of_bits}
use Rattle.std.specs.Float.Ieee.Scale.{finite}
use Rattle.tracker_measurement.specs.declared.modulation.Modulation.{Modulation}
use Rattle.tracker_measurement.specs.declared.modulation.Modulation.TheVariants.{Carrier, Bpsk, Qpsk}
use Rattle.tracker_measurement.specs.Phase.{half_limit, centred, wrapped}

-- -half ≤ x < half, in IEEE 754's order: a NaN is not there
pub record InRange (m : Modulation) (x : Float) : Type 0 where
  pub low : T (le (neg (half_limit m)) x)
  pub high : T (lt x (half_limit m))

-- every finite f64, for each modulation
abbrev pub WrapsIntoRange : Type 0
WrapsIntoRange = (m : Modulation) (angle : Float) → T (fits binary64 angle) → T (finite angle) → InRange m (wrapped m angle)

-- the f64 next below minus half: -3.1415926535897936, and -0.7853981633974484 for QPSK
abbrev pub next_below : Modulation → Float
next_below Carrier = of_bits binary64 0xc009_21fb_5444_2d19
next_below Bpsk = of_bits binary64 0xc009_21fb_5444_2d19
next_below Qpsk = of_bits binary64 0xbfe9_21fb_5444_2d19

-- there the source's steps end at plus half, and the wrap answers minus half; of every other f64 it answers what the source does
pub record OneAngle : Type 0 where
  pub steps_end : (m : Modulation) → centred m (next_below m) ≡ half_limit m
  pub answered : (m : Modulation) → wrapped m (next_below m) ≡ neg (half_limit m)
  pub elsewhere : (m : Modulation) (angle : Float) → T (fits binary64 angle) → (angle ≡ next_below m → ⊥) → wrapped m angle ≡ centred m angle
