-- Module 2: what is promised of atan2 beside its bits. Definitions only.
use Rattle.std.specs.Prelude.{◌*◌, ◌<◌, ◌≡◌, not, ◌&&◌, T, Float}
use Rattle.std.specs.Float.Ieee.{neg, le, is_nan}
use Rattle.std.specs.Float.Ieee.Positive.{num, den}
use Rattle.std.specs.Float.Ieee.Scale.{finite}
use Rattle.ieee754.specs.Binary64.{pi}
use Rattle.ieee754.specs.Sign.{sign_bit}
use Rattle.elementary_fixed_point.specs.Fraction.{Near}
use Rattle.elementary_arctangent.specs.Angle.{quadrant}
use Rattle.elementary_arctangent.specs.SpecialCases.{special}

pub record Arctangent (y x v : Float) : Type 0 where
  pub standard : v ≡ special y x v
  -- y's sign, in every case
  pub sign : T (not (is_nan v)) → sign_bit v ≡ sign_bit y
  -- from -π to π
  pub bounded : T (not (is_nan v)) → T (le (neg pi) v && le v pi)
  -- for finite y and x, x not 0: within 2 ^ -40 of the angle built from A(|y / x|) by quadrant
  pub near : T (finite y) → T (finite x) → 0 < num x → Near 40 v (quadrant (sign_bit y) (sign_bit x) (num y * den x) (num x * den y))
