-- Module 2: what is promised of sine and cosine beside their bits, for every θ. Definitions only.
use Rattle.std.specs.Prelude.{◌≡◌, not, cond, T, Float}
use Rattle.std.specs.Float.{nan}
use Rattle.std.specs.Float.Ieee.{neg, lt, eq}
use Rattle.std.specs.Float.Ieee.Scale.{finite}
use Rattle.ieee754.specs.Binary64.{one, two_to_minus16}
use Rattle.ieee754.specs.Sign.{plus_zero, absolute, sign_bit}
use Rattle.elementary_fixed_point.specs.Fraction.{Fraction, negated, Near}
use Rattle.elementary_reduction.specs.Reduction.{rest_num, rest_den}
use Rattle.elementary_sincos.specs.Taylor.{sine_sum, cosine_sum}
use Rattle.elementary_sincos.specs.Steps.{sine, cosine}

-- the Taylor sums at θ's exact remainder; sine's with the sign of θ
abbrev pub taylor_sine : Float → Fraction
taylor_sine θ = cond (sign_bit θ) (negated (sine_sum (rest_num θ) (rest_den θ))) (sine_sum (rest_num θ) (rest_den θ))

abbrev pub taylor_cosine : Float → Fraction
taylor_cosine θ = cosine_sum (rest_num θ) (rest_den θ)

-- Of a NaN and an infinity it is a NaN; of a finite θ, however large, within 2 ^ -40 of the Taylor sum; of a θ below 2 ^ -16 in size, zeros with their signs
-- among them, θ itself; and it changes its sign with θ.
pub record SinePromise (θ v : Float) : Type 0 where
  pub undefined : T (not (finite θ)) → v ≡ nan
  pub near : T (finite θ) → Near 40 v (taylor_sine θ)
  pub small : T (lt (absolute θ) two_to_minus16) → v ≡ θ
  pub odd : sine (neg θ) ≡ neg v

-- the same; of a zero it is 1, and it is that of -θ
pub record CosinePromise (θ v : Float) : Type 0 where
  pub undefined : T (not (finite θ)) → v ≡ nan
  pub near : T (finite θ) → Near 40 v (taylor_cosine θ)
  pub zero : T (eq θ plus_zero) → v ≡ one
  pub even : cosine (neg θ) ≡ v
