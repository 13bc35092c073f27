-- Sine and cosine of 10 ^ 22, computed, are where their published values are.
use lib.Count.{count_trailing_zeros}
use lib.Dec.{lit≤}
use lib.Ieee.{binary64, span, climb, size, odd, units, round, neg, mul, lt, of_int, of_bits}
use Rattle.ieee754.specs.Sign.{absolute}
use Rattle.elementary_fixed_point.specs.Series.{factorial}
use Rattle.elementary_fixed_point.specs.Product.{horner, tabulate}
use Rattle.elementary_fixed_point.specs.Conversion.{scaled}
use Rattle.elementary_fixed_point.specs.Fraction.{Near}
use Rattle.elementary_reduction.specs.Reduction.{turn, reduced}
use Rattle.elementary_sincos.specs.Steps.{coefficients, difference, sine_series, cosine_series, sine, cosine}
use Prim.Native.Nat.{◌^◌}

pub sine_far : Near 40 (sine (of_bits binary64 0x4480_f0cf_064d_d592)) (record { plus = 0; minus = 8522008497671888017727; over = 10 ^ 22 })
unfolding Near sine absolute lt reduced turn sine_series difference scaled neg mul of_int horner coefficients tabulate factorial round size span climb units odd count_trailing_zeros of_bits
sine_far = lit≤ tt

pub cosine_far : Near 40 (cosine (of_bits binary64 0x4480_f0cf_064d_d592)) (record { plus = 5232147853951389454975; minus = 0; over = 10 ^ 22 })
unfolding Near cosine reduced turn cosine_series difference scaled neg mul of_int horner coefficients tabulate factorial round size span climb units odd count_trailing_zeros of_bits
cosine_far = lit≤ tt
