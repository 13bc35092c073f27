-- The numbers of each modulation's range, by computation: half the range, its length, the f64s next to them, and what sums of these are. Assumes nothing.
use mathlib.Core.Path.{◌≡◌, refl}
use mathlib.Core.Bool.{false, not}
use Prim.Native.Nat.{ℕ, ◌+◌, ◌-◌, ◌^◌}
use lib.Dec.{T, lit<, lit≤}
use lib.Ieee.{Float, binary64, neg, lt, le, eq, is_nan, add, sub, low, fits, of_bits}
use lib.Ieee.Exact.{HasValue}
use lib.Ieee.Scale.{finite}
use lib.Ieee.Positive.{positive}
use Rattle.ieee754_rounding.proofs.FormatValues.{largest}
use Rattle.ieee754.specs.Sign.{absolute, plus_zero}
use Rattle.ieee754.proofs.RemainderSteps.{Digits}
use Rattle.tracker_measurement.specs.declared.modulation.Modulation.{Modulation}
use Rattle.tracker_measurement.specs.declared.modulation.Modulation.TheVariants.{Carrier, Bpsk, Qpsk}
use Rattle.tracker_measurement.specs.Phase.{limit, half_limit}
use Rattle.tracker_measurement.proofs.WrapSteps.{digits, places, before, Counts}
use Rattle.tracker_claims.specs.WrappedPhase.{next_below}

-- the length's last place: 2 ^ -50, and 2 ^ -52 for QPSK
abbrev pub last_place : Modulation → Float
last_place Carrier = of_bits binary64 0x3cd0_0000_0000_0000
last_place Bpsk = of_bits binary64 0x3cd0_0000_0000_0000
last_place Qpsk = of_bits binary64 0x3cb0_0000_0000_0000

-- the f64 below the one next below minus half
abbrev pub second_below : Modulation → Float
second_below Carrier = of_bits binary64 0xc009_21fb_5444_2d1a
second_below Bpsk = of_bits binary64 0xc009_21fb_5444_2d1a
second_below Qpsk = of_bits binary64 0xbfe9_21fb_5444_2d1a

-- of a range whose length is `digits` of 2 ^ i units, and half of it as many of half the size
pub record Numbers (half length prior next second place : Float) (i : ℕ) : Type 0 where
  pub length_positive : T (positive length)
  pub length_fits : T (fits binary64 length)
  pub length_number : T (not (is_nan length))
  pub length_size : absolute length ≡ length
  pub length_digits : Digits binary64 length digits i
  pub half_number : T (not (is_nan half))
  pub half_counts : Counts half digits (i - 1)
  pub minus_half : T (lt (neg half) half)
  pub from_zero : sub binary64 plus_zero half ≡ neg half
  -- half added to the largest f64 and to its opposite
  pub top_finite : T (finite (add binary64 (largest binary64) half))
  pub bottom_finite : T (finite (add binary64 (neg (largest binary64)) half))
  -- a last place less than the length is the f64 before it, which is below it
  pub place_value : HasValue place false (2 ^ i) (2 ^ low binary64)
  pub place_number : T (not (is_nan (neg place)))
  pub one_less : add binary64 (neg place) length ≡ prior
  pub length_exceeds : le length prior ≡ false
  -- the two f64s below minus half, in size; of the second the sum with half is a last place below 0
  pub next_counts : Counts (neg next) (digits + 1) (i - 1)
  pub next_number : T (not (is_nan (neg next)))
  pub next_positive : T (positive (neg next))
  pub next_fits : T (fits binary64 (neg next))
  pub second_counts : Counts (neg second) (digits + 2) (i - 1)
  pub second_number : T (not (is_nan (neg second)))
  pub second_sum : add binary64 second half ≡ neg place

abbrev pub NumbersOf : Modulation → Type 0
NumbersOf m = Numbers (half_limit m) (limit m) (before m) (next_below m) (second_below m) (last_place m) (places m)

whole_turn : NumbersOf Carrier
unfolding of_bits add sub neg le lt eq is_nan fits absolute
whole_turn =
    record {
      length_positive = tt;
      length_fits = tt;
      length_number = tt;
      length_size = refl;
      length_digits = record { value = (refl, refl); full = lit≤ tt; short = lit< tt };
      half_number = tt;
      half_counts = (refl, refl);
      minus_half = tt;
      from_zero = refl;
      top_finite = tt;
      bottom_finite = tt;
      place_value = (refl, refl);
      place_number = tt;
      one_less = refl;
      length_exceeds = refl;
      next_counts = (refl, refl);
      next_number = tt;
      next_positive = tt;
      next_fits = tt;
      second_counts = (refl, refl);
      second_number = tt;
      second_sum = refl;
    }

quarter_turn : NumbersOf Qpsk
unfolding of_bits add sub neg le lt eq is_nan fits absolute
quarter_turn =
    record {
      length_positive = tt;
      length_fits = tt;
      length_number = tt;
      length_size = refl;
      length_digits = record { value = (refl, refl); full = lit≤ tt; short = lit< tt };
      half_number = tt;
      half_counts = (refl, refl);
      minus_half = tt;
      from_zero = refl;
      top_finite = tt;
      bottom_finite = tt;
      place_value = (refl, refl);
      place_number = tt;
      one_less = refl;
      length_exceeds = refl;
      next_counts = (refl, refl);
      next_number = tt;
      next_positive = tt;
      next_fits = tt;
      second_counts = (refl, refl);
      second_number = tt;
      second_sum = refl;
    }

pub numbers : (m : Modulation) → NumbersOf m
numbers Carrier = whole_turn
numbers Bpsk = whole_turn
numbers Qpsk = quarter_turn
