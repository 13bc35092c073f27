-- "Values on both sides", those marked P, the example of "The pass text and its list", the angles of the request for one name for half a turn, and a large
-- angle: one table, which proofs/Proved.antt proves of the definitions. Definitions only.
use Rattle.std.specs.Prelude.{◌^◌, ◌≤◌, ◌≡◌, Bool, true, List, [], ◌∷◌, length, Float}
use Rattle.std.specs.Float.{nan, binary64}
use Rattle.std.specs.Float.Ieee.{of_bits, neg, le}
use Rattle.ieee754.specs.Binary64 as float
use Rattle.ieee754.specs.Binary32 as float32
use Rattle.sequences.specs.Pairs.{pairs}
use Rattle.ieee754.specs.SquareRoot.{sqrt}
use Rattle.elementary_fixed_point.specs.Fraction.{Near}
use Rattle.elementary_sincos.specs.Steps.{sine, cosine}
use Rattle.elementary_arctangent.specs.Steps.{atan2_of}
use Rattle.survey.specs.Survey.{survey_of}
use Rattle.tracker_measurement.specs.declared.modulation.Modulation.TheVariants.{Carrier, Bpsk, Qpsk}
use Rattle.tracker_measurement.specs.Phase.{wrapped}
use Rattle.estimate_snr.specs.MomentEstimate.{snr_of}
use Rattle.estimate_correlation.specs.Correlation.{prepared}
use Rattle.estimate_esprit.specs.Esprit.{estimate}
use Rattle.estimate_dispersion.specs.Dispersion.{dispersion_free}
use Rattle.channel_model.specs.declared.Settings.{Settings}
use Rattle.channel_model.specs.Opening.{fade_steps, new_channel, refused_settings, opened}
use Rattle.pass_setup.specs.Listing.{list_of}
use Rattle.worked_values.specs.PassList.{pass_text, pass_list}

-- what does not depend on rate and factor is within its limits: modulation 0 to 2, fade up to 86,400 s, ratio 0.25 to 4
pub record RestGood (s : Settings) : Type 0 where
  pub modulation_good : s.modulation ≤ 2
  pub fade_good : s.fade ≤ 86400
  pub ratio_from : le float.quarter s.ratio ≡ true
  pub ratio_to : le s.ratio float.four ≡ true

pub record WorkedValues : Type 0 where
  -- factor 1, rate 999 refused 1; 1,000 and 100,000 open; 100,001 refused 1: whatever the rest of the settings is, or any good one to open
  pub rate_999 : (s : Settings) → s.factor ≡ 1 → s.rate ≡ 999 → opened s ≡ record { refusal = 1; channel = new_channel refused_settings }
  pub rate_1000 : (s : Settings) → s.factor ≡ 1 → s.rate ≡ 1000 → RestGood s → opened s ≡ record { refusal = 0; channel = new_channel s }
  pub rate_100000 : (s : Settings) → s.factor ≡ 1 → s.rate ≡ 100000 → RestGood s → opened s ≡ record { refusal = 0; channel = new_channel s }
  pub rate_100001 : (s : Settings) → s.factor ≡ 1 → s.rate ≡ 100001 → opened s ≡ record { refusal = 1; channel = new_channel refused_settings }
  -- fade 5 s at 40,000 Hz gives 5 steps; at 1,000 Hz, 0; 86,400 s at 100,000 Hz, 216,000
  pub fade_at_40000 : (s : Settings) → s.factor ≡ 1 → s.rate ≡ 40000 → s.fade ≡ 5 → fade_steps s ≡ 5
  pub fade_at_1000 : (s : Settings) → s.factor ≡ 1 → s.rate ≡ 1000 → s.fade ≡ 5 → fade_steps s ≡ 0
  pub fade_at_100000 : (s : Settings) → s.factor ≡ 1 → s.rate ≡ 100000 → s.fade ≡ 86400 → fade_steps s ≡ 216000
  -- root of 2 is 3ff6a09e667f3bcd
  pub root_of_2 : sqrt binary64 float.two ≡ of_bits binary64 0x3ff6_a09e_667f_3bcd
  -- atan2(+0, -1) is 400921fb54442d18
  pub atan2_left : atan2_of float.zero (neg float.one) ≡ of_bits binary64 0x4009_21fb_5444_2d18
  -- survey of (1, 1) is 3; (1, 0.5) 1; (0, 0) 0; nothing 4; (NaN, 9) 2
  pub survey_clipped : survey_of (pairs (float32.one ∷ float32.one ∷ [])) ≡ 3
  pub survey_signal : survey_of (pairs (float32.one ∷ float32.half ∷ [])) ≡ 1
  pub survey_silent : survey_of (pairs (float32.zero ∷ float32.zero ∷ [])) ≡ 0
  pub survey_empty : survey_of (pairs []) ≡ 4
  pub survey_nan : survey_of (pairs (nan ∷ float32.nine ∷ [])) ≡ 2
  -- SNR of four (1, 0) is 40; of none, -20
  pub snr_four : snr_of (float32.one ∷ float32.zero ∷ float32.one ∷ float32.zero ∷ float32.one ∷ float32.zero ∷ float32.one ∷ float32.zero ∷ []) ≡ float.forty
  pub snr_none : snr_of [] ≡ neg float.twenty
  -- nine samples estimate to 0, whichever they are
  pub estimate_nine : (samples : List Float) (squared : Bool) (rate : Float) → length samples ≡ 18 → estimate (prepared squared samples) rate ≡ float.zero
  -- cancel with f1 2, f2 1, offsets 3 and 0 gives 4
  pub cancel_two_one : dispersion_free float.two float.one float.three float.zero ≡ float.four
  -- -3.1415926535897936 wraps to minus half a turn, and -0.7853981633974484 of QPSK to minus an eighth, where the source's steps end at plus half
  pub wrap_carrier : wrapped Carrier (of_bits binary64 0xc009_21fb_5444_2d19) ≡ neg float.pi
  pub wrap_bpsk : wrapped Bpsk (of_bits binary64 0xc009_21fb_5444_2d19) ≡ neg float.pi
  pub wrap_qpsk : wrapped Qpsk (of_bits binary64 0xbfe9_21fb_5444_2d19) ≡ neg float.quarter_pi
  -- the neighbour on one side is minus half itself and stays
  pub wrap_nearer : wrapped Carrier (neg float.pi) ≡ neg float.pi
  pub wrap_nearer_bpsk : wrapped Bpsk (neg float.pi) ≡ neg float.pi
  pub wrap_nearer_qpsk : wrapped Qpsk (neg float.quarter_pi) ≡ neg float.quarter_pi
  -- the neighbour on the other side wraps to 3.1415926535897922 and 0.7853981633974481, the second f64 below plus half
  pub wrap_farther : wrapped Carrier (of_bits binary64 0xc009_21fb_5444_2d1a) ≡ of_bits binary64 0x4009_21fb_5444_2d16
  pub wrap_farther_bpsk : wrapped Bpsk (of_bits binary64 0xc009_21fb_5444_2d1a) ≡ of_bits binary64 0x4009_21fb_5444_2d16
  pub wrap_farther_qpsk : wrapped Qpsk (of_bits binary64 0xbfe9_21fb_5444_2d1a) ≡ of_bits binary64 0x3fe9_21fb_5444_2d16
  -- sine and cosine of 10 ^ 22, which is an f64, are -0.8522008497671888017727.. and 0.5232147853951389454975.. (published, as a test of argument reduction)
  pub sine_far : Near 40 (sine (of_bits binary64 0x4480_f0cf_064d_d592)) (record { plus = 0; minus = 8522008497671888017727; over = 10 ^ 22 })
  pub cosine_far : Near 40 (cosine (of_bits binary64 0x4480_f0cf_064d_d592)) (record { plus = 5232147853951389454975; minus = 0; over = 10 ^ 22 })
  -- the list of the pass text's example
  pub pass_listed : list_of pass_text ≡ pass_list
