-- The worked values of open, for any rate: whether it is refused, and the steps of a fade. Assumes nothing.
use Prim.Native.Nat.{ℕ}
use mathlib.Core.Path.{◌≡◌, ◌∙◌}
use mathlib.Core.Bool.{true, false}
use lib.Ieee.{binary64, of_bits, to_unsigned}
use borrow.Author.Tests.{le-ltb}
use Rattle.ieee754.specs.Binary64.{times, over}
use Rattle.channel_model.specs.declared.Settings.{Settings}
use Rattle.channel_model.specs.Returns.{Returned}
use Rattle.channel_model.specs.Refusals.{first_cause}
use Rattle.channel_model.specs.Opening.{bad_rate, bad_ratio, open_refusal, whole, decimated_rate, fade_steps, new_channel, refused_settings, opened}
use Rattle.worked_values.specs.Table.{RestGood}

-- settings of factor 1 and this rate
pub record RateOf (rate : ℕ) (s : Settings) : Type 0 where
  pub factor_is : s.factor ≡ 1
  pub rate_is : s.rate ≡ rate

-- a channel as the settings say, and no refusal
abbrev pub accepted : Settings → Returned
accepted s = record { refusal = 0; channel = new_channel s }

-- the refusal, and the channel that comes with it
abbrev pub refused : ℕ → Returned
refused number = record { refusal = number; channel = new_channel refused_settings }

-- ---- rates

-- the first cause of refusal goes by rate and factor alone
same_rate : {rate : ℕ} (s : Settings) → RateOf rate s → bad_rate s.rate s.factor ≡ bad_rate rate 1
same_rate s h = rw (h.factor_is, h.rate_is)

pub refused_rate : {rate : ℕ} (s : Settings) → RateOf rate s → bad_rate rate 1 ≡ true → opened s ≡ refused 1
unfolding opened open_refusal first_cause
refused_rate s h bad = rw (same_rate s h ∙ bad)

pub accepted_rate : {rate : ℕ} (s : Settings) → RateOf rate s → bad_rate rate 1 ≡ false → RestGood s → opened s ≡ accepted s
unfolding opened open_refusal first_cause bad_ratio
accepted_rate s h good rest =
    rw (same_rate s h ∙ good, le-ltb 2 s.modulation rest.modulation_good, le-ltb 86400 s.fade rest.fade_good, rest.ratio_from, rest.ratio_to)

-- ---- fades

-- the steps of a fade of so many seconds, at factor 1
abbrev pub steps : ℕ → ℕ → ℕ
steps rate seconds = to_unsigned 64 (over (times (whole seconds) (decimated_rate rate 1)) (of_bits binary64 0x40e3_8800_0000_0000))

pub fade_steps_lem : {rate seconds : ℕ} (s : Settings) → RateOf rate s → s.fade ≡ seconds → fade_steps s ≡ steps rate seconds
unfolding fade_steps
fade_steps_lem s h f = rw (h.factor_is, h.rate_is, f)
