-- What open and assign return, and the numbers that the scope gives to the causes of refusal. Definitions only.
use Rattle.std.specs.Prelude.{ℕ, Result, Ok, Err}
use Rattle.channel_model.specs.declared.refusal.Refusal.{Refusal}
use Rattle.channel_model.specs.declared.refusal.Refusal.TheVariants.{Rate, Modulation, Fade, Ratio, Frequency, NotIdle, Flag, Length, NotEmpty, Second, Component, Windows}
use Rattle.channel_model.specs.declared.Channel.{Channel}
use Rattle.channel_model.specs.declared.Refused.{Refused}

-- the number of a cause in the scope's table ("Causes of refusal")
abbrev pub refusal_number : Refusal → ℕ
refusal_number Rate = 1
refusal_number Modulation = 2
refusal_number Fade = 3
refusal_number Ratio = 4
refusal_number Frequency = 5
refusal_number NotIdle = 6
refusal_number Flag = 7
refusal_number Length = 8
refusal_number NotEmpty = 9
refusal_number Second = 10
refusal_number Component = 11
refusal_number Windows = 12

-- "refusal number (0 if accepted)", and the channel
pub record Returned : Type 0 where
  pub refusal : ℕ
  pub channel : Channel

-- what open and assign return, as these two
abbrev pub returned : Result Channel Refused → Returned
returned (Ok c) = record { refusal = 0; channel = c }
returned (Err e) = record { refusal = refusal_number e.refusal; channel = e.channel }
