-- Module 5: the number that a flag is. Definitions only.
use Rattle.std.specs.Prelude.{ℕ, ◌≡◌, ◌<◌, Result, MatchResult}
use Rattle.survey.specs.declared.flag.Flag.{Flag}
use Rattle.survey.specs.declared.flag.Flag.TheVariants.{NoSignal, Signal, NotANumber, Clipped, Empty}
use Rattle.survey.specs.declared.flag.NoFlag.{NoFlag}

-- 0 no signal, 1 a signal, 2 a NaN, 3 clipped, 4 no pairs
abbrev pub flag_number : Flag → ℕ
flag_number NoSignal = 0
flag_number Signal = 1
flag_number NotANumber = 2
flag_number Clipped = 3
flag_number Empty = 4

-- the flag with this number; none has one above 4
abbrev pub Names : ℕ → Result Flag NoFlag → Type 0
Names n r = MatchResult r (λ f. flag_number f ≡ n) (λ _. 4 < n)
