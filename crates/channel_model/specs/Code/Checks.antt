-- What the checks before a call answer, as the table's number. Definitions only.
use Rattle.std.specs.Prelude.{ℕ, Result, Ok, Err}
use Rattle.channel_model.specs.declared.refusal.Refusal.{Refusal}
use Rattle.channel_model.specs.Returns.{refusal_number}

-- the number that a call's outcome has: 0 where it is accepted
abbrev pub number_said : {T : Type 0} → Result T Refusal → ℕ
number_said (Ok x) = 0
number_said (Err r) = refusal_number r
