-- The state's order (the scope, module 3): phase, frequency and chirp, then the same for channel 2. Definitions only.
use Rattle.std.specs.Prelude.{ℕ}
use Rattle.tracker_covariance.specs.declared.states.Band.{Band}
use Rattle.tracker_covariance.specs.declared.states.Band.TheVariants.{First, Second}

-- where a channel's phase stands; its frequency and its chirp follow
abbrev pub phase_of : Band → ℕ
phase_of First = 0
phase_of Second = 3
