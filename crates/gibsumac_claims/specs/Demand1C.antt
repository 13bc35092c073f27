-- Demand 1 of the exported functions, for every struct that a caller can hand in. What a call is refused for is the scope's table at the channel that the struct
-- stands for. proofs/Demand1C.antt proves it. Definitions only.
use Rattle.std.specs.Prelude.{ℕ}
use Rattle.channel_model.specs.Opening.{new_channel, refused_settings}
use Rattle.channel_model.specs.Calls.{Call, refusal_of}
use Rattle.channel_model.specs.Demand1.{Refuses}
use Rattle.channel_c_layout.specs.declared.plain_channel.PlainChannel.{PlainChannel}
use Rattle.channel_c_layout.specs.Channels.{plain_channel, real_channel}
use Rattle.gibsumac_claims.specs.Exported.{exported}

unfoldable pub refusal_of_c : PlainChannel → Call → ℕ
refusal_of_c p c = refusal_of (real_channel p) c

unfoldable pub Demand1C : Type 0
Demand1C = Refuses exported refusal_of_c (plain_channel (new_channel refused_settings))
