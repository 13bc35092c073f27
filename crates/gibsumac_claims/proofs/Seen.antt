-- Each exported function does to the channel that a struct stands for what the channel's own call does. Assumes nothing.
use mathlib.Core.Path.{◌≡◌, refl, ◌∙◌}
use mathlib.Core.Logic.{◌≢◌}
use Rattle.channel_model.specs.declared.Settings.{Settings}
use Rattle.channel_model.specs.declared.Channel.{Channel}
use Rattle.channel_model.specs.Opening as opening
use Rattle.channel_model.specs.Opening.{new_channel, refused_settings}
use Rattle.channel_model.specs.Assigning.{assigned}
use Rattle.channel_model.specs.Releasing.{released}
use Rattle.channel_model.specs.Blocks.{blocked}
use Rattle.channel_model.specs.Calls.{assign, release, figures, block, Call, ask, lend, nothing, answered, Result, told, called, model, refusal_of}
use Rattle.channel_model.specs.Demand1.{Refuses, Demand1}
use Rattle.channel_model.proofs.Demand1.{demand1}
use Rattle.channel_c_layout.specs.declared.plain_channel.PlainChannel.{PlainChannel}
use Rattle.channel_c_layout.specs.Channels.{real_channel}
use Rattle.channel_c_layout.specs.Calls.{opened_c, assigned_c, blocked_c, released_c, figures_c}
use Rattle.channel_c_layout.proofs.RoundTrip.{channel_back, given_back_lem}
use Rattle.gibsumac_claims.specs.Exported.{called_c, exported}

-- demand 1 of the channel's own calls
pub of_channel : Refuses model refusal_of (new_channel refused_settings)
unfolding Demand1
of_channel = demand1

-- the channel that a refused call of the model leaves is the one that it was given
left : (c : Channel) (k : Call) → (called c k).refusal ≢ 0 → (called c k).channel ≡ c
unfolding model
left c k h = of_channel.returns c k (λ e. h (of_channel.names c k ∙ e))

-- what a function gives back, with the channel that its struct stands for
unfoldable pub seen : Result PlainChannel → Result Channel
seen r = record { refusal = r.refusal; channel = real_channel r.channel; reply = r.reply; memory = r.memory }

pub open_seen : (s : Settings) → seen (exported.opens s) ≡ model.opens s
unfolding seen exported model opened_c
open_seen s = λ i. told (opening.opened s).refusal (channel_back (opening.opened s).channel i) nothing

pub call_seen : (p : PlainChannel) (c : Call) → seen (exported.calls p c) ≡ model.calls (real_channel p) c
unfolding seen exported called_c model called assigned_c released_c figures_c blocked_c
call_seen p (ask (assign a)) =
    let r = assigned (real_channel p) a in
    λ i. told r.refusal (given_back_lem r.refusal p r.channel (left (real_channel p) (ask (assign a))) i) nothing
call_seen p (ask release) = λ i. told 0 (channel_back (released (real_channel p)) i) nothing
call_seen p (ask figures) = refl
call_seen p (lend (block b) w) =
    let o = blocked (real_channel p) b w in
    λ i. record {
      refusal = o.answer.refusal;
      channel = given_back_lem o.answer.refusal p o.channel (left (real_channel p) (lend (block b) w)) i;
      reply = answered o.answer;
      memory = record { first = o.first; second = o.second; windows = o.windows };
    }
