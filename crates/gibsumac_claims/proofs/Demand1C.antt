-- Demand 1 of the exported functions holds. Assumes nothing.
use mathlib.Core.Path.{◌≡◌, refl, sym, ◌∙◌, ap}
use mathlib.Core.Logic.{◌≢◌}
use Rattle.channel_model.specs.declared.Settings.{Settings}
use Rattle.channel_model.specs.declared.Channel.{Channel}
use Rattle.channel_model.specs.Opening.{open_refusal, new_channel, refused_settings}
use Rattle.channel_model.specs.Calls.{assign, release, figures, block, Call, ask, lend, Result, model}
use Rattle.channel_c_layout.specs.declared.plain_channel.PlainChannel.{PlainChannel}
use Rattle.channel_c_layout.specs.Channels.{plain_channel, real_channel}
use Rattle.channel_c_layout.specs.Calls.{opened_c, assigned_c, blocked_c}
use Rattle.channel_c_layout.proofs.RoundTrip.{refused_given}
use Rattle.gibsumac_claims.specs.Exported.{called_c, exported}
use Rattle.gibsumac_claims.specs.Demand1C.{refusal_of_c, Demand1C}
use Rattle.gibsumac_claims.proofs.Seen.{of_channel, seen, open_seen, call_seen}

open_names_lem : (s : Settings) → (exported.opens s).refusal ≡ open_refusal s
unfolding seen
open_names_lem s = ap (λ (r : Result Channel). r.refusal) (open_seen s) ∙ of_channel.open_names s

open_returns_lem : (s : Settings) → open_refusal s ≢ 0 → (exported.opens s).channel ≡ plain_channel (new_channel refused_settings)
unfolding exported opened_c model
open_returns_lem s h = ap plain_channel (of_channel.open_returns s h)

names : (p : PlainChannel) (c : Call) → (exported.calls p c).refusal ≡ refusal_of_c p c
unfolding seen refusal_of_c
names p c = ap (λ (r : Result Channel). r.refusal) (call_seen p c) ∙ of_channel.names (real_channel p) c

-- a refused call hands back the struct that it was given
returns : (p : PlainChannel) (c : Call) → (exported.calls p c).refusal ≢ 0 → (exported.calls p c).channel ≡ p
unfolding exported called_c assigned_c blocked_c
returns p (ask (assign a)) h = refused_given _ p _ h
returns p (ask release) h = absurd (h refl)
returns p (ask figures) h = refl
returns p (lend (block b) w) h = refused_given _ p _ h

pub demand1_c : Demand1C
unfolding Demand1C seen refusal_of_c
demand1_c =
    record {
      open_names = open_names_lem;
      open_returns = open_returns_lem;
      names = names;
      returns = λ p c h. returns p c (λ e. h (sym (names p c) ∙ e));
      leaves = λ p c h. ap (λ (r : Result Channel). r.memory) (call_seen p c) ∙ of_channel.leaves (real_channel p) c h;
      tells = λ p c h. ap (λ (r : Result Channel). r.reply) (call_seen p c) ∙ of_channel.tells (real_channel p) c h;
    }
