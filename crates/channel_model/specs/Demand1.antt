-- Demand 1, in the customer's words: "Refused, by a number from a fixed table, is every setting outside its limits, every call out of turn, every block of
-- a wrong length and every sample that is not finite or too large. A refused call gives the channel back as it was and changes no lent memory. Every
-- other call is accepted, ends and gives a complete answer; nothing need be checked before it." The table is the scope's, "Causes of refusal"; that a call ends is no
-- statement here, since every function of the program is proved to end. proofs/Demand1.antt proves it. Definitions only.
use Rattle.std.specs.Prelude.{ℕ, ◌≡◌, ◌≢◌}
use Rattle.channel_model.specs.declared.Settings.{Settings}
use Rattle.channel_model.specs.Opening.{open_refusal, new_channel, refused_settings}
use Rattle.channel_model.specs.Calls.{Call, Interface, memory_of, model, refusal_of, refused_reply}

-- The claim about open and the calls of m, whatever the channel ("nothing need be checked before it"): number says what each call is refused for on a channel,
-- 0 for nothing; idle is the channel that a refused open returns.
pub record Refuses {X : Type 0} (m : Interface X) (number : X → Call → ℕ) (idle : X) : Type 0 where
  -- "Refused, by a number from a fixed table, is every setting outside its limits", and every other open is accepted, which is number 0
  pub open_names : (s : Settings) → (m.opens s).refusal ≡ open_refusal s
  pub open_returns : (s : Settings) → open_refusal s ≢ 0 → (m.opens s).channel ≡ idle
  -- so is every call that has a cause in the table, "every call out of turn, every block of a wrong length ..."; "Every other call is accepted"
  pub names : (x : X) (c : Call) → (m.calls x c).refusal ≡ number x c
  -- "A refused call gives the channel back as it was"
  pub returns : (x : X) (c : Call) → number x c ≢ 0 → (m.calls x c).channel ≡ x
  -- "and changes no lent memory"
  pub leaves : (x : X) (c : Call) → number x c ≢ 0 → (m.calls x c).memory ≡ memory_of c
  -- and tells what the table says
  pub tells : (x : X) (c : Call) → number x c ≢ 0 → (m.calls x c).reply ≡ refused_reply (number x c) c

-- Of the channel's own calls. The channel that a refused open returns is "an idle carrier
-- channel: 1,000 Hz, factor 1, switches off, fade 0, ratio 1".
unfoldable pub Demand1 : Type 0
Demand1 = Refuses model refusal_of (new_channel refused_settings)
