-- Demand 3 of the exported functions holds: their machine, seen through the struct's layout, is the channel's own. Assumes nothing.
use mathlib.Core.Path.{◌≡◌, refl, sym, ◌∙◌, ap, subst₂}
use mathlib.Core.Logic.{inl, inr}
use mathlib.Core.Bool.{cond}
use mathlib.Core.List.{List, map, map-id}
use mathlib.Core.Option.{Option, some}
use lib.ListN.{length}
use lib.Dec.{eqb}
use lib.Ieee.{Float}
use Rattle.state_machines.specs.Runs.{after, answers, Along, Places}
use Rattle.state_machines.proofs.Projection.{projected_after, projected_answers, projected_along}
use Rattle.channel_model.specs.declared.Settings.{Settings}
use Rattle.channel_model.specs.declared.Channel.{Channel}
use Rattle.channel_model.specs.declared.Answer.{Answer}
use Rattle.channel_model.specs.Calls.{Lend, Call, ask, lend, Memory, Result, model}
use Rattle.channel_c_layout.specs.declared.plain_channel.PlainChannel.{PlainChannel}
use Rattle.channel_c_layout.specs.Channels.{real_channel}
use Rattle.channel_independence.specs.Held.{Held, just_opened, left_after, next, compared, answer, HandsBack}
use Rattle.channel_independence.specs.Demand3.{OneFrequency, after_own, Independent, Demand3, IndependentOfOne, SameCalls}
use Rattle.channel_independence.proofs.Demand3.{demand3, same_calls}
use Rattle.channel_independence.proofs.Handed.{all_reached, lend_length}
use Rattle.gibsumac_claims.specs.Exported.{exported}
use Rattle.gibsumac_claims.specs.Demand3C.{Demand3C, SameCallsC, EveryListC}
use Rattle.gibsumac_claims.proofs.Seen.{seen, open_seen, call_seen}

-- ---- the map

-- what a caller holds, with the channel that the struct stands for
real : Held PlainChannel → Held Channel
real h = record { channel = real_channel h.channel; left = h.left }

-- a call is its own image
same : Call → Call
same c = c

abbrev All : Held PlainChannel → Type 0
All h = Unit {0}

memory_same : (p : PlainChannel) (c : Call) → (exported.calls p c).memory ≡ (model.calls (real_channel p) c).memory
unfolding seen
memory_same p c = ap (λ (r : Result Channel). r.memory) (call_seen p c)

channel_same : (p : PlainChannel) (c : Call) → real_channel (exported.calls p c).channel ≡ (model.calls (real_channel p) c).channel
unfolding seen
channel_same p c = ap (λ (r : Result Channel). r.channel) (call_seen p c)

left_same : (h : Held PlainChannel) (c : Call) → left_after exported h c ≡ left_after model (real h) c
unfolding left_after real
left_same h (ask a) = refl
left_same h (lend l w) = ap (λ (m : Memory). cond (eqb (length w) 8192) (some m.windows) h.left) (memory_same h.channel (lend l w))

leads : (h : Held PlainChannel) (c : Call) → All h → real (next exported h c) ≡ next model (real h) (same c)
unfolding next real same
leads h c i = λ j. record { channel = channel_same h.channel c j; left = left_same h c j }

tells : (h : Held PlainChannel) (c : Call) → All h → answer exported h c ≡ answer model (real h) (same c)
unfolding answer real same seen
tells h c i = ap (λ (r : Result Channel). compared r.reply) (call_seen h.channel c)

hands : (h : Held PlainChannel) (c : Call) → All h → HandsBack h c → HandsBack (real h) (same c)
unfolding HandsBack real same
hands h (ask a) i x = tt
hands h (lend l w) i x = x

opened_same : (s : Settings) → real (just_opened exported s) ≡ just_opened model s
unfolding real just_opened seen
opened_same s = λ j. record { channel = (ap (λ (r : Result Channel). r.channel) (open_seen s)) j; left = (just_opened model s).left }

-- ---- whole lists

same_list : (cs : List Call) → map same cs ≡ cs
unfolding same
same_list cs = map-id cs

own_same : (s : Settings) (own : List Call) → real (after_own exported s own) ≡ after_own model s own
unfolding after_own
own_same s own =
    projected_after (next exported) (next model) real same All (λ h c i. tt) leads (just_opened exported s) own tt
    ∙ (λ j. after (next model) (opened_same s j) (same_list own j))

answers_same : (s : Settings) (own cs : List Call)
    → answers (next exported) (answer exported) (after_own exported s own) cs ≡ answers (next model) (answer model) (after_own model s own) cs
answers_same s own cs =
    sym (map-id (answers (next exported) (answer exported) (after_own exported s own) cs))
    ∙ projected_answers (next exported) (next model) real same All (λ h c i. tt) leads (answer exported) (answer model) (λ a. a) tells (after_own exported s own) cs tt
    ∙ (λ j. answers (next model) (answer model) (own_same s own j) (same_list cs j))

handed_same : (s : Settings) (own cs : List Call) → Along (next exported) HandsBack (after_own exported s own) cs → Along (next model) HandsBack (after_own model s own) cs
handed_same s own cs x =
    subst₂ (λ (h : Held Channel) (ds : List Call). Along (next model) HandsBack h ds) (own_same s own) (same_list cs)
    (projected_along (next exported) (next model) real same All (λ h c i. tt) leads HandsBack HandsBack hands (after_own exported s own) cs tt x)

one_frequency : (s : Settings) → OneFrequency exported s → OneFrequency model s
unfolding OneFrequency seen
one_frequency s (inl x) = inl (λ e. x (ap (λ (r : Result Channel). r.refusal) (open_seen s) ∙ e))
one_frequency s (inr e) = inr e

-- ---- the demand

pub demand3_c : Demand3C
unfolding Demand3C Demand3 Independent
demand3_c s f own₁ own₂ x₁ x₂ equal₁ equal₂ e y₁ y₂ =
    subst₂ (λ (l m : List (Option Answer)). Places (λ (a b : Option Answer). a ≡ b) l m) (sym (answers_same s own₁ equal₁)) (sym (answers_same s own₂ equal₂))
    (demand3 s (one_frequency s f) own₁ own₂ x₁ x₂ equal₁ equal₂ e (handed_same s own₁ equal₁ y₁) (handed_same s own₂ equal₂ y₂))

pub same_calls_c : SameCallsC
unfolding SameCallsC SameCalls IndependentOfOne
same_calls_c s f own₁ own₂ x₁ x₂ calls =
    answers_same s own₁ calls ∙ same_calls s (one_frequency s f) own₁ own₂ x₁ x₂ calls ∙ sym (answers_same s own₂ calls)

windows_stay : (p : PlainChannel) (l : Lend) (w : List Float) → length w ≡ 8192 → length (exported.calls p (lend l w)).memory.windows ≡ 8192
windows_stay p l w e = ap (λ (m : Memory). length m.windows) (memory_same p (lend l w)) ∙ lend_length (real_channel p) l w e

pub every_list_c : EveryListC
unfolding EveryListC
every_list_c = all_reached exported windows_stay
