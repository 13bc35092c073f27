-- Demand 1 holds: every call names what it is refused for, and "a refused call gives the channel back as it was and changes no lent memory". Assumes
-- nothing.
use Prim.Native.Nat.{ℕ, zero, suc}
use mathlib.Core.Path.{◌≡◌, refl, sym, ap, ◌∙◌}
use mathlib.Core.Logic.{◌≢◌}
use mathlib.Core.Bool.{Bool, true, false, cond}
use mathlib.Core.List.{List}
use lib.Dec.{eqb}
use lib.ListN.{length}
use lib.Ieee.{Float}
use borrow.Author.Tests.{eqb-true, ne_eqb}
use Rattle.ieee754.specs.Binary64 as float
use Rattle.channel_model.specs.declared.Carriers.{Carriers}
use Rattle.channel_model.specs.declared.Channel.{Channel}
use Rattle.channel_model.specs.declared.Settings.{Settings}
use Rattle.channel_model.specs.Opening.{open_refusal, new_channel, refused_settings, opened}
use Rattle.channel_model.specs.Assigning.{idle, assign_refusal, assigned}
use Rattle.channel_model.specs.Answers.{answer_of, refused_answer}
use Rattle.channel_model.specs.Refusals.{BlockArgs, block_refusal}
use Rattle.channel_model.specs.Blocks.{Outcome, untouched, not_locked, with_signal, by_flag, block_step, blocked}
use Rattle.channel_model.specs.Calls.{assign, release, figures, block, Call, ask, lend, memory_of, answered, called, model, refusal_of, refused_reply}
use Rattle.channel_model.specs.Demand1.{Demand1}

-- ---- open and assign

opened_refusal : (s : Settings) → (opened s).refusal ≡ open_refusal s
unfolding opened
opened_refusal s = refl

opened_idle : (s : Settings) → open_refusal s ≢ 0 → (opened s).channel ≡ new_channel refused_settings
unfolding opened
opened_idle s h = rw (ne_eqb (open_refusal s) 0 h)

assigned_refusal : (c : Channel) (a : Carriers) → (assigned c a).refusal ≡ assign_refusal a c.status
unfolding assigned
assigned_refusal c a = refl

assign_unchanged : (c : Channel) (a : Carriers) → assign_refusal a c.status ≢ 0 → (assigned c a).channel ≡ c
unfolding assigned
assign_unchanged c a h = rw (ne_eqb (assign_refusal a c.status) 0 h)

-- ---- block

-- an accepted block answers 0
accepted_by_flag : (n : ℕ) (c : Channel) (b : BlockArgs) (w : List Float) → (by_flag n c b w).answer.refusal ≡ 0
unfolding by_flag untouched with_signal answer_of
accepted_by_flag zero c b w = refl
accepted_by_flag (suc zero) c b w = refl
accepted_by_flag (suc (suc zero)) c b w = refl
accepted_by_flag (suc (suc (suc zero))) c b w = refl
accepted_by_flag (suc (suc (suc (suc n)))) c b w = refl

accepted : (c : Channel) (b : BlockArgs) (w : List Float) → (block_step c b w).answer.refusal ≡ 0
unfolding block_step untouched answer_of
accepted c b w = go (idle c.status) (not_locked c c.pll float.zero)
  where
    go : (x : Bool) (d : Channel) → (cond x (untouched d b w) (by_flag b.flag c b w)).answer.refusal ≡ 0
    go true d = refl
    go false d = accepted_by_flag b.flag c b w

-- what a block that is refused gives back and leaves
refused_outcome : ℕ → Channel → BlockArgs → List Float → Outcome Channel
refused_outcome n c b w = record { answer = refused_answer n; channel = c; first = b.first; second = b.second; windows = w }

-- the answer's number is that of the first cause in the scope's table, 0 where there is none
blocked_refusal : (c : Channel) (b : BlockArgs) (w : List Float) → (blocked c b w).answer.refusal ≡ block_refusal c.setup.two b (length w)
unfolding blocked refused_outcome refused_answer
blocked_refusal c b w = go (eqb n 0) refl
  where
    n : ℕ
    n = block_refusal c.setup.two b (length w)

    go : (x : Bool) → eqb n 0 ≡ x → (cond x (block_step c b w) (refused_outcome n c b w)).answer.refusal ≡ n
    go true e = accepted c b w ∙ sym (eqb-true n 0 e)
    go false e = refl

block_unchanged : (c : Channel) (b : BlockArgs) (w : List Float) → block_refusal c.setup.two b (length w) ≢ 0
    → blocked c b w ≡ refused_outcome (block_refusal c.setup.two b (length w)) c b w
unfolding blocked refused_outcome
block_unchanged c b w h = rw (ne_eqb (block_refusal c.setup.two b (length w)) 0 h)

-- ---- every call

call_names : (c : Channel) (k : Call) → (called c k).refusal ≡ refusal_of c k
unfolding called refusal_of
call_names c (ask (assign a)) = assigned_refusal c a
call_names c (ask release) = refl
call_names c (ask figures) = refl
call_names c (lend (block b) w) = blocked_refusal c b w

call_returns : (c : Channel) (k : Call) → refusal_of c k ≢ 0 → (called c k).channel ≡ c
unfolding called refusal_of refused_outcome
call_returns c (ask (assign a)) h = assign_unchanged c a h
call_returns c (ask release) h = absurd (h refl)
call_returns c (ask figures) h = refl
call_returns c (lend (block b) w) h = ap (λ (o : Outcome Channel). o.channel) (block_unchanged c b w h)

call_leaves : (c : Channel) (k : Call) → refusal_of c k ≢ 0 → (called c k).memory ≡ memory_of k
unfolding called refusal_of memory_of refused_outcome
call_leaves c (ask (assign a)) h = refl
call_leaves c (ask release) h = refl
call_leaves c (ask figures) h = refl
call_leaves c (lend (block b) w) h =
    ap (λ (o : Outcome Channel). record { first = o.first; second = o.second; windows = o.windows }) (block_unchanged c b w h)

call_tells : (c : Channel) (k : Call) → refusal_of c k ≢ 0 → (called c k).reply ≡ refused_reply (refusal_of c k) k
unfolding called refusal_of refused_reply refused_outcome
call_tells c (ask (assign a)) h = refl
call_tells c (ask release) h = refl
call_tells c (ask figures) h = absurd (h refl)
call_tells c (lend (block b) w) h = ap (λ (o : Outcome Channel). answered o.answer) (block_unchanged c b w h)

-- ---- the demand

pub demand1 : Demand1
unfolding Demand1 model
demand1 =
    record {
      open_names = opened_refusal;
      open_returns = opened_idle;
      names = call_names;
      returns = call_returns;
      leaves = call_leaves;
      tells = call_tells;
    }
