-- The relation between two channels that have had equal calls since they were opened or released, and that each pair of equal calls keeps it and
-- answers the same. Assumes nothing.
use Prim.Native.Nat.{ℕ}
use mathlib.Core.Path.{◌≡◌, refl, sym, ◌∙◌, ap}
use mathlib.Core.Bool.{Bool, true, false, not, ◌&&◌, ◌||◌, cond}
use mathlib.Core.List.{List}
use mathlib.Core.Option.{Option, some}
use lib.ListN.{length}
use lib.Dec.{ltb, eqb}
use lib.Ieee.{Float}
use borrow.Author.Tests.{eqb-true}
use Rattle.state_machines.proofs.Lockstep.{Agree}
use Rattle.channel_samples.specs.Limits.{all_in_range}
use Rattle.channel_model.specs.declared.Carriers.{Carriers}
use Rattle.channel_model.specs.declared.Channel.{Channel}
use Rattle.channel_model.specs.declared.Answer.{Answer}
use Rattle.channel_model.specs.Assigning.{assign_refusal, with_carriers, assigned}
use Rattle.channel_model.specs.Answers.{refused_answer}
use Rattle.channel_model.specs.Refusals.{first_cause, BlockArgs, bad_length, block_refusal}
use Rattle.channel_model.specs.Blocks.{blocked}
use Rattle.channel_model.specs.Calls.{Ask, assign, release, figures, Lend, block, Call, ask, lend, called, model}
use Rattle.channel_independence.specs.Held as held
use Rattle.channel_independence.specs.Held.{Equal, asks, lends, compared, HandsBack}
use Rattle.channel_independence.proofs.Choices.{either}
use Rattle.channel_independence.proofs.Frames.{frames}
use Rattle.channel_independence.proofs.Windows.{Windows}
use Rattle.channel_independence.proofs.SameChannel.{Same, windows_kept, block_same}
use Rattle.channel_independence.proofs.Waiting.{blind, Apart, Led, waits, meets, block_led, assign_apart, release_apart}

-- ---- lists of calls, of the channel's own calls

abbrev pub Held : Type 0
Held = held.Held Channel

abbrev pub next : Held → Call → Held
next = held.next model

abbrev pub answer : Held → Call → Option Answer
answer = held.answer model

-- ---- the relation

-- Apart: both wait, and are equal in all that shows. Together: the channels are the same, and the memories that they last left agree where they may
-- be read.
pub data Related (g h : Held) : Type 0 where
  apart : Apart g.channel h.channel → Related g h
  together : (w v : List Float) → g.channel ≡ h.channel → g.left ≡ some w → h.left ≡ some v → Windows g.channel w v → Related g h

abbrev pub Step : Held → Held → Call → Call → Type 0
Step g h c d = Agree next next answer answer Related (λ (a b : Option Answer). a ≡ b) g h c d

-- ---- window memory of another length: the block is refused, and all stays

refused_size : (two : Bool) (b : BlockArgs) (size : ℕ) → eqb size 8192 ≡ false → eqb (block_refusal two b size) 0 ≡ false
unfolding block_refusal first_cause
refused_size two b size e =
    rw e
    (go (ltb 4 b.flag) (bad_length (length b.first) || bad_length (length b.second)) (ltb 1 b.flag && ltb 0 (length b.first))
    (not (eqb (length b.second) (cond two (length b.first) 0))) (not (all_in_range b.first && all_in_range b.second)))
  where
    go : (x y z t u : Bool) → eqb (cond x 7 (cond y 8 (cond z 9 (cond t 10 (cond u 11 12))))) 0 ≡ false
    go true y z t u = refl
    go false true z t u = refl
    go false false true t u = refl
    go false false false true u = refl
    go false false false false true = refl
    go false false false false false = refl

refused_channel : (c : Channel) (b : BlockArgs) (w : List Float) → eqb (block_refusal c.setup.two b (length w)) 0 ≡ false → (blocked c b w).channel ≡ c
unfolding blocked
refused_channel c b w e = rw e

refused_left : (g : Held) (b : BlockArgs) (w : List Float) → eqb (length w) 8192 ≡ false → held.left_after model g (lend (block b) w) ≡ g.left
unfolding held.left_after
refused_left g b w s = rw s

refused_next : (g : Held) (b : BlockArgs) (w : List Float) → eqb (length w) 8192 ≡ false → next g (lend (block b) w) ≡ g
unfolding held.next model called
refused_next g b w s =
    λ i. record { channel = refused_channel g.channel b w (refused_size g.channel.setup.two b (length w) s) i; left = refused_left g b w s i }

refused_answer_lem : (g : Held) (b : BlockArgs) (w : List Float) → eqb (length w) 8192 ≡ false
    → answer g (lend (block b) w) ≡ some (refused_answer (block_refusal g.channel.setup.two b (length w)))
unfolding held.answer model called compared blocked
refused_answer_lem g b w s = rw (refused_size g.channel.setup.two b (length w) s)

related_blind : (g h : Held) → Related g h → blind g.channel ≡ blind h.channel
related_blind g h (apart e) = e.blinded
related_blind g h (together w v e i j k) = ap blind e

related_two : (g h : Held) → Related g h → g.channel.setup.two ≡ h.channel.setup.two
unfolding blind
related_two g h r = ap (λ (x : Channel). x.setup.two) (related_blind g h r)

refused_step : (g h : Held) (b : BlockArgs) (w v : List Float) → length w ≡ length v → eqb (length w) 8192 ≡ false → Related g h → Step g h (lend (block b) w) (lend (block b) v)
refused_step g h b w v l s r =
    let s' : eqb (length v) 8192 ≡ false = ap (λ (n : ℕ). eqb n 8192) (sym l) ∙ s in
    record {
      related = rw (refused_next g b w s, refused_next h b v s') r;
      agreed = refused_answer_lem g b w s ∙ (λ i. some (refused_answer (block_refusal (related_two g h r i) b (l i)))) ∙ sym (refused_answer_lem h b v s');
    }

-- ---- a block with memory of the right length

block_left_lem : (g : Held) (b : BlockArgs) (w : List Float) → length w ≡ 8192 → (next g (lend (block b) w)).left ≡ some (blocked g.channel b w).windows
unfolding held.next held.left_after model called
block_left_lem g b w e = rw e

same_step : (g h : Held) (b : BlockArgs) (w v : List Float) → length w ≡ 8192 → length v ≡ 8192 → Same (blocked g.channel b w) (blocked h.channel b v)
    → Step g h (lend (block b) w) (lend (block b) v)
unfolding held.next held.answer model called compared
same_step g h b w v p q a =
    record {
      related = together _ _ a.channel (block_left_lem g b w p) (block_left_lem h b v q) a.live;
      agreed = ap some a.answer;
    }

led_step : (g h : Held) (b : BlockArgs) (w v : List Float) → length w ≡ 8192 → length v ≡ 8192 → Led (blocked g.channel b w) (blocked h.channel b v)
    → Step g h (lend (block b) w) (lend (block b) v)
unfolding held.next held.answer model called compared
led_step g h b w v p q (waits a e) = record { related = apart e; agreed = ap some a }
led_step g h b w v p q (meets a) = same_step g h b w v p q a

block_step_lem : (g h : Held) (b : BlockArgs) (w v : List Float) → length w ≡ length v → Related g h → HandsBack g (lend (block b) w) → HandsBack h (lend (block b) v)
    → Step g h (lend (block b) w) (lend (block b) v)
unfolding HandsBack
block_step_lem g h b w v l r x y = go (eqb (length w) 8192) refl r
  where
    go : (s : Bool) → eqb (length w) 8192 ≡ s → Related g h → Step g h (lend (block b) w) (lend (block b) v)
    go false e r' = refused_step g h b w v l e r'
    go true e (apart f) =
        let p : length w ≡ 8192 = eqb-true (length w) 8192 e in
        led_step g h b w v p (sym l ∙ p) (block_led _ _ b w v p (sym l ∙ p) f)
    go true e (together m n f i j k) =
        let p : length w ≡ 8192 = eqb-true (length w) 8192 e in
        let q : length v ≡ 8192 = sym l ∙ p in
        let a : w ≡ m = x p m i in
        let c : v ≡ n = y q n j in
        same_step g h b w v p q (block_same _ _ b w v f (rw (a, c) k))

-- ---- the other calls

assign_frames : (c : Channel) (a : Carriers) → frames (assigned c a).channel ≡ frames c
unfolding assigned with_carriers
assign_frames c a = either (λ (d : Channel). frames d ≡ frames c) (eqb (assign_refusal a c.status) 0) refl refl

assign_step : (g h : Held) (a : Carriers) → Related g h → Step g h (ask (assign a)) (ask (assign a))
unfolding held.next held.left_after held.answer model called compared
assign_step g h a (apart e) = record { related = apart (assign_apart _ _ a e); agreed = refl }
assign_step g h a (together w v e i j k) =
    record {
      related = together w v (ap (λ (x : Channel). (assigned x a).channel) e) i j (windows_kept g.channel _ w v (assign_frames g.channel a) k);
      agreed = refl;
    }

release_step : (g h : Held) → Related g h → Step g h (ask release) (ask release)
unfolding held.next held.left_after held.answer model called compared
release_step g h r = record { related = apart (release_apart _ _ (related_blind g h r)); agreed = refl }

figures_step : (g h : Held) → Related g h → Step g h (ask figures) (ask figures)
unfolding held.next held.left_after held.answer model called compared
figures_step g h r = record { related = r; agreed = refl }

ask_step : (g h : Held) (a : Ask) → Related g h → Step g h (ask a) (ask a)
ask_step g h (assign a) r = assign_step g h a r
ask_step g h release r = release_step g h r
ask_step g h figures r = figures_step g h r

lend_step : (g h : Held) (l : Lend) (w v : List Float) → length w ≡ length v → Related g h → HandsBack g (lend l w) → HandsBack h (lend l v)
    → Step g h (lend l w) (lend l v)
lend_step g h (block b) w v e r x y = block_step_lem g h b w v e r x y

pub call_step : (g h : Held) {c d : Call} → Related g h → Equal c d → HandsBack g c → HandsBack h d → Step g h c d
call_step g h r (asks a) x y = ask_step g h a r
call_step g h r (lends l w v e) x y = lend_step g h l w v e r x y

-- ---- one and the same call on both

-- what is left of the relation where nothing is asked of the memories: both wait, or the channels are the same
pub data Alike (g h : Held) : Type 0 where
  still : Apart g.channel h.channel → Alike g h
  one : g.channel ≡ h.channel → Alike g h

alike : (g h : Held) → Related g h → Alike g h
alike g h (apart e) = still e
alike g h (together w v e i j k) = one e

abbrev SameStep : Held → Held → Call → Type 0
SameStep g h c = Agree next next answer answer Alike (λ (a b : Option Answer). a ≡ b) g h c c

from_step : (g h : Held) (c : Call) → Step g h c c → SameStep g h c
from_step g h c s = record { related = alike _ _ s.related; agreed = s.agreed }

still_block : (g h : Held) (b : BlockArgs) (w : List Float) → Apart g.channel h.channel → Step g h (lend (block b) w) (lend (block b) w)
still_block g h b w f = go (eqb (length w) 8192) refl
  where
    go : (s : Bool) → eqb (length w) 8192 ≡ s → Step g h (lend (block b) w) (lend (block b) w)
    go false e = refused_step g h b w w refl e (apart f)
    go true e = let p = eqb-true (length w) 8192 e in led_step g h b w w p p (block_led _ _ b w w p p f)

still_step : (g h : Held) (c : Call) → Apart g.channel h.channel → Step g h c c
still_step g h (ask a) f = ask_step g h a (apart f)
still_step g h (lend (block b) w) f = still_block g h b w f

one_answer : (g h : Held) (c : Call) → g.channel ≡ h.channel → answer g c ≡ answer h c
unfolding held.answer
one_answer g h c e = ap (λ (x : Channel). compared (model.calls x c).reply) e

pub same_call_step : (g h : Held) (c : Call) → Alike g h → SameStep g h c
unfolding held.next
same_call_step g h c (still f) = from_step g h c (still_step g h c f)
same_call_step g h c (one e) = record { related = one (ap (λ (x : Channel). (model.calls x c).channel) e); agreed = one_answer g h c e }
