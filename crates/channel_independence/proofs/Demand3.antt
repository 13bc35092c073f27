-- Demand 3 holds. Assumes nothing.
use Prim.Native.Nat.{◌*◌}
use mathlib.Core.Path.{◌≡◌, refl, sym, ◌∙◌, ap, subst}
use mathlib.Core.Logic.{inl, inr}
use mathlib.Core.Bool.{true, false, cond}
use mathlib.Core.List.{List, [], ◌∷◌, ◌++◌}
use mathlib.Core.Option.{Option, none, some}
use lib.Dec.{eqb}
use borrow.Author.Tests.{eq-eqb, ne_eqb}
use lib.Ieee.{Float, nan, inf, fin, eq, is_nan, up, down}
use Rattle.state_machines.specs.Runs.{after, answers}
use Rattle.state_machines.proofs.Traces.{after_append, invariant}
use Rattle.state_machines.proofs.Lockstep.{places_map, lockstep}
use Rattle.tracker.specs.declared.state.CarrierPllEkf.{CarrierPllEkf}
use Rattle.tracker.specs.declared.state.Tracked.{Tracked}
use Rattle.tracker.specs.State.{initial_tracker}
use Rattle.channel_model.specs.declared.Settings.{Settings}
use Rattle.channel_model.specs.declared.Channel.{Channel}
use Rattle.channel_model.specs.declared.Answer.{Answer}
use Rattle.channel_model.specs.Values.{unlocked}
use Rattle.channel_model.specs.Opening as opening
use Rattle.channel_model.specs.Opening.{open_refusal, new_tracker, new_setup, resting_bank, idle_channel, no_carriers, new_channel, refused_settings}
use Rattle.channel_model.specs.Releasing.{released}
use Rattle.channel_model.specs.Calls.{release, Call, ask, called, model}
use Rattle.channel_independence.specs.Held as held
use Rattle.channel_independence.specs.Held.{Equal, HandsBack}
use Rattle.channel_independence.specs.Demand3.{OneFrequency, EndsReleased, after_own, Independent, Demand3, IndependentOfOne, SameCalls, SameFloat, SamePlace, neither, both, Demand3AsFloats}
use Rattle.channel_independence.proofs.Choices.{either}
use Rattle.channel_independence.proofs.Constants.{Constants, constants, Single, single_kept, call_constants}
use Rattle.channel_independence.proofs.Waiting.{hidden, blind, seen_by, seen, Waiting, Apart, release_waiting}
use Rattle.channel_independence.proofs.Steps.{Held, next, answer, Related, apart, call_step, Alike, still, same_call_step}

-- ---- opened and released channels

abbrev first : Settings → Channel
first s = (opening.opened s).channel

new_single : (s : Settings) → s.two ≡ false → Single (new_channel s)
unfolding new_channel new_setup idle_channel
new_single s e = record { one = e; none = refl }

open_single : (s : Settings) → OneFrequency model s → Single (first s)
unfolding OneFrequency opening.opened model refused_settings
open_single s (inl x) = rw (ne_eqb (open_refusal s) 0 x) (new_single refused_settings refl)
open_single s (inr e) = new_single _ (either (λ (t : Settings). t.two ≡ false) (eqb (open_refusal s) 0) e refl)

new_waiting : (s : Settings) → Waiting (new_channel s)
unfolding new_channel idle_channel resting_bank new_tracker initial_tracker
new_waiting s = record { ever = refl; pll = refl; t0 = refl; t1 = refl; t2 = refl }

-- a refused open makes a new channel too
open_new : (P : Channel → Type 0) → ((s : Settings) → P (new_channel s)) → (s : Settings) → P (first s)
unfolding opening.opened
open_new P f s = f (cond (eqb (open_refusal s) 0) s refused_settings)

-- the channel with the given constants, and all else as at opening
stem : Constants → Channel
stem k =
    let h : CarrierPllEkf → Tracked = λ t. record { ekf = t; p = [] } in
    idle_channel k.setup no_carriers k.electrons (h k.pll) (resting_bank k.steps (h k.t0) (h k.t1) (h k.t2))

new_stem : (s : Settings) → blind (new_channel s) ≡ stem (constants (new_channel s))
unfolding new_channel idle_channel resting_bank blind hidden stem
new_stem s = refl

release_stem : (c : Channel) → blind (released c) ≡ stem (constants c)
unfolding released idle_channel resting_bank unlocked blind hidden stem
release_stem c = refl

new_seen : (s : Settings) → seen (new_channel s) ≡ no_carriers
unfolding new_channel idle_channel seen seen_by
new_seen s = refl

release_seen : (c : Channel) → seen (released c) ≡ no_carriers
unfolding released idle_channel seen seen_by
release_seen c = refl

-- ---- a channel's own list of calls

-- what all calls keep
Keeps : Settings → Held → Type 0
Keeps s h = constants h.channel ≡ constants (first s)

abbrev just_opened : Settings → Held
just_opened s = held.just_opened model s

keeps : (s : Settings) → Single (first s) → (h : Held) (c : Call) → Keeps s h → Keeps s (next h c)
unfolding Keeps held.next model
keeps s o h c e = call_constants h.channel c (single_kept h.channel (first s) e o) ∙ e

-- what a released channel has in common with one just opened
record Fresh (s : Settings) (h : Held) : Type 0 where
  blinded : blind h.channel ≡ blind (first s)
  carriers : seen h.channel ≡ no_carriers
  waiting : Waiting h.channel

opened_fresh : (s : Settings) → Fresh s (just_opened s)
unfolding held.just_opened model
opened_fresh s = record { blinded = refl; carriers = open_new (λ c. seen c ≡ no_carriers) new_seen s; waiting = open_new Waiting new_waiting s }

released_fresh : (s : Settings) (h : Held) → Keeps s h → Fresh s (next h (ask release))
unfolding Keeps held.next model called
released_fresh s h e =
    record {
      blinded = release_stem h.channel ∙ ap stem e ∙ sym (open_new (λ c. blind c ≡ stem (constants c)) new_stem s);
      carriers = release_seen h.channel;
      waiting = release_waiting h.channel;
    }

-- the last call of a list that ends in a release
last : (s : Settings) (own front : List Call) → own ≡ front ++ (ask release ∷ []) → after_own model s own ≡ next (after next (just_opened s) front) (ask release)
unfolding after_own after
last s own front e = ap (after next (just_opened s)) e ∙ after_append next (just_opened s) front (ask release ∷ [])

own_fresh : (s : Settings) → Single (first s) → (own : List Call) → EndsReleased own → Fresh s (after_own model s own)
unfolding after_own EndsReleased after Keeps held.just_opened model
own_fresh s o own (inl e) = rw e (opened_fresh s)
own_fresh s o own (inr (front, e)) =
    subst (Fresh s) (sym (last s own front e)) (released_fresh s _ (invariant next (Keeps s) (keeps s o) (just_opened s) front refl))

fresh_apart : (s : Settings) (g h : Held) → Fresh s g → Fresh s h → Apart g.channel h.channel
fresh_apart s g h x y = record { blinded = x.blinded ∙ sym y.blinded; carriers = x.carriers ∙ sym y.carriers; first = x.waiting; second = y.waiting }

-- ---- the demand

pub demand3 : Demand3
unfolding Demand3 Independent
demand3 s f own₁ own₂ x₁ x₂ equal₁ equal₂ e y₁ y₂ =
    let o = open_single s f in
    lockstep next next answer answer Related Equal HandsBack HandsBack (λ a b. a ≡ b) (λ g h c d r q u v. call_step g h r q u v) _ _
    (apart (fresh_apart s _ _ (own_fresh s o own₁ x₁) (own_fresh s o own₂ x₂))) e y₁ y₂

-- ---- one list of calls on both

same_answers : (g h : Held) → Alike g h → (calls : List Call) → answers next answer g calls ≡ answers next answer h calls
unfolding answers
same_answers g h r [] = refl
same_answers g h r (c ∷ calls) =
    let now = same_call_step g h c r in
    λ i. now.agreed i ∷ same_answers (next g c) (next h c) now.related calls i

pub same_calls : SameCalls
unfolding SameCalls IndependentOfOne
same_calls s f own₁ own₂ x₁ x₂ calls =
    let o = open_single s f in same_answers _ _ (still (fresh_apart s _ _ (own_fresh s o own₁ x₁) (own_fresh s o own₂ x₂))) calls

-- ---- the same with the scope's equality of floats

same_float : (x : Float) → SameFloat x x
unfolding SameFloat eq is_nan
same_float nan = tt
same_float (inf true) = tt
same_float (inf false) = tt
same_float (fin true m e) = rw (eq-eqb (m * up e * down e) (m * up e * down e) refl) tt
same_float (fin false m e) = rw (eq-eqb (m * up e * down e) (m * up e * down e) refl) tt

same_place : (a b : Option Answer) → a ≡ b → SamePlace a b
same_place a b e = rw (← e) (go a)
  where
    go : (a : Option Answer) → SamePlace a a
    go none = neither
    go (some a) =
        both
        (record {
          refusal = refl;
          locked = refl;
          tracker = refl;
          in_fade = refl;
          fade_count = refl;
          ended = refl;
          phase = same_float _;
          frequency = same_float _;
          snr = same_float _;
          electrons = same_float _;
          metric = same_float _;
        })

pub demand3_as_floats : Demand3AsFloats
unfolding Demand3AsFloats Demand3 Independent
demand3_as_floats s f own₁ own₂ x₁ x₂ equal₁ equal₂ e y₁ y₂ = places_map same_place (demand3 s f own₁ own₂ x₁ x₂ equal₁ equal₂ e y₁ y₂)
