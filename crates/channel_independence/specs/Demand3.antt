-- Demand 3, in the customer's words: "The difference between two one-frequency channels opened with equal settings is nil in every block's answer
-- after a release, however their earlier passes differed." proofs/Demand3.antt proves it, proofs/Handed.antt that it speaks of every list of calls.
-- Definitions only.
use Rattle.std.specs.Prelude.{◌≡◌, ◌⊎◌, ◌≢◌, false, ◌&&◌, ◌||◌, List, [], ◌∷◌, ◌++◌, T, Float}
use Rattle.std.proofs.Math.Option.{Option, none, some}
use Rattle.std.specs.Float.Ieee.{eq, is_nan}
use Rattle.state_machines.specs.Runs.{after, answers, Along, Places}
use Rattle.channel_model.specs.declared.Settings.{Settings}
use Rattle.channel_model.specs.declared.Answer.{Answer}
use Rattle.channel_model.specs.Calls.{release, Call, ask, Interface, model}
use Rattle.channel_independence.specs.Held.{Held, just_opened, next, answer, Equal, HandsBack}

-- "Both channels come from open calls with equal settings, either accepted with two frequencies off, or refused."
unfoldable pub OneFrequency : {X : Type 0} → Interface X → Settings → Type 0
OneFrequency m s = ((m.opens s).refusal ≢ 0) ⊎ (s.two ≡ false)

-- A list of calls of its own is "empty or ending in a release"; "a channel just opened counts as released"
unfoldable pub EndsReleased : List Call → Type 0
EndsReleased own = (own ≡ []) ⊎ ((front : List Call) × (own ≡ front ++ (ask release ∷ [])))

-- The channel opened with s, after its own list of calls. Nothing is asked of the window memory there: "In a channel's own list of calls its contents
-- are any at every call."
unfoldable pub after_own : {X : Type 0} → Interface X → Settings → List Call → Held X
after_own m s own = after (next m) (just_opened m s) own

-- The claim about open and the calls of m, by which settings it speaks of and what is asked of two answers at the same place. "Settings and calls, though,
-- count as equal only bit for bit", and so they do in what it takes as given: there `≡` tells all floats apart but one NaN from another, which makes the
-- claim no weaker.
unfoldable pub Independent : {X : Type 0} → Interface X → (Settings → Type 0) → (Option Answer → Option Answer → Type 0) → Type 0
Independent m Allowed Same =
    -- "two one-frequency channels opened with equal settings": one s for both
    (s : Settings) → Allowed s →
    -- "Each channel first gets a list of calls of its own ..., empty or ending in a release"
    (own₁ own₂ : List Call) → EndsReleased own₁ → EndsReleased own₂ →
    -- "then both get one list of equal calls"
    (equal₁ equal₂ : List Call) → Places Equal equal₁ equal₂ →
    -- "in the latter list each channel also gets its window memory back as it last left it"
    Along (next m) HandsBack (after_own m s own₁) equal₁ → Along (next m) HandsBack (after_own m s own₂) equal₂ →
    -- "all answers to blocks in the latter are the same on both channels": compared are those "of block calls at the same place"
    Places Same (answers (next m) (answer m) (after_own m s own₁) equal₁) (answers (next m) (answer m) (after_own m s own₂) equal₂)

-- The demand: the answers are identical in all fields, the floats bit for bit, with one NaN.
unfoldable pub Demand3 : Type 0
Demand3 = Independent model (OneFrequency model) (λ (a b : Option Answer). a ≡ b)

-- The same for one list of calls that both get, window memory with it: then no memory need be handed back, and its contents are any at every call.
unfoldable pub IndependentOfOne : {X : Type 0} → Interface X → (Settings → Type 0) → Type 0
IndependentOfOne m Allowed =
    (s : Settings) → Allowed s →
    (own₁ own₂ : List Call) → EndsReleased own₁ → EndsReleased own₂ →
    (calls : List Call) → answers (next m) (answer m) (after_own m s own₁) calls ≡ answers (next m) (answer m) (after_own m s own₂) calls

unfoldable pub SameCalls : Type 0
SameCalls = IndependentOfOne model (OneFrequency model)

-- ---- the same with the scope's equality of floats, which is coarser

-- "Two floats are equal if they compare equal; any NaN equals any NaN."
unfoldable pub SameFloat : Float → Float → Type 0
SameFloat x y = T (eq x y || (is_nan x && is_nan y))

-- all fields of two answers are equal
pub record SameAnswer (a b : Answer) : Type 0 where
  pub refusal : a.refusal ≡ b.refusal
  pub locked : a.locked ≡ b.locked
  pub tracker : a.tracker ≡ b.tracker
  pub in_fade : a.in_fade ≡ b.in_fade
  pub fade_count : a.fade_count ≡ b.fade_count
  pub ended : a.ended ≡ b.ended
  pub phase : SameFloat a.phase b.phase
  pub frequency : SameFloat a.frequency b.frequency
  pub snr : SameFloat a.snr b.snr
  pub electrons : SameFloat a.electrons b.electrons
  pub metric : SameFloat a.metric b.metric

-- at one place: two blocks with equal answers, or two calls that are no blocks
pub data SamePlace : Option Answer → Option Answer → Type 0 where
  neither : SamePlace none none
  both : {a b : Answer} → SameAnswer a b → SamePlace (some a) (some b)

unfoldable pub Demand3AsFloats : Type 0
Demand3AsFloats = Independent model (OneFrequency model) SamePlace

-- ---- that the demand speaks of every list of calls

-- The calls cs made on a channel that stands at h: equal calls, with window memory handed back.
pub record Made {X : Type 0} (m : Interface X) (h : Held X) (cs calls : List Call) : Type 0 where
  pub equal : Places Equal cs calls
  pub handed : Along (next m) HandsBack h calls

-- For every two own lists and every list cs after them there are two lists of calls as the demand takes them, both equal to cs.
unfoldable pub Reached : {X : Type 0} → Interface X → Type 0
Reached m =
    (s : Settings) (own₁ own₂ cs : List Call) →
    (equal₁ : List Call) × (equal₂ : List Call) ×
    Made m (after_own m s own₁) cs equal₁ × Made m (after_own m s own₂) cs equal₂ × Places Equal equal₁ equal₂

unfoldable pub EveryList : Type 0
EveryList = Reached model
