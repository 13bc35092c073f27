-- Demand 3 speaks of every list of calls: each can be made with window memory handed back, on any two channels. Assumes nothing.
use Prim.Native.Nat.{ℕ, ◌*◌, ◌<◌}
use native.Mathlib.Omega.{arith}
use mathlib.Core.Path.{◌≡◌, refl, sym, ◌∙◌}
use mathlib.Core.Bool.{Bool, true, false, cond}
use mathlib.Core.List.{List, [], ◌∷◌}
use mathlib.Core.Option.{Option, none, some, get_or}
use lib.ListN.{length}
use lib.Dec.{eqb}
use lib.Ieee.{Float}
use borrow.Author.Tests.{eqb-true, eq-eqb}
use Rattle.sequences.proofs.StretchLaws.{length_stretch}
use Rattle.tracker_power_ratio.proofs.LiveRing.{self_live}
use Rattle.state_machines.specs.Runs as runs
use Rattle.state_machines.specs.Runs.{Along, Places}
use Rattle.state_machines.proofs.Traces.{invariant}
use Rattle.channel_model.specs.declared.Settings.{Settings}
use Rattle.channel_model.specs.declared.Channel.{Channel}
use Rattle.channel_model.specs.Refusals.{BlockArgs}
use Rattle.channel_model.specs.Blocks.{blocked}
use Rattle.channel_model.specs.Calls.{Lend, block, Call, ask, lend, Interface, called, model}
use Rattle.channel_independence.specs.Held.{Held, just_opened, left_after, next, Equal, asks, lends, HandsBack}
use Rattle.channel_independence.specs.Demand3.{after_own, Reached, EveryList}
use Rattle.channel_independence.proofs.Windows.{LiveAt, Windows}
use Rattle.channel_independence.proofs.SameChannel.{block_same}

-- ---- the calls, made one after the other

-- the window memory of a call: what was left, where its length is right and there is such
given : {X : Type 0} → Held X → List Float → List Float
given h w = cond (eqb (length w) 8192) (get_or h.left w) w

handed : {X : Type 0} → Held X → Call → Call
handed h (ask a) = ask a
handed h (lend l w) = lend l (given h w)

handed_all : {X : Type 0} → Interface X → Held X → List Call → List Call
handed_all m h [] = []
handed_all m h (c ∷ cs) = handed h c ∷ handed_all m (next m h (handed h c)) cs

-- what was left has the right length
Sized : {X : Type 0} → Held X → Type 0
Sized h = (m : List Float) → h.left ≡ some m → length m ≡ 8192

given_length_lem : {X : Type 0} (h : Held X) (w : List Float) → Sized h → length (given h w) ≡ length w
unfolding given Sized
given_length_lem h w z = go (eqb (length w) 8192) refl h.left z
  where
    go : (b : Bool) → eqb (length w) 8192 ≡ b → (o : Option (List Float)) → ((m : List Float) → o ≡ some m → length m ≡ 8192)
        → length (cond b (get_or o w) w) ≡ length w
    go false e o y = refl
    go true e none y = refl
    go true e (some m) y = y m refl ∙ sym (eqb-true (length w) 8192 e)

given_back_lem : {X : Type 0} (h : Held X) (w : List Float) → Sized h → length (given h w) ≡ 8192 → (m : List Float) → h.left ≡ some m → given h w ≡ m
unfolding given
given_back_lem h w z e m l = rw (eq-eqb (length w) 8192 (sym (given_length_lem h w z) ∙ e), l)

handed_equal : {X : Type 0} (h : Held X) (c : Call) → Sized h → Equal c (handed h c)
unfolding handed
handed_equal h (ask a) z = asks a
handed_equal h (lend l w) z = lends l w (given h w) (sym (given_length_lem h w z))

handed_both : {X : Type 0} (g h : Held X) (c : Call) → Sized g → Sized h → Equal (handed g c) (handed h c)
unfolding handed
handed_both g h (ask a) y z = asks a
handed_both g h (lend l w) y z = lends l (given g w) (given h w) (given_length_lem g w y ∙ sym (given_length_lem h w z))

handed_back : {X : Type 0} (h : Held X) (c : Call) → Sized h → HandsBack h (handed h c)
unfolding handed HandsBack
handed_back h (ask a) z = tt
handed_back h (lend l w) z = given_back_lem h w z

-- ---- whole lists, of any calls that leave window memory at its length
module _ {X : Type 0} (m : Interface X)
    (stays : (x : X) (l : Lend) (w : List Float) → length w ≡ 8192 → length (m.calls x (lend l w)).memory.windows ≡ 8192) where
  sized_next : (h : Held X) (c : Call) → Sized h → Sized (next m h c)
  unfolding Sized next left_after
  sized_next h (ask a) z = z
  sized_next h (lend l w) z = go (eqb (length w) 8192) refl
    where
      go : (s : Bool) → eqb (length w) 8192 ≡ s → (n : List Float) → cond s (some (m.calls h.channel (lend l w)).memory.windows) h.left ≡ some n
          → length n ≡ 8192
      go true e n f = let p : (m.calls h.channel (lend l w)).memory.windows ≡ n = cc in rw (← p) (stays h.channel l w (eqb-true (length w) 8192 e))
      go false e n f = z n f

  equal_all : (h : Held X) (cs : List Call) → Sized h → Places Equal cs (handed_all m h cs)
  unfolding handed_all
  equal_all h [] z = runs.none
  equal_all h (c ∷ cs) z = runs.place (handed_equal h c z) (equal_all (next m h (handed h c)) cs (sized_next h (handed h c) z))

  back_all : (h : Held X) (cs : List Call) → Sized h → Along (next m) HandsBack h (handed_all m h cs)
  unfolding handed_all Along
  back_all h [] z = tt
  back_all h (c ∷ cs) z = (handed_back h c z, back_all (next m h (handed h c)) cs (sized_next h (handed h c) z))

  both_all : (g h : Held X) (cs : List Call) → Sized g → Sized h → Places Equal (handed_all m g cs) (handed_all m h cs)
  unfolding handed_all
  both_all g h [] y z = runs.none
  both_all g h (c ∷ cs) y z =
      runs.place (handed_both g h c y z) (both_all (next m g (handed g c)) (next m h (handed h c)) cs (sized_next g (handed g c) y) (sized_next h (handed h c) z))

  opened_sized : (s : Settings) → Sized (just_opened m s)
  unfolding Sized just_opened
  opened_sized s n e = cc

  own_sized : (s : Settings) (own : List Call) → Sized (after_own m s own)
  unfolding after_own
  own_sized s own = invariant (next m) Sized sized_next (just_opened m s) own (opened_sized s)

  pub all_reached : Reached m
  unfolding Reached
  all_reached s own₁ own₂ cs =
      let g = after_own m s own₁ in
      let h = after_own m s own₂ in
      let y = own_sized s own₁ in
      let z = own_sized s own₂ in (
        handed_all m g cs,
        handed_all m h cs,
        record { equal = equal_all g cs y; handed = back_all g cs y },
        record { equal = equal_all h cs z; handed = back_all h cs z },
        both_all g h cs y z,
      )

-- ---- the channel's own: a block leaves window memory at its length

with_itself : (c : Channel) (w : List Float) → length w ≡ 8192 → Windows c w w
with_itself c w e =
    let ring : (i n : ℕ) → i < 4 → LiveAt i n w w = λ i n m. self_live n _ (length_stretch (2048 * i) 2048 w (omega arith)) in
    record { size₁ = e; size₂ = e; pll = ring 0 _ (omega arith); t0 = ring 1 _ (omega arith); t1 = ring 2 _ (omega arith); t2 = ring 3 _ (omega arith) }

block_length : (c : Channel) (b : BlockArgs) (w : List Float) → length w ≡ 8192 → length (blocked c b w).windows ≡ 8192
block_length c b w e = (block_same c c b w w refl (with_itself c w e)).live.size₁

pub lend_length : (c : Channel) (l : Lend) (w : List Float) → length w ≡ 8192 → length (model.calls c (lend l w)).memory.windows ≡ 8192
unfolding model called
lend_length c (block b) w e = block_length c b w e

pub every_list : EveryList
unfolding EveryList
every_list = all_reached model lend_length
