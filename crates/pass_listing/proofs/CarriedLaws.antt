-- A turn keeps account of the bytes that the reader has left and that the writer holds, and so does the start.
use mathlib.Core.Path.{◌≡◌, sym, subst}
use mathlib.Core.Bool.{true}
use mathlib.Core.List.{List}
use Prim.Native.Nat.{ℕ, ◌≤◌, ◌<◌}
use lib.ListN.{length, take}
use Rattle.std.specs.Prelude.{Float, Option}
use Rattle.std.proofs.KnownBytes.{Consumes-nil, Appends-nil}
use Rattle.pass_setup.specs.declared.pass.Pass.{Pass}
use Rattle.pass_setup.specs.Listing.{Run}
use Rattle.pass_transfer.specs.declared.Next.{Next}
use Rattle.pass_transfer.specs.declared.Next.TheVariants.{Read, Turn, Close, Refused, Ended, Failed}
use Rattle.pass_transfer.specs.declared.State.{State}
use Rattle.pass_transfer.specs.Code.Standing.{onward, is_due, AtEnd, Moves, with_last}
use Rattle.pass_turn.specs.Code.Turning.{zeros, Begun, Finished, Turned, GetsOn}
use Rattle.pass_listing.proofs.TurnedLaws.{stands_ended, stands-turned, stands_first}

-- a turn ends no text
turned_end : (next : Next) (before : Run) (held made : List ℕ) (after : Run) (kept : List ℕ) (left : Option (List ℕ)) → Turned next before held made after kept → AtEnd next left
unfolding Turned AtEnd
turned_end Read before held made after kept left t = tt
turned_end Turn before held made after kept left t = tt
turned_end Close before held made after kept left t = absurd t
turned_end Refused before held made after kept left t = tt
turned_end Ended before held made after kept left t = absurd t
turned_end Failed before held made after kept left t = tt

closed : (next : Next) (left : Option (List ℕ)) → next ≡ Close → AtEnd next left → AtEnd Ended left
unfolding AtEnd
closed next left e h = subst (λ (n : Next). AtEnd n left) e h

module _
    (s : State) (p : Pass) (b : List ℕ) (w : List Float) (o : List ℕ) (had left held holds : Option (List ℕ)) (h : Moves s (onward p w) b o had left held holds)
    (due : is_due s ≡ true)
  where
    pub moves_ended : s.next ≡ Close → (at : ℕ) (o' : List ℕ) → at ≤ length o' → Finished p (take s.left b) (take at o')
        → Moves (with_last s at Ended 0) (onward p w) b o' had left held holds
    unfolding stands_ended
    moves_ended e at o' within f =
        record { stands = stands_ended s p b w o h.stands due at o' within f; lost = h.lost; gained = h.gained; ends = closed s.next left e h.ends }

    pub moves_turned : (s' : State) (p' : Pass) (b' : List ℕ) (w' : List Float) (o' : List ℕ) → s'.read ≡ s.read → s'.written ≡ s.written → s'.from ≡ 0
        → s'.left ≤ length b' → s'.at ≤ length o' → Turned s'.next (onward p w) (take s.left b) (take s'.at o') (onward p' w') (take s'.left b')
        → GetsOn s'.next s.left s'.left b' → Moves s' (onward p' w') b' o' had left held holds
    unfolding stands-turned
    moves_turned s' p' b' w' o' read written none within list t g =
        record {
          stands = stands-turned s p b w o h.stands due s' p' b' w' o' read written none within list t g;
          lost = h.lost;
          gained = h.gained;
          ends = turned_end s'.next _ _ _ _ _ left t;
        }

pub moves_first : (s : State) (p : Pass) (b : List ℕ) (w : List Float) (o : List ℕ) (had held : Option (List ℕ)) → w ≡ zeros → s.read ≡ 0 → s.written ≡ 0 → s.from ≡ 0
    → s.left ≡ 0 → s.at ≤ length o → s.next ≡ Read → 0 < length b → Begun p (take s.at o) → Moves s (onward p w) b o had had held held
unfolding stands_first AtEnd
moves_first s p b w o had held zero read written none left within next room f =
    record {
      stands = stands_first s p b w o zero read written none left within next room f;
      lost = Consumes-nil had;
      gained = Appends-nil held;
      ends = subst (λ (n : Next). AtEnd n had) (sym next) tt;
    }
