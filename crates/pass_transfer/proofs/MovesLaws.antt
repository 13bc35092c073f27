-- What the turns do to the bytes that the reader has left and that the writer holds.
use mathlib.Core.Path.{◌≡◌, refl, ap, sym, subst, ◌∙◌}
use mathlib.Core.Bool.{Bool, true, false, cond}
use mathlib.Core.List.{List, [], ◌++◌, append-nil}
use Prim.Native.Nat.{ℕ, ◌+◌, ◌-◌, ◌≤◌, min}
use native.Mathlib.Omega.{arith}
use lib.Dec.{eqb}
use lib.ListN.{length, take, drop}
use borrow.Author.Tests.{eqb-true}
use Rattle.std.proofs.lemmas.List.{drop-take}
use Rattle.std.specs.Prelude.{Option, Some, None, Result, Ok, Err}
use Rattle.std.specs.declared.io.Error.{Error}
use Rattle.std.specs.Io.{ReadsAtMost}
use Rattle.std.specs.Io.KnownBytes.{Keeps, Appends, Consumes, IsAtEnd, ReadConsumes}
use Rattle.std.proofs.KnownBytes.{Consumes-kept, Consumes-trans, Appends-kept, Appends-trans}
use Rattle.pass_writer.specs.Lines.{failure_text}
use Rattle.pass_setup.specs.Listing.{Run}
use Rattle.pass_transfer.specs.declared.Next.{Next}
use Rattle.pass_transfer.specs.declared.Next.TheVariants.{Read, Failed}
use Rattle.pass_transfer.specs.declared.State.{State}
use Rattle.pass_transfer.specs.declared.Account.{Account}
use Rattle.pass_transfer.specs.Account.{Carried}
use Rattle.pass_transfer.specs.Code.Standing.{got_of, Took, AtEnd, NoLine, waits, Moves, with_written, given_up, with_more, with_end, with_last, account_of}
use Rattle.pass_transfer.proofs.StandingLaws.{stands_given_up, stands-written, stands_read, stands-more, stands_end, stands_failed, accounted}

-- ---- a read

keeps : (a b : Option (List ℕ)) (bs : List ℕ) → Consumes a b bs → bs ≡ [] → Keeps a b
keeps None b bs h e = tt
keeps (Some x) None bs h e = absurd h
keeps (Some x) (Some y) bs h e = sym (h ∙ ap (λ (l : List ℕ). l ++ y) e)

pub took_of : (r : Result ℕ Error) (had left : Option (List ℕ)) (part : List ℕ) → ReadsAtMost r part → ReadConsumes had left r part → Took (got_of r (length part)) had left part
unfolding got_of Took
took_of (Err e) had left part bound h = h
took_of (Ok n) had left part bound h = go (eqb (min n (length part)) 0) refl
  where
    go : (b : Bool) → eqb (min n (length part)) 0 ≡ b → Took (Ok (cond b None (Some (min n (length part))))) had left part
    go true e =
        let m = eqb-true (min n (length part)) 0 e in
        let w = bound.0 in
        let z : n ≡ 0 = omega arith in (keeps _ _ _ h.0 (ap (λ (k : ℕ). take k part) z), h.1 z)
    go false e = let w = bound.0 in let z : min n (length part) ≡ n = omega arith in rw z h.0

-- ---- a write

-- a write that took nothing
pub keeps_none : (a b : Option (List ℕ)) (n : ℕ) (l : List ℕ) → Appends a b (take n l) → n ≡ 0 → Keeps a b
keeps_none None b n l h z = tt
keeps_none (Some x) None n l h z = absurd h
keeps_none (Some x) (Some y) n l h z = h ∙ ap (λ (k : ℕ). x ++ take k l) z ∙ append-nil x

-- what waits is the part of the list's buffer between its two places
pub waits_part : (s : State) (o : List ℕ) → s.from ≤ s.at → take (s.at - s.from) (drop s.from o) ≡ waits s o
waits_part s o sent = let z : s.from + (s.at - s.from) ≡ s.at = omega arith in sym (drop-take s.from (s.at - s.from) o) ∙ ap (λ (k : ℕ). drop s.from (take k o)) z

-- ---- the state

module _ (s : State) (g : Run) (b o : List ℕ) (had left held holds : Option (List ℕ)) (h : Moves s g b o had left held holds) where
  -- a reader that keeps its bytes
  pub moves_left : (left' : Option (List ℕ)) → Keeps left left' → s.next ≡ Read → Moves s g b o had left' held holds
  unfolding AtEnd
  moves_left left' k e =
      record { stands = h.stands; lost = Consumes-kept _ _ _ _ h.lost k; gained = h.gained; ends = subst (λ (n : Next). AtEnd n left') (sym e) tt }

  -- a writer that keeps its bytes
  pub moves_held : (holds' : Option (List ℕ)) → Keeps holds holds' → Moves s g b o had left held holds'
  moves_held holds' k = record { stands = h.stands; lost = h.lost; gained = Appends-kept _ _ _ _ h.gained k; ends = h.ends }

  pub moves_given_up : Moves (given_up s) g b o had left held holds
  unfolding stands_given_up
  moves_given_up = record { stands = stands_given_up s g b o h.stands; lost = h.lost; gained = h.gained; ends = h.ends }

  pub moves_written : (n : ℕ) → s.from + n ≤ s.at → (holds' : Option (List ℕ)) → Appends holds holds' (take n (waits s o)) → Moves (with_written s n) g b o had left held holds'
  unfolding stands-written
  moves_written n some holds' k =
      record { stands = stands-written s g b o h.stands n some; lost = h.lost; gained = Appends-trans _ _ _ _ _ h.gained k; ends = h.ends }

  pub moves_read : (b' : List ℕ) → length b' ≡ length b → take s.left b' ≡ take s.left b → Moves s g b' o had left held holds
  unfolding stands_read
  moves_read b' n e = record { stands = stands_read s g b b' o h.stands n e; lost = h.lost; gained = h.gained; ends = h.ends }

  pub moves_more : s.next ≡ Read → (n : ℕ) → s.left + n ≤ length b → (left' : Option (List ℕ)) → Consumes left left' (take n (drop s.left b))
      → Moves (with_more s n) g b o had left' held holds
  unfolding AtEnd stands-more
  moves_more e n room left' k =
      record { stands = stands-more s g b o h.stands e n room; lost = Consumes-trans _ _ _ _ _ h.lost k; gained = h.gained; ends = tt }

  pub moves_end : s.next ≡ Read → NoLine (take s.left b) → (left' : Option (List ℕ)) → Keeps left left' → IsAtEnd left' → Moves (with_end s) g b o had left' held holds
  unfolding AtEnd stands_end
  moves_end e plain left' k end =
      record { stands = stands_end s g b o h.stands e plain; lost = Consumes-kept _ _ _ _ h.lost k; gained = h.gained; ends = end }

  pub moves_failed : s.next ≡ Read → s.from ≡ s.at → (at : ℕ) (o' : List ℕ) (error : ℕ) → at ≤ length o' → take at o' ≡ failure_text error
      → Moves (with_last s at Failed error) g b o' had left held holds
  unfolding AtEnd stands_failed
  moves_failed e all at o' error within f =
      record { stands = stands_failed s g b o h.stands e all at o' error within f; lost = h.lost; gained = h.gained; ends = tt }

  pub carried : (turns : ℕ) → Carried (account_of s turns) had left held holds
  unfolding AtEnd accounted
  carried turns =
      record { account = accounted s g b o h.stands turns; lost = h.lost; gained = h.gained; at_end = λ e. subst (λ (n : Next). AtEnd n left) e h.ends }

pub moves_as : (r s : State) (g : Run) (b o : List ℕ) (had left held holds : Option (List ℕ)) → r ≡ s → Moves s g b o had left held holds → Moves r g b o had left held holds
moves_as r s g b o had left held holds e h = subst (λ (x : State). Moves x g b o had left held holds) (sym e) h

pub carried_as : (a : Account) (s : State) (g : Run) (b o : List ℕ) (had left held holds : Option (List ℕ)) (turns : ℕ) → a ≡ account_of s turns → Moves s g b o had left held holds
    → Carried a had left held holds
carried_as a s g b o had left held holds turns e h = subst (λ (x : Account). Carried x had left held holds) (sym e) (carried s g b o had left held holds h turns)
