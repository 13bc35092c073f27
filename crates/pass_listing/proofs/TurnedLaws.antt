-- What the pass makes of the bytes that are held leaves the stream standing, and so does the start.
use mathlib.Core.Path.{◌≡◌, refl, ap, sym, subst, ◌∙◌}
use mathlib.Core.Bool.{Bool, true, false, cond}
use mathlib.Core.List.{List, [], ◌++◌, append-nil, append_assoc}
use Prim.Native.Nat.{ℕ, ◌≤◌, ◌<◌}
use native.Mathlib.Omega.{arith}
use lib.Dec.{ltb}
use lib.ListN.{length, take, drop}
use lib.Ieee.{Float}
use borrow.Author.Tests.{ltb-false}
use Rattle.pass_setup.specs.declared.pass.Pass.{Pass}
use Rattle.pass_setup.specs.Listing.{Run, list_of, list_after}
use Rattle.pass_transfer.specs.declared.Next.{Next}
use Rattle.pass_transfer.specs.declared.Next.TheVariants.{Read, Turn, Close, Refused, Ended, Failed}
use Rattle.pass_transfer.specs.declared.State.{State}
use Rattle.pass_transfer.specs.Account.{Listed}
use Rattle.pass_transfer.specs.Code.Standing.{onward, is_held, is_due, Standing, Ready, waits, Stands, with_last}
use Rattle.pass_transfer.proofs.StandingLaws.{Onward, none_waits}
use Rattle.pass_turn.specs.Code.Turning.{zeros, Begun, Finished, Turned, GetsOn}

-- ---- the bytes that are held

module _ (s : State) (p : Pass) (b : List ℕ) (w : List Float) (o : List ℕ) (h : Stands s (onward p w) b o) (due : is_due s ≡ true) where
  pub all_written : s.from ≡ s.at
  all_written = go (ltb s.from s.at) refl due
    where
      go : (t : Bool) → ltb s.from s.at ≡ t → cond t false (is_held s.next) ≡ true → s.from ≡ s.at
      go true t d = absurd (let z : ◌≡◌ {A = ℕ} 0 1 = cc in omega arith)
      go false t d = let l : s.at ≤ s.from = ltb-false _ _ t in let k = h.placed.sent in omega arith

  pub held_next : is_held s.next ≡ true
  held_next = go (ltb s.from s.at) due
    where
      go : (t : Bool) → cond t false (is_held s.next) ≡ true → is_held s.next ≡ true
      go true d = absurd (let z : ◌≡◌ {A = ℕ} 0 1 = cc in omega arith)
      go false d = d

  pub going : (n : Next) → is_held n ≡ true → (made : List ℕ) → Standing n s.error h.input made (onward p w) (take s.left b) → Onward s (onward p w) b h.input made
  unfolding Standing
  going Read d made t = t
  going Turn d made t = t
  going Close d made t = t
  going Refused d made t = absurd (let z : ◌≡◌ {A = ℕ} 0 1 = cc in omega arith)
  going Ended d made t = absurd (let z : ◌≡◌ {A = ℕ} 0 1 = cc in omega arith)
  going Failed d made t = absurd (let z : ◌≡◌ {A = ℕ} 0 1 = cc in omega arith)

  pub turning : Onward s (onward p w) b h.input h.output
  turning more =
      going s.next held_next (h.output ++ waits s o) h.list_is more
      ∙ ap (λ (l : List ℕ). l ++ list_after (onward p w) (take s.left b ++ more)) (none_waits s o h.output all_written h.placed.within)

  -- at the end of the text
  unfoldable pub stands_ended : (at : ℕ) (o' : List ℕ) → at ≤ length o' → Finished p (take s.left b) (take at o') → Stands (with_last s at Ended 0) (onward p w) b o'
  unfolding Standing Ready Listed
  stands_ended at o' within f =
      record {
        input = h.input;
        output = h.output;
        read_is = h.read_is;
        written_is = h.written_is;
        placed = record { held = omega arith; sent = omega arith; within = within; ready = tt };
        list_is =
            ap list_of (sym (append-nil h.input)) ∙ turning [] ∙ ap (λ (l : List ℕ). h.output ++ list_after (onward p w) l) (append-nil (take s.left b))
            ∙ ap (λ (l : List ℕ). h.output ++ l) (f w);
      }

  pub then_listed : (next : Next) (error : ℕ) (made : List ℕ) (after : Run) (left : List ℕ) → Turned next (onward p w) (take s.left b) made after left
      → Standing next error h.input (h.output ++ made) after left
  unfolding Standing Turned Listed
  then_listed Read error made after left t =
      λ more. turning more ∙ ap (λ (l : List ℕ). h.output ++ l) (t more) ∙ sym (append_assoc h.output made (list_after after (left ++ more)))
  then_listed Turn error made after left t =
      λ more. turning more ∙ ap (λ (l : List ℕ). h.output ++ l) (t more) ∙ sym (append_assoc h.output made (list_after after (left ++ more)))
  then_listed Close error made after left t = absurd t
  then_listed Refused error made after left t = λ more. turning more ∙ ap (λ (l : List ℕ). h.output ++ l) (t more)
  then_listed Ended error made after left t = absurd t
  then_listed Failed error made after left t = absurd t

  -- the lines that are held
  module _ (s' : State) (p' : Pass) (b' : List ℕ) (w' : List Float) (o' : List ℕ) where
    pub then_ready : (next : Next) (left : ℕ) → Turned next (onward p w) (take s.left b) (take s'.at o') (onward p' w') (take s'.left b') → GetsOn next s.left left b'
        → Ready next left b'
    unfolding GetsOn Ready Turned
    then_ready Read left t g = g
    then_ready Turn left t g = tt
    then_ready Close left t g = absurd t
    then_ready Refused left t g = tt
    then_ready Ended left t g = tt
    then_ready Failed left t g = tt

    unfoldable pub stands-turned : s'.read ≡ s.read → s'.written ≡ s.written → s'.from ≡ 0 → s'.left ≤ length b' → s'.at ≤ length o'
        → Turned s'.next (onward p w) (take s.left b) (take s'.at o') (onward p' w') (take s'.left b')
        → GetsOn s'.next s.left s'.left b' → Stands s' (onward p' w') b' o'
    stands-turned read written none held within t g =
        record {
          input = h.input;
          output = h.output;
          read_is = read ∙ h.read_is;
          written_is = written ∙ h.written_is;
          placed = record { held = held; sent = omega arith; within = within; ready = then_ready s'.next s'.left t g };
          list_is =
              subst (λ (n : ℕ). Standing s'.next s'.error h.input (h.output ++ drop n (take s'.at o')) (onward p' w') (take s'.left b')) (sym none)
              (then_listed s'.next s'.error (take s'.at o') (onward p' w') (take s'.left b') t);
        }

-- ---- the start, and the end

unfoldable pub stands_first : (s : State) (p : Pass) (b : List ℕ) (w : List Float) (o : List ℕ) → w ≡ zeros → s.read ≡ 0 → s.written ≡ 0 → s.from ≡ 0 → s.left ≡ 0
    → s.at ≤ length o → s.next ≡ Read → 0 < length b → Begun p (take s.at o) → Stands s (onward p w) b o
unfolding Standing Ready
stands_first s p b w o zero read written none left within next room f =
    record {
      input = [];
      output = [];
      read_is = read;
      written_is = written;
      placed =
          record {
            held = omega arith;
            sent = omega arith;
            within = within;
            ready = subst (λ (n : Next). Ready n s.left b) (sym next) (rw left (omega arith, room));
          };
      list_is =
          subst (λ (n : Next). Standing n s.error [] (drop s.from (take s.at o)) (onward p w) (take s.left b)) (sym next)
          (λ more. f more ∙ (λ i. drop (sym none i) (take s.at o) ++ list_after (onward p (sym zero i)) (take (sym left i) b ++ more)));
    }
