-- Every turn leaves the stream standing: the list of the text is what was written, what waits, and what is still to come.
use mathlib.Core.Path.{◌≡◌, refl, ap, sym, subst, ◌∙◌}
use mathlib.Core.Bool.{Bool, true, false, cond}
use mathlib.Core.List.{List, [], ◌++◌, append-nil, append_assoc}
use Prim.Native.Nat.{ℕ, ◌+◌, ◌-◌, ◌≤◌, ◌<◌}
use native.Mathlib.Omega.{arith}
use lib.Dec.{ltb}
use lib.ListN.{length, take, drop, length-append, length-drop, take-append-drop, drop_of_length-le}
use lib.Seq.{length-take-le, take-add, drop-drop}
use borrow.Author.Tests.{ltb-false}
use Rattle.pass_writer.specs.Lines.{failure_text}
use Rattle.pass_setup.specs.Listing.{Run, list_of, list_after}
use Rattle.pass_transfer.specs.declared.Next.{Next}
use Rattle.pass_transfer.specs.declared.Next.TheVariants.{Read, Turn, Close, Refused, Ended, Failed}
use Rattle.pass_transfer.specs.declared.State.{State}
use Rattle.pass_transfer.specs.declared.Account.{Account}
use Rattle.pass_transfer.specs.Account.{Listed, Accounted, Completed, is_last}
use Rattle.pass_transfer.specs.Code.Standing.{NoLine, is_over, Counted, Standing, Ready, waits, Stands, with_written, given_up, with_more, with_end, with_last, account_of}

-- ---- what waits

pub waits_count : (s : State) (o : List ℕ) → s.from ≤ s.at → s.at ≤ length o → length (waits s o) ≡ s.at - s.from
waits_count s o sent within =
    let a : length (drop s.from (take s.at o)) ≡ length (take s.at o) - s.from = simp length-drop refl in
    a ∙ ap (λ (n : ℕ). n - s.from) (length-take-le s.at o within)

-- where all is written, nothing waits
pub none_waits : (s : State) (o made : List ℕ) → s.from ≡ s.at → s.at ≤ length o → made ++ waits s o ≡ made
none_waits s o made all within =
    let e : waits s o ≡ [] = drop_of_length-le (take s.at o) {i = s.from} (let l = length-take-le s.at o within in omega arith) in
    ap (λ (l : List ℕ). made ++ l) e ∙ append-nil made

-- what comes of a read, or of the bytes that are held: the list of any text that goes on from here
abbrev pub Onward : State → Run → List ℕ → List ℕ → List ℕ → Type 0
Onward s g b input made = (more : List ℕ) → list_of (input ++ more) ≡ made ++ list_after g (take s.left b ++ more)

-- ---- a write

module _ (s : State) (g : Run) (b o : List ℕ) (h : Stands s g b o) where
  unfoldable pub stands_given_up : Stands (given_up s) g b o
  stands_given_up =
      let q = h.placed in
      record {
        input = h.input;
        output = h.output;
        read_is = h.read_is;
        written_is = h.written_is;
        placed = record { held = q.held; sent = q.sent; within = q.within; ready = q.ready };
        list_is = h.list_is;
      }

  module _ (n : ℕ) (some : s.from + n ≤ s.at) where
    pub gone-count : length (take n (waits s o)) ≡ n
    gone-count = let a = waits_count s o h.placed.sent h.placed.within in length-take-le n (waits s o) (omega arith)

    pub still-made : (h.output ++ take n (waits s o)) ++ drop (s.from + n) (take s.at o) ≡ h.output ++ waits s o
    still-made =
        append_assoc h.output (take n (waits s o)) (drop (s.from + n) (take s.at o))
        ∙ ap (λ (l : List ℕ). h.output ++ (take n (waits s o) ++ l)) (sym (drop-drop n s.from (take s.at o)))
        ∙ ap (λ (l : List ℕ). h.output ++ l) (take-append-drop n (waits s o))

    unfoldable pub stands-written : Stands (with_written s n) g b o
    stands-written =
        let q = h.placed in
        let c : length (h.output ++ take n (waits s o)) ≡ length h.output + n = length-append h.output (take n (waits s o)) ∙ ap (λ (k : ℕ). length h.output + k) gone-count in
        record {
          input = h.input;
          output = h.output ++ take n (waits s o);
          read_is = h.read_is;
          written_is = ap (λ (k : ℕ). k + n) h.written_is ∙ sym c;
          placed = record { held = q.held; sent = some; within = q.within; ready = q.ready };
          list_is = subst (λ (m : List ℕ). Standing s.next s.error h.input m g (take s.left b)) (sym still-made) h.list_is;
        }

-- ---- a read

-- bytes behind those that are held are others
unfoldable pub stands_read : (s : State) (g : Run) (b b' o : List ℕ) → Stands s g b o → length b' ≡ length b → take s.left b' ≡ take s.left b
    → Stands s g b' o
unfolding Ready
stands_read s g b b' o h n e =
    let q = h.placed in
    record {
      input = h.input;
      output = h.output;
      read_is = h.read_is;
      written_is = h.written_is;
      placed = record { held = let l = q.held in omega arith; sent = q.sent; within = q.within; ready = still s.next q.ready };
      list_is = subst (λ (l : List ℕ). Standing s.next s.error h.input (h.output ++ waits s o) g l) (sym e) h.list_is;
    }
  where
    still : (next : Next) → Ready next s.left b → Ready next s.left b'
    still Read r = (subst NoLine (sym e) r.0, let a = r.1 in omega arith)
    still Turn r = r
    still Close r = subst NoLine (sym e) r
    still Refused r = r
    still Ended r = r
    still Failed r = r

module _ (s : State) (g : Run) (b o : List ℕ) (h : Stands s g b o) (e : s.next ≡ Read) where
  pub reading : Onward s g b h.input (h.output ++ waits s o)
  unfolding Standing
  reading = subst (λ (n : Next). Standing n s.error h.input (h.output ++ waits s o) g (take s.left b)) e h.list_is

  module _ (n : ℕ) (room : s.left + n ≤ length b) where
    pub came-count : length (take n (drop s.left b)) ≡ n
    came-count = let d : length (drop s.left b) ≡ length b - s.left = simp length-drop refl in length-take-le n (drop s.left b) (omega arith)

    pub more-listed : (more : List ℕ) → list_of ((h.input ++ take n (drop s.left b)) ++ more) ≡ (h.output ++ waits s o) ++ list_after g (take (s.left + n) b ++ more)
    more-listed more =
        let c = take n (drop s.left b) in
        ap list_of (append_assoc h.input c more) ∙ reading (c ++ more)
        ∙ ap (λ (l : List ℕ). (h.output ++ waits s o) ++ list_after g l)
        (sym (append_assoc (take s.left b) c more) ∙ ap (λ (l : List ℕ). l ++ more) (sym (take-add s.left n b)))

    unfoldable pub stands-more : Stands (with_more s n) g b o
    unfolding Standing Ready
    stands-more =
        let q = h.placed in
        let c : length (h.input ++ take n (drop s.left b)) ≡ length h.input + n = length-append h.input (take n (drop s.left b)) ∙ ap (λ (k : ℕ). length h.input + k) came-count in
        record {
          input = h.input ++ take n (drop s.left b);
          output = h.output;
          read_is = ap (λ (k : ℕ). k + n) h.read_is ∙ sym c;
          written_is = h.written_is;
          placed = record { held = room; sent = q.sent; within = q.within; ready = tt };
          list_is = more-listed;
        }

  -- the text has ended
  unfoldable pub stands_end : NoLine (take s.left b) → Stands (with_end s) g b o
  unfolding Standing Ready
  stands_end plain =
      let q = h.placed in
      record {
        input = h.input;
        output = h.output;
        read_is = h.read_is;
        written_is = h.written_is;
        placed = record { held = q.held; sent = q.sent; within = q.within; ready = plain };
        list_is = reading;
      }

  -- a read failed
  unfoldable pub stands_failed : s.from ≡ s.at → (at : ℕ) (o' : List ℕ) (error : ℕ) → at ≤ length o' → take at o' ≡ failure_text error → Stands (with_last s at Failed error) g b o'
  unfolding Standing Ready Listed
  stands_failed all at o' error within f =
      let r : Onward s g b h.input h.output =
      λ more. reading more ∙ ap (λ (l : List ℕ). l ++ list_after g (take s.left b ++ more)) (none_waits s o h.output all h.placed.within) in
      record {
        input = h.input;
        output = h.output;
        read_is = h.read_is;
        written_is = h.written_is;
        placed = record { held = omega arith; sent = omega arith; within = within; ready = tt };
        list_is =
            record {
              front = h.output;
              front_is = λ (more : List ℕ). record { rest = list_after g (take s.left b ++ more); list_is = r more };
              made_is = ap (λ (l : List ℕ). h.output ++ l) f;
            };
      }

-- ---- the end

pub listed : (next : Next) (error : ℕ) (input made : List ℕ) (r : Run) (held : List ℕ) → Standing next error input made r held → Listed next error input made
unfolding Standing Listed
listed Read error input made r held t = λ more. record { rest = list_after r (held ++ more); list_is = t more }
listed Turn error input made r held t = λ more. record { rest = list_after r (held ++ more); list_is = t more }
listed Close error input made r held t = λ more. record { rest = list_after r (held ++ more); list_is = t more }
listed Refused error input made r held t = t
listed Ended error input made r held t = t
listed Failed error input made r held t = t

unfoldable pub accounted : (s : State) (g : Run) (b o : List ℕ) → Stands s g b o → (turns : ℕ) → Accounted (account_of s turns)
accounted s g b o h turns =
    record {
      input = h.input;
      output = h.output;
      unsent = waits s o;
      read_is = h.read_is;
      written_is = h.written_is;
      unsent_is = sym (waits_count s o h.placed.sent h.placed.within);
      list_is = listed s.next s.error h.input (h.output ++ waits s o) g (take s.left b) h.list_is;
    }

pub accounted_as : (a : Account) (s : State) (g : Run) (b o : List ℕ) (turns : ℕ) → a ≡ account_of s turns → Stands s g b o → Accounted a
accounted_as a s g b o turns e h = subst Accounted (sym e) (accounted s g b o h turns)

pub completed : (s : State) → s.from ≤ s.at → is_over s ≡ true → (turns : ℕ) → Completed (account_of s turns)
completed s sent over turns free left = go s.stuck (ltb s.from s.at) free refl over
  where
    go : (a b : Bool) → a ≡ false → ltb s.from s.at ≡ b → cond a true (cond b false (is_last s.next)) ≡ true → (s.at - s.from ≡ 0) × (is_last s.next ≡ true)
    go true b f t o = absurd (let z : ◌≡◌ {A = ℕ} 0 1 = cc in omega arith)
    go false true f t o = absurd (let z : ◌≡◌ {A = ℕ} 0 1 = cc in omega arith)
    go false false f t o = (let l : s.at ≤ s.from = ltb-false _ _ t in omega arith, o)

-- ---- what a function below says of a state, said of the one that it returned

pub stands_as : (r s : State) (g : Run) (b o : List ℕ) → r ≡ s → Stands s g b o → Stands r g b o
stands_as r s g b o e h = subst (λ (x : State). Stands x g b o) (sym e) h

pub counted_as : (r s t : State) → r ≡ s → s.read ≤ t.read + 262144 → s.written ≤ t.written + 262144 → Counted t r
counted_as r s t e a b = subst (λ (x : State). Counted t x) (sym e) (a, b)

pub ready_read : (n : Next) (left : ℕ) (buf : List ℕ) → Ready n left buf → n ≡ Read → NoLine (take left buf) × (left < length buf)
unfolding Ready
ready_read n left buf r e = subst (λ (m : Next). Ready m left buf) e r

pub ready_close : (n : Next) (left : ℕ) (buf : List ℕ) → Ready n left buf → n ≡ Close → NoLine (take left buf)
unfolding Ready
ready_close n left buf r e = subst (λ (m : Next). Ready m left buf) e r
