-- Laws of a turn: what a run over the held bytes leaves, what is carried to the buffer's front, and the ways to go on.
use mathlib.Core.Path.{◌≡◌, refl, ap, sym, ◌∙◌}
use mathlib.Core.Bool.{Bool, true, false, ◌&&◌}
use mathlib.Core.List.{List, [], ◌∷◌, ◌++◌, append-nil}
use Prim.Native.Nat.{ℕ, ◌+◌, ◌-◌, ◌≤◌, ◌<◌}
use native.Mathlib.Omega.{arith}
use lib.Dec.{leb, ltb}
use lib.ListN.{length, take, drop, length-drop}
use lib.Seq.{take_at, length-take-le, take-add, take-append-add, take-append-le, drop_at}
use lib.Ieee.{Float}
use borrow.Author.Tests.{le-leb, ltb-true, ltb-false}
use Rattle.pass_reader.specs.Bytes.{newline}
use Rattle.pass_reader.specs.Code.Places.{place}
use Rattle.pass_writer.specs.Lines.{names_text}
use Rattle.pass_writer.specs.Code.Buffers.{longest}
use Rattle.pass_stream.specs.Stream.{lines}
use Rattle.pass_stream.specs.Code.Carrying.{carried}
use Rattle.pass_stream.proofs.StreamLaws.{first_line}
use Rattle.pass_setup.specs.declared.pass.Pass.{Pass}
use Rattle.pass_setup.specs.declared.pass.Judged.{Judged}
use Rattle.pass_setup.specs.declared.pass.Ran.{Ran}
use Rattle.pass_setup.specs.Judging.{new_pass}
use Rattle.pass_setup.specs.Listing.{Run, input_ended, list_after, list_of}
use Rattle.pass_setup.specs.Code.Buffers.{Printed, printed, as_printed, ChunkRun, past, line_run, run_has_room, only_if, lines_run, as_chunk_run, is_stopped}
use Rattle.pass_session.proofs.ListLaws.{waiting, lines_after, line_not_empty, line_used, chunk_listed, write_listed, end_listed}
use Rattle.pass_session.proofs.RunLaws.{spare, given_back, has_room_is}
use Rattle.pass_writer.proofs.WrittenLaws.{alone, within}
use Rattle.pass_session.proofs.LongLists.{stopped_listed, long_listed}
use Rattle.pass_transfer.specs.declared.Next.TheVariants.{Read, Turn, Refused}
use Rattle.pass_transfer.specs.Code.Standing.{onward, NoLine}
use Rattle.pass_turn.specs.Code.Turning.{zeros, TooLong, Begun, Turned}

-- a run whose list waits at the front of a buffer
abbrev held_in : Pass → List Float → ℕ → List ℕ → Run
held_in p w at out = record { pass = p; windows = w; list = take at out }

-- what waits stands in front of what comes
pub waits_in_front : (p : Pass) (w : List Float) (at : ℕ) (out text : List ℕ) → list_after (held_in p w at out) text ≡ take at out ++ list_after (onward p w) text
waits_in_front p w at out text =
    ap (λ (l : List ℕ). list_after (record { pass = p; windows = w; list = l }) text) (sym (append-nil (take at out))) ∙ write_listed (take at out) (onward p w) text

-- ---- the lines of a chunk

-- as long as there is room, they are all judged
all_judged : (s : List ℕ) (ls : List (List ℕ)) (g : ChunkRun) → ls ≡ lines (drop g.used s) → run_has_room (lines_run ls g) ≡ true
    → lines (drop (lines_run ls g).used s) ≡ []
unfolding lines_run only_if line_run past
all_judged s [] g e h = sym e
all_judged s (l ∷ ls) g e h = go (run_has_room g) refl h (all_judged s ls (line_run g l) (lines_after s g.used l ls e))
  where
    go : (b : Bool) → run_has_room g ≡ b → run_has_room (only_if b (lines_run ls (line_run g l)) g) ≡ true
        → (run_has_room (lines_run ls (line_run g l)) ≡ true → lines (drop (lines_run ls (line_run g l)).used s) ≡ [])
        → lines (drop (only_if b (lines_run ls (line_run g l)) g).used s) ≡ []
    go true b h more = more h
    go false b h more = absurd (let z : ◌≡◌ {A = ℕ} 0 1 = cc in omega arith)

no_line_left : (s : List ℕ) → lines s ≡ [] → NoLine s
no_line_left s e = go (ltb (place newline s) (length s)) refl
  where
    go : (t : Bool) → ltb (place newline s) (length s) ≡ t → NoLine s
    go true h = absurd (let z = ap length (sym e ∙ first_line s (ltb-true _ _ h)) in omega arith)
    go false h = ltb-false _ _ h

-- a line uses at least its newline
one_further : (s : List ℕ) (l : List ℕ) (ls : List (List ℕ)) (g : ChunkRun) → l ∷ ls ≡ lines (drop g.used s) → g.used < (line_run g l).used
one_further s l ls g e = let n = line_not_empty s g.used l ls e in let u = line_used g l in omega arith

never_back : (s : List ℕ) (ls : List (List ℕ)) (g : ChunkRun) → ls ≡ lines (drop g.used s) → g.used ≤ (lines_run ls g).used
unfolding lines_run only_if line_run past
never_back s [] g e = omega arith
never_back s (l ∷ ls) g e = go (run_has_room g) (never_back s ls (line_run g l) (lines_after s g.used l ls e)) (one_further s l ls g e)
  where
    go : (b : Bool) → (line_run g l).used ≤ (lines_run ls (line_run g l)).used → g.used < (line_run g l).used → g.used ≤ (only_if b (lines_run ls (line_run g l)) g).used
    go true a b = omega arith
    go false a b = omega arith

-- where the room is used up, some line was judged
got_on : (s : List ℕ) (ls : List (List ℕ)) (g : ChunkRun) → ls ≡ lines (drop g.used s) → run_has_room g ≡ true → run_has_room (lines_run ls g) ≡ false
    → g.used < (lines_run ls g).used
unfolding lines_run only_if line_run past
got_on s [] g e h n = absurd (let z : ◌≡◌ {A = ℕ} 0 1 = cc in omega arith)
got_on s (l ∷ ls) g e h n = go (run_has_room g) h (never_back s ls (line_run g l) (lines_after s g.used l ls e)) (one_further s l ls g e)
  where
    go : (b : Bool) → b ≡ true → (line_run g l).used ≤ (lines_run ls (line_run g l)).used → g.used < (line_run g l).used → g.used < (only_if b (lines_run ls (line_run g l)) g).used
    go true t a b = omega arith
    go false t a b = absurd (let z : ◌≡◌ {A = ℕ} 0 1 = cc in omega arith)

-- ---- the bytes after the used ones, at the buffer's front

drop_take : (n m : ℕ) (l : List ℕ) → n ≤ length l → drop n (take (n + m) l) ≡ take m (drop n l)
drop_take n m l h = ap (drop n) (take-add n m l) ∙ drop_at (take n l) (take m (drop n l)) n (length-take-le n l h)

module _ (from to left : ℕ) (buf new : List ℕ) (e : (left, new) ≡ carried from to buf) (h : from ≤ length (take to buf)) (k : to ≤ length buf) where
  in_order : from ≤ to
  in_order = let l = length-take-le to buf k in omega arith

  both_true : (leb from to && leb to (length buf)) ≡ true
  both_true = rw (le-leb from to in_order, le-leb to (length buf) k)

  moved : carried from to buf ≡ (to - from, take (to - from) (drop from buf) ++ drop (to - from) buf)
  unfolding carried
  moved = rw both_true

  pub carried_count : left ≡ to - from
  carried_count = ap (λ (x : ℕ × List ℕ). x.0) (e ∙ moved)

  pub carried_front : take left new ≡ drop from (take to buf)
  carried_front =
      let n : new ≡ take (to - from) (drop from buf) ++ drop (to - from) buf = ap (λ (x : ℕ × List ℕ). x.1) (e ∙ moved) in
      let d : length (drop from buf) ≡ length buf - from = simp length-drop refl in
      let l : length (take (to - from) (drop from buf)) ≡ to - from = length-take-le (to - from) (drop from buf) (omega arith) in
      let o = in_order in
      let s : from + (to - from) ≡ to = omega arith in
      (λ i. take (carried_count i) (n i)) ∙ take_at (take (to - from) (drop from buf)) (drop (to - from) buf) (to - from) l
      ∙ sym (ap (λ (m : ℕ). drop from (take m buf)) (sym s) ∙ drop_take from (to - from) buf (omega arith))

-- what was written behind the first bytes of a buffer
both_taken : (at n : ℕ) (out new : List ℕ) → at ≤ length out → n ≤ length new → take (at + n) (given_back at out new) ≡ take at out ++ take n new
both_taken at n out new h k =
    let l = length-take-le at out h in
    let rest = drop (length out - at) (drop at out) in
    (let z = take-append-add (take at out) (new ++ rest) n in rw l at z) ∙ ap (λ (x : List ℕ). take at out ++ x) (take-append-le n new rest k)

-- ---- a turn, by the run over the held bytes and what is carried to the front

module _ (s : List ℕ) (p : Pass) (w : List Float) (out : List ℕ) (r : Ran) (w' : List Float) (out' : List ℕ)
    (e : as_chunk_run r w' out' ≡ lines_run (lines s) (record { pass = p; windows = w; used = 0; list = []; behind = out })) where
  ran_listed : (more : List ℕ) → list_after (onward p w) (s ++ more) ≡ list_after (held_in r.pass w' r.at out') (drop r.used s ++ more)
  unfolding as_chunk_run
  ran_listed more =
      chunk_listed s (record { pass = p; windows = w; used = 0; list = []; behind = out }) more
      ∙ ap (λ (g : ChunkRun). list_after (waiting g) (drop g.used s ++ more)) (sym e)

  pub turn_stops : is_stopped r.pass.stage ≡ true → (after : Run) (left : List ℕ) → Turned Refused (onward p w) s (take r.at out') after left
  unfolding Turned
  turn_stops z after left more = ran_listed more ∙ stopped_listed (held_in r.pass w' r.at out') z (drop r.used s ++ more)

  pub no_line : leb longest (length (spare r.at out')) ≡ true → NoLine (drop r.used s)
  unfolding as_chunk_run
  no_line room =
      let a : run_has_room (lines_run (lines s) (record { pass = p; windows = w; used = 0; list = []; behind = out })) ≡ true = ap run_has_room (sym e) ∙ has_room_is r w' out' true room in
      let b = all_judged s (lines s) (record { pass = p; windows = w; used = 0; list = []; behind = out }) refl a in
      no_line_left (drop r.used s) (ap (λ (g : ChunkRun). lines (drop g.used s)) e ∙ b)

  pub some_used : leb longest (length out) ≡ true → leb longest (length (spare r.at out')) ≡ false → 0 < r.used
  unfolding as_chunk_run run_has_room
  some_used room full =
      let a : run_has_room (lines_run (lines s) (record { pass = p; windows = w; used = 0; list = []; behind = out })) ≡ false = ap run_has_room (sym e) ∙ has_room_is r w' out' false full in
      let b = got_on s (lines s) (record { pass = p; windows = w; used = 0; list = []; behind = out }) refl room a in
      let u = ap (λ (g : ChunkRun). g.used) e in
      omega arith

  module _ (left : List ℕ) (front : left ≡ drop r.used s) where
    goes : (more : List ℕ) → list_after (onward p w) (s ++ more) ≡ take r.at out' ++ list_after (onward r.pass w') (left ++ more)
    goes more =
        ran_listed more ∙ ap (λ (l : List ℕ). list_after (held_in r.pass w' r.at out') (l ++ more)) (sym front)
        ∙ waits_in_front r.pass w' r.at out' (left ++ more)

    pub turn-again : Turned Turn (onward p w) s (take r.at out') (onward r.pass w') left
    unfolding Turned
    turn-again = goes

    pub turn-reads : Turned Read (onward p w) s (take r.at out') (onward r.pass w') left
    unfolding Turned
    turn-reads = goes

    -- a turn that ends in a line that is too long
    pub turn-refuses : (n : ℕ) (new : List ℕ) → r.at ≤ length out' → n ≤ length new → ((more : List ℕ) → list_after (onward r.pass w') (left ++ more) ≡ take n new)
        → (after : Run) (any : List ℕ) → Turned Refused (onward p w) s (take (r.at + n) (given_back r.at out' new)) after any
    unfolding Turned
    turn-refuses n new h k t after any more = goes more ∙ ap (λ (l : List ℕ). take r.at out' ++ l) (t more) ∙ sym (both_taken r.at n out' new h k)

-- ---- the end of the text, and a line that is too long

module _ (p : Pass) (held out : List ℕ) (j : Judged) (out' : List ℕ) (e : as_printed j out' ≡ printed (input_ended p.stage p held) out) where
  pub added_within : j.added ≤ length out'
  unfolding as_printed printed
  added_within = within (input_ended p.stage p held).text out (ap (λ (x : Printed). (x.added, x.out)) e)

  module _ (room : longest ≤ length out) where
    made_is : take j.added out' ≡ (input_ended p.stage p held).text
    unfolding as_printed printed
    made_is = alone (input_ended p.stage p held).text out (ap (λ (x : Printed). (x.added, x.out)) e) room

    pub end_made : NoLine held → (w : List Float) → list_after (onward p w) held ≡ take j.added out'
    end_made plain w = end_listed (onward p w) held plain ∙ sym made_is

    pub long_made : TooLong p held → (w : List Float) (more : List ℕ) → list_after (onward p w) (held ++ more) ≡ take j.added out'
    long_made t w more = long_listed (onward p w) held more t.going t.plain t.long ∙ sym made_is

-- ---- the first bytes

pub short_names : length names_text ≤ longest
short_names = let z : length names_text ≡ 46 = refl in omega arith

pub begun : (p : Pass) (made : List ℕ) → p ≡ new_pass → made ≡ names_text → Begun p made
unfolding list_of
begun p made q m text =
    ap (λ (l : List ℕ). list_after (record { pass = new_pass; windows = zeros; list = l }) text) (sym (append-nil names_text))
    ∙ write_listed names_text (onward new_pass zeros) text ∙ (λ i. sym m i ++ list_after (onward (sym q i) zeros) text)
