-- The whole list, from what the code does piece by piece: the lines of a chunk, what waits in the buffer, a write, and the end of the input. No
-- border of a chunk and no write can be seen in the list.
use mathlib.Core.Path.{◌≡◌, refl, ap, sym, ◌∙◌}
use mathlib.Core.Bool.{Bool, true, false}
use mathlib.Core.List.{List, [], ◌∷◌, ◌++◌, append_assoc}
use Prim.Native.Nat.{ℕ, ◌+◌, ◌≤◌, ◌<◌}
use native.Mathlib.Omega.{arith}
use lib.Dec.{ltb}
use lib.ListN.{length, take, drop}
use lib.Seq.{length-take-le, drop-drop}
use borrow.Author.Tests.{ltb-true, ltb-false}
use Rattle.sequences.specs.Folds.{fold}
use Rattle.pass_reader.specs.Bytes.{newline}
use Rattle.pass_reader.specs.Code.Places.{place}
use Rattle.pass_stream.specs.Stream.{lines, rest}
use Rattle.pass_stream.specs.Code.Carrying.{line_length}
use Rattle.pass_stream.proofs.StreamLaws.{first_line, first_line_rest, no_line, no_line_rest, line_within, rest_chunks, fold_chunks}
use Rattle.pass_setup.specs.Judging.{judged}
use Rattle.pass_setup.specs.Listing.{Run, further, input_ended, list_after}
use Rattle.pass_setup.specs.Code.Steps.{closed}
use Rattle.pass_setup.specs.Code.Buffers.{ChunkRun, past, line_run, run_has_room, only_if, lines_run}
use Rattle.pass_session.proofs.LongLists.{line_length_is}

-- a run whose list waits in a buffer
abbrev pub waiting : ChunkRun → Run
waiting g = record { pass = g.pass; windows = g.windows; list = g.list }

-- ---- one line

line_waits : (g : ChunkRun) (line : List ℕ) → waiting (line_run g line) ≡ further (waiting g) line
unfolding line_run past further
line_waits g line = refl

pub line_used : (g : ChunkRun) (line : List ℕ) → (line_run g line).used ≡ g.used + length line
unfolding line_run past
line_used g line = refl

-- the first line of what is left, and what is left after it
module _ (s : List ℕ) (used : ℕ) (l : List ℕ) (ls : List (List ℕ)) (e : l ∷ ls ≡ lines (drop used s)) where
  there : place newline (drop used s) < length (drop used s)
  there = go (ltb (place newline (drop used s)) (length (drop used s))) refl
    where
      go : (b : Bool) → ltb (place newline (drop used s)) (length (drop used s)) ≡ b → place newline (drop used s) < length (drop used s)
      go true h = ltb-true _ _ h
      go false h = absurd (let z = ap length (e ∙ no_line (drop used s) (ltb-false _ _ h)) in omega arith)

  both : l ∷ ls ≡ take (line_length (drop used s)) (drop used s) ∷ lines (drop (line_length (drop used s)) (drop used s))
  both = e ∙ first_line (drop used s) there

  line_is : length l ≡ line_length (drop used s)
  line_is = ap first_length both ∙ length-take-le (line_length (drop used s)) (drop used s) (line_within (drop used s))
    where
      first_length : List (List ℕ) → ℕ
      first_length [] = 0
      first_length (x ∷ xs) = length x

  pub line_not_empty : 0 < length l
  line_not_empty = let a = line_is in let b = line_length_is (drop used s) there in omega arith

  next_is : drop (line_length (drop used s)) (drop used s) ≡ drop (used + length l) s
  next_is = drop-drop (line_length (drop used s)) used s ∙ ap (λ (n : ℕ). drop (used + n) s) (sym line_is)

  pub lines_after : ls ≡ lines (drop (used + length l) s)
  lines_after = ap others both ∙ ap lines next_is
    where
      others : List (List ℕ) → List (List ℕ)
      others [] = []
      others (x ∷ xs) = xs

  pub rest_after : rest (drop used s) ≡ rest (drop (used + length l) s)
  rest_after = first_line_rest (drop used s) there ∙ ap rest next_is

-- ---- the lines of a chunk

-- g' is as far as g, with the lines of s between them judged
record Same (s : List ℕ) (g g' : ChunkRun) : Type 0 where
  run_is : fold further (waiting g) (lines (drop g.used s)) ≡ fold further (waiting g') (lines (drop g'.used s))
  rest_is : rest (drop g.used s) ≡ rest (drop g'.used s)

-- one line on
same_line : (s : List ℕ) (l : List ℕ) (ls : List (List ℕ)) (g g' : ChunkRun) → l ∷ ls ≡ lines (drop g.used s) → Same s (line_run g l) g' → Same s g g'
unfolding fold
same_line s l ls g g' e m =
    let u = line_used g l in
    let n : ls ≡ lines (drop (line_run g l).used s) = lines_after s g.used l ls e ∙ ap (λ (k : ℕ). lines (drop k s)) (sym u) in
    let f : fold further (waiting g) (l ∷ ls) ≡ fold further (waiting (line_run g l)) ls = ap (λ (r : Run). fold further r ls) (sym (line_waits g l)) in
    record {
      run_is = ap (fold further (waiting g)) (sym e) ∙ f ∙ ap (fold further (waiting (line_run g l))) n ∙ m.run_is;
      rest_is = rest_after s g.used l ls e ∙ ap (λ (k : ℕ). rest (drop k s)) (sym u) ∙ m.rest_is;
    }

same_run : (s : List ℕ) (ls : List (List ℕ)) (g : ChunkRun) → ls ≡ lines (drop g.used s) → Same s g (lines_run ls g)
unfolding lines_run only_if
same_run s [] g e = record { run_is = refl; rest_is = refl }
same_run s (l ∷ ls) g e =
    go (run_has_room g) (same_run s ls (line_run g l) (lines_after s g.used l ls e ∙ ap (λ (k : ℕ). lines (drop k s)) (sym (line_used g l))))
  where
    go : (b : Bool) → Same s (line_run g l) (lines_run ls (line_run g l)) → Same s g (only_if b (lines_run ls (line_run g l)) g)
    go true more = same_line s l ls g (lines_run ls (line_run g l)) e more
    go false more = record { run_is = refl; rest_is = refl }

-- a text in two parts
two_parts : (r : Run) (a b : List ℕ) → list_after r (a ++ b) ≡ list_after (fold further r (lines a)) (rest a ++ b)
unfolding list_after
two_parts r a b = λ i. closed (fold_chunks further r a b i) (rest_chunks a b i)

-- A run over a chunk s, of which g.used bytes are used: the list that is to come is the same, whatever comes after the chunk.
pub chunk_listed : (s : List ℕ) (g : ChunkRun) (more : List ℕ)
    → list_after (waiting g) (drop g.used s ++ more)
    ≡ list_after (waiting (lines_run (lines (drop g.used s)) g)) (drop (lines_run (lines (drop g.used s)) g).used s ++ more)
chunk_listed s g more =
    let m = same_run s (lines (drop g.used s)) g refl in
    two_parts (waiting g) (drop g.used s) more
    ∙ (λ i. list_after (m.run_is i) (m.rest_is i ++ more))
    ∙ sym (two_parts (waiting (lines_run (lines (drop g.used s)) g)) (drop (lines_run (lines (drop g.used s)) g).used s) more)

-- ---- a write: what is taken out of the buffer stands in front of what comes

abbrev pub behind : List ℕ → Run → Run
behind a r = record { pass = r.pass; windows = r.windows; list = a ++ r.list }

further_behind : (a : List ℕ) (r : Run) (line : List ℕ) → further (behind a r) line ≡ behind a (further r line)
unfolding further
further_behind a r line =
    let j = judged r.pass.stage r.pass r.windows line in
    let q = append_assoc a r.list j.0.text in
    λ i. record { pass = j.0.pass; windows = j.1; list = q i }

fold_behind : (a : List ℕ) (r : Run) (ls : List (List ℕ)) → fold further (behind a r) ls ≡ behind a (fold further r ls)
unfolding fold
fold_behind a r [] = refl
fold_behind a r (l ∷ ls) = ap (λ (x : Run). fold further x ls) (further_behind a r l) ∙ fold_behind a (further r l) ls

closed_behind : (a : List ℕ) (r : Run) (left : List ℕ) → closed (behind a r) left ≡ a ++ closed r left
closed_behind a r left = append_assoc a r.list (input_ended r.pass.stage r.pass left).text

pub write_listed : (a : List ℕ) (r : Run) (text : List ℕ) → list_after (behind a r) text ≡ a ++ list_after r text
unfolding list_after
write_listed a r text =
    ap (λ (x : Run). closed x (rest text)) (fold_behind a r (lines text)) ∙ closed_behind a (fold further r (lines text)) (rest text)

-- ---- the end of the input: what is left has no newline

pub end_listed : (r : Run) (left : List ℕ) → length left ≤ place newline left → list_after r left ≡ closed r left
unfolding list_after fold
end_listed r left h = λ i. closed (fold further r (no_line left h i)) (no_line_rest left h i)
