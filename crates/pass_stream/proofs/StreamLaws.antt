-- Laws of a stream: its first line, and the borders of its chunks, which nothing shows.
use mathlib.Core.Path.{◌≡◌, refl, ap, sym, ◌∙◌}
use mathlib.Core.Bool.{Bool, true, false, cond}
use mathlib.Core.List.{List, [], ◌∷◌, ◌++◌}
use Prim.Native.Nat.{ℕ, suc, ◌+◌, ◌≤◌, ◌<◌}
use native.Mathlib.Numerals.{add-one}
use native.Mathlib.Omega.{arith}
use lib.Dec.{eqb, ltb}
use lib.ListN.{length, take, drop}
use borrow.Author.Tests.{ne_eqb, lt-ltb, ltb-true, ltb-false}
use Rattle.sequences.specs.Folds.{fold}
use Rattle.sequences.proofs.FoldLaws.{fold_append}
use Rattle.pass_reader.specs.Bytes.{newline, onto}
use Rattle.pass_reader.specs.Code.Places.{place}
use Rattle.pass_reader.proofs.ByteLaws.{place_within}
use Rattle.pass_stream.specs.Stream.{lines, rest}
use Rattle.pass_stream.specs.Code.Carrying.{line_length}

-- the first line
first : (s : List ℕ) → place newline s < length s → lines s ≡ take (suc (place newline s)) s ∷ lines (drop (suc (place newline s)) s)
unfolding lines onto place
first [] h = absurd (omega arith)
first (b ∷ r) h = go (eqb b newline) h (first r)
  where
    go : (t : Bool) → cond t 0 (suc (place newline r)) < suc (length r)
        → (place newline r < length r → lines r ≡ take (suc (place newline r)) r ∷ lines (drop (suc (place newline r)) r))
        → cond t ((b ∷ []) ∷ lines r) (onto b (lines r))
        ≡ take (suc (cond t 0 (suc (place newline r)))) (b ∷ r) ∷ lines (drop (suc (cond t 0 (suc (place newline r)))) (b ∷ r))
    go true h more = refl
    go false h more = ap (onto b) (more (omega arith))

-- no line ends
none : (s : List ℕ) → place newline s ≡ length s → lines s ≡ []
unfolding lines onto place
none [] h = refl
none (b ∷ r) h = go (eqb b newline) h (none r)
  where
    go : (t : Bool) → cond t 0 (suc (place newline r)) ≡ suc (length r) → (place newline r ≡ length r → lines r ≡ [])
        → cond t ((b ∷ []) ∷ lines r) (onto b (lines r)) ≡ []
    go true h more = absurd (omega arith)
    go false h more = ap (onto b) (more (omega arith))

-- what is left, by whether a line ends
all_left : (s : List ℕ) → lines s ≡ [] → rest s ≡ s
unfolding rest
all_left [] e = refl
all_left (b ∷ r) e = ap (λ (l : List (List ℕ)). cond (eqb (length l) 0) (b ∷ r) (rest r)) e

left_after : (b : ℕ) (r line : List ℕ) (more : List (List ℕ)) → lines (b ∷ r) ≡ line ∷ more → rest (b ∷ r) ≡ rest r
unfolding rest
left_after b r line more e =
    ap (λ (l : List (List ℕ)). cond (eqb (length l) 0) (b ∷ r) (rest r)) e ∙ rw (ne_eqb (suc (length more)) 0 (λ (z : suc (length more) ≡ 0). omega arith))

first_rest : (s : List ℕ) → place newline s < length s → rest s ≡ rest (drop (suc (place newline s)) s)
unfolding place
first_rest [] h = absurd (omega arith)
first_rest (b ∷ r) h = left_after b r _ _ (first (b ∷ r) h) ∙ go (eqb b newline) h (first_rest r)
  where
    go : (t : Bool) → cond t 0 (suc (place newline r)) < suc (length r) → (place newline r < length r → rest r ≡ rest (drop (suc (place newline r)) r))
        → rest r ≡ rest (drop (suc (cond t 0 (suc (place newline r)))) (b ∷ r))
    go true h more = refl
    go false h more = more (omega arith)

-- what a loop over a chunk goes by: the first line is there, or no line ends
module _ (s : List ℕ) where
  pub first_line : place newline s < length s → lines s ≡ take (line_length s) s ∷ lines (drop (line_length s) s)
  unfolding line_length
  first_line h = rw (lt-ltb _ _ h, add-one) (first s h)

  pub first_line_rest : place newline s < length s → rest s ≡ rest (drop (line_length s) s)
  unfolding line_length
  first_line_rest h = rw (lt-ltb _ _ h, add-one) (first_rest s h)

  pub no_line : length s ≤ place newline s → lines s ≡ []
  no_line h = let w = place_within newline s in none s (omega arith)

  pub no_line_rest : length s ≤ place newline s → rest s ≡ s
  no_line_rest h = all_left s (no_line h)

-- the length of the first line tells which
pub line_here : (s : List ℕ) → (line_length s ≡ 0 → ⊥) → place newline s < length s
unfolding line_length
line_here s n = go (ltb (place newline s) (length s)) refl n
  where
    go : (t : Bool) → ltb (place newline s) (length s) ≡ t → (cond t (place newline s + 1) 0 ≡ 0 → ⊥) → place newline s < length s
    go true e n = ltb-true _ _ e
    go false e n = absurd (n refl)

pub no_line_here : (s : List ℕ) → line_length s ≡ 0 → length s ≤ place newline s
unfolding line_length
no_line_here s h = go (ltb (place newline s) (length s)) refl h
  where
    go : (t : Bool) → ltb (place newline s) (length s) ≡ t → cond t (place newline s + 1) 0 ≡ 0 → length s ≤ place newline s
    go true e h = absurd (omega arith)
    go false e h = ltb-false _ _ e

pub line_within : (s : List ℕ) → line_length s ≤ length s
unfolding line_length
line_within s = go (ltb (place newline s) (length s)) refl
  where
    go : (t : Bool) → ltb (place newline s) (length s) ≡ t → cond t (place newline s + 1) 0 ≤ length s
    go true e = let l : place newline s < length s = ltb-true _ _ e in omega arith
    go false e = omega arith

-- Two chunks: the part that the first one left may stand in front of the second.
record Cut (a b : List ℕ) : Type 0 where
  lines_cut : lines (a ++ b) ≡ lines a ++ lines (rest a ++ b)
  rest_cut : rest (a ++ b) ≡ rest (rest a ++ b)

-- where no line ends in the first chunk, all of it is left
uncut : (a b : List ℕ) → lines a ≡ [] → Cut a b
uncut a b e =
    let r = sym (all_left a e) in
    record { lines_cut = λ i. sym e i ++ lines (r i ++ b); rest_cut = ap (λ (q : List ℕ). rest (q ++ b)) r }

-- a byte in front of the first chunk, with a line that ends in it
cut_after : (x : ℕ) (a b l : List ℕ) (ls : List (List ℕ)) → Cut a b → lines (x ∷ a) ≡ l ∷ ls → lines (x ∷ a ++ b) ≡ l ∷ (ls ++ lines (rest a ++ b)) → Cut (x ∷ a) b
cut_after x a b l ls c e h =
    let r = left_after x a l ls e in
    record {
      lines_cut = h ∙ (λ i. sym e i ++ lines (sym r i ++ b));
      rest_cut = left_after x (a ++ b) l (ls ++ lines (rest a ++ b)) h ∙ c.rest_cut ∙ ap (λ (q : List ℕ). rest (q ++ b)) (sym r);
    }

module _ (x : ℕ) (a b : List ℕ) (c : Cut a b) where
  on_newline : eqb x newline ≡ true → Cut (x ∷ a) b
  unfolding lines
  on_newline t = cut_after x a b (x ∷ []) (lines a) c (rw t) (rw t (ap (λ (ls : List (List ℕ)). (x ∷ []) ∷ ls) c.lines_cut))

  on_other : eqb x newline ≡ false → (ls : List (List ℕ)) → lines a ≡ ls → Cut (x ∷ a) b
  unfolding lines onto
  on_other t [] e = uncut (x ∷ a) b (rw t (ap (onto x) e))
  on_other t (l ∷ ls) e =
      cut_after x a b (x ∷ l) ls c (rw t (ap (onto x) e)) (rw t (ap (onto x) (c.lines_cut ∙ ap (λ (k : List (List ℕ)). k ++ lines (rest a ++ b)) e)))

cut : (a b : List ℕ) → Cut a b
unfolding lines rest
cut [] b = record { lines_cut = refl; rest_cut = refl }
cut (x ∷ a) b = go (eqb x newline) refl (cut a b)
  where
    go : (t : Bool) → eqb x newline ≡ t → Cut a b → Cut (x ∷ a) b
    go true t c = on_newline x a b c t
    go false t c = on_other x a b c t (lines a) refl

pub lines_chunks : (a b : List ℕ) → lines (a ++ b) ≡ lines a ++ lines (rest a ++ b)
lines_chunks a b = (cut a b).lines_cut

pub rest_chunks : (a b : List ℕ) → rest (a ++ b) ≡ rest (rest a ++ b)
rest_chunks a b = (cut a b).rest_cut

-- so whatever goes on from line to line comes to the same, however the stream is cut
pub fold_chunks {ℓ} : {P : Type ℓ} (step : P → List ℕ → P) (p : P) (a b : List ℕ)
    → fold step p (lines (a ++ b)) ≡ fold step (fold step p (lines a)) (lines (rest a ++ b))
fold_chunks step p a b = ap (fold step p) (lines_chunks a b) ∙ fold_append step p (lines a) (lines (rest a ++ b))
