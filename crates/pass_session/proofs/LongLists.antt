-- A line that is known to be longer than any in the form can be refused before its newline is read: the list is the same, whatever follows.
use mathlib.Core.Path.{◌≡◌, refl, ap, sym, ◌∙◌}
use mathlib.Core.Bool.{Bool, true, false, cond}
use mathlib.Core.List.{List, [], ◌∷◌, ◌++◌, append-nil}
use Rattle.std.specs.Prelude.{Option}
use Prim.Native.Nat.{ℕ, suc, ◌+◌, ◌≤◌, ◌<◌}
use native.Mathlib.Omega.{arith}
use lib.Dec.{eqb, ltb}
use lib.ListN.{length, take, drop, length-append}
use lib.Seq.{length-take-le}
use lib.Ieee.{Float}
use borrow.Author.Tests.{ne_eqb, lt-ltb, ltb-true, ltb-false}
use Rattle.sequences.specs.Folds.{fold}
use Rattle.pass_reader.specs.Bytes.{same, newline}
use Rattle.pass_reader.specs.Code.Places.{place, longest_line}
use Rattle.pass_reader.specs.Lines.{outside, names, block_names, values_line, flag_and_samples}
use Rattle.pass_reader.proofs.LongLines.{long_differs, long_values, long_block}
use Rattle.pass_stream.specs.Stream.{lines, rest}
use Rattle.pass_stream.specs.Code.Carrying.{line_length}
use Rattle.pass_stream.proofs.StreamLaws.{first_line, no_line, no_line_rest}
use Rattle.pass_setup.specs.declared.pass.Stage.{Stage}
use Rattle.pass_setup.specs.declared.pass.Stage.TheVariants.{Names, Values, BlockNames, Blocks, Stopped}
use Rattle.pass_setup.specs.declared.pass.Pass.{Pass}
use Rattle.pass_setup.specs.Judging.{Judgement, line_refused, values_judged, block_judged, judged}
use Rattle.pass_setup.specs.Listing.{Run, further, input_ended, list_after}
use Rattle.pass_setup.specs.Code.Steps.{listed, closed}
use Rattle.pass_setup.specs.Code.Buffers.{is_stopped}

number : Bool → ℕ
number true = 1
number false = 0

-- a run that has ended stays as it is
module _ (r : Run) (e : r.pass.stage ≡ Stopped) where
  nothing_listed : listed r.list (record { pass = r.pass; text = [] }, r.windows) ≡ r
  nothing_listed = λ i. record { pass = r.pass; windows = r.windows; list = append-nil r.list i }

  still_further : (line : List ℕ) → further r line ≡ r
  unfolding further judged
  still_further line = ap (λ (s : Stage). listed r.list (judged s r.pass r.windows line)) e ∙ nothing_listed

  still_closed : (left : List ℕ) → closed r left ≡ r.list
  unfolding input_ended
  still_closed left =
      ap (λ (s : Stage). (listed r.list (input_ended s r.pass left, r.windows)).list) e ∙ ap (λ (x : Run). x.list) nothing_listed

still_folded : (r : Run) → r.pass.stage ≡ Stopped → (ls : List (List ℕ)) → fold further r ls ≡ r
unfolding fold
still_folded r e [] = refl
still_folded r e (l ∷ ls) = ap (λ (x : Run). fold further x ls) (still_further r e l) ∙ still_folded r e ls

stopped_stage : (s : Stage) → is_stopped s ≡ true → s ≡ Stopped
unfolding is_stopped number
stopped_stage Names h = absurd (let z : 0 ≡ 1 = ap number h in omega arith)
stopped_stage Values h = absurd (let z : 0 ≡ 1 = ap number h in omega arith)
stopped_stage BlockNames h = absurd (let z : 0 ≡ 1 = ap number h in omega arith)
stopped_stage Blocks h = absurd (let z : 0 ≡ 1 = ap number h in omega arith)
stopped_stage Stopped h = refl

-- whatever follows adds nothing to its list
pub stopped_listed : (r : Run) → is_stopped r.pass.stage ≡ true → (text : List ℕ) → list_after r text ≡ r.list
unfolding list_after
stopped_listed r h text =
    let e = stopped_stage r.pass.stage h in
    ap (λ (x : Run). closed x (rest text)) (still_folded r e (lines text)) ∙ still_closed r e (rest text)

-- what is left at the end of the input, and a long line, are refused alike

end_at : (p : Pass) (s : Stage) → is_stopped s ≡ false → (l : List ℕ) → 0 < length l → input_ended s p l ≡ line_refused outside p
unfolding input_ended is_stopped number
end_at p Names g l h = refl
end_at p Values g l h = refl
end_at p BlockNames g l h = refl
end_at p Blocks g l h = rw (ne_eqb (length l) 0 (λ (e : length l ≡ 0). omega arith))
end_at p Stopped g l h = absurd (let z : 0 ≡ 1 = ap number (sym g) in omega arith)

module _ (p : Pass) (w : List Float) (line : List ℕ) (long : longest_line < length line) where
  names_long : (expected : List ℕ) (j : Judgement) → length expected ≤ 55 → cond (same line expected) j (line_refused outside p) ≡ line_refused outside p
  names_long expected j h = rw (long_differs expected line (omega arith))

  values_long : values_judged (values_line line) p ≡ line_refused outside p
  unfolding values_judged
  values_long = ap (λ (o : Option (List ℕ)). values_judged o p) (long_values line (omega arith))

  blocks_long : block_judged (flag_and_samples line) p w ≡ (line_refused outside p, w)
  unfolding block_judged
  blocks_long = ap (λ (o : Option (ℕ × List Float)). block_judged o p w) (long_block line long)

  long_at : (s : Stage) → is_stopped s ≡ false → judged s p w line ≡ (line_refused outside p, w)
  unfolding judged is_stopped number
  long_at Names g = ap (λ (j : Judgement). (j, w)) (names_long names _ (omega arith))
  long_at Values g = ap (λ (j : Judgement). (j, w)) values_long
  long_at BlockNames g = ap (λ (j : Judgement). (j, w)) (names_long block_names _ (omega arith))
  long_at Blocks g = blocks_long
  long_at Stopped g = absurd (let z : 0 ≡ 1 = ap number (sym g) in omega arith)

-- no newline in front
plain_front : (a b : List ℕ) → length a ≤ place newline a → length a ≤ place newline (a ++ b)
unfolding place
plain_front [] b h = omega arith
plain_front (c ∷ a) b h = go (eqb c newline) h (plain_front a b)
  where
    go : (t : Bool) → suc (length a) ≤ cond t 0 (suc (place newline a)) → (length a ≤ place newline a → length a ≤ place newline (a ++ b))
        → suc (length a) ≤ cond t 0 (suc (place newline (a ++ b)))
    go true h more = absurd (omega arith)
    go false h more = let m = more (omega arith) in omega arith

pub line_length_is : (t : List ℕ) → place newline t < length t → line_length t ≡ place newline t + 1
unfolding line_length
line_length_is t h = rw (lt-ltb (place newline t) (length t) h)

first_length : (t : List ℕ) → place newline t < length t → length (take (line_length t) t) ≡ place newline t + 1
first_length t h = ap (λ (n : ℕ). length (take n t)) (line_length_is t h) ∙ length-take-le (place newline t + 1) t (omega arith)

module _ (r : Run) (left more : List ℕ) (going : is_stopped r.pass.stage ≡ false) (plain : length left ≤ place newline left) (long : longest_line < length left) where
  ends : (l : List ℕ) → 0 < length l → closed r l ≡ (listed r.list (line_refused outside r.pass, r.windows)).list
  ends l h = ap (λ (j : Judgement). (listed r.list (j, r.windows)).list) (end_at r.pass r.pass.stage going l h)

  line_refused_lem : (l : List ℕ) → longest_line < length l → further r l ≡ listed r.list (line_refused outside r.pass, r.windows)
  unfolding further
  line_refused_lem l h = ap (listed r.list) (long_at r.pass r.windows l h r.pass.stage going)

  stopped : (ls : List (List ℕ)) (end : List ℕ) → closed (fold further (listed r.list (line_refused outside r.pass, r.windows)) ls) end
      ≡ (listed r.list (line_refused outside r.pass, r.windows)).list
  unfolding line_refused
  stopped ls end =
      let q = listed r.list (line_refused outside r.pass, r.windows) in
      ap (λ (x : Run). closed x end) (still_folded q refl ls) ∙ still_closed q refl end

  pub long_listed : list_after r (left ++ more) ≡ closed r left
  unfolding list_after fold
  long_listed = go (ltb (place newline (left ++ more)) (length (left ++ more))) refl
    where
      go : (b : Bool) → ltb (place newline (left ++ more)) (length (left ++ more)) ≡ b → list_after r (left ++ more) ≡ closed r left
      go true e =
          let h : place newline (left ++ more) < length (left ++ more) = ltb-true _ _ e in
          let a = plain_front left more plain in
          let n = first_length (left ++ more) h in
          let l = take (line_length (left ++ more)) (left ++ more) in
          ap (λ (ls : List (List ℕ)). closed (fold further r ls) (rest (left ++ more))) (first_line (left ++ more) h)
          ∙ ap (λ (x : Run). closed (fold further x (lines (drop (line_length (left ++ more)) (left ++ more)))) (rest (left ++ more))) (line_refused_lem l (omega arith))
          ∙ stopped (lines (drop (line_length (left ++ more)) (left ++ more))) (rest (left ++ more)) ∙ sym (ends left (omega arith))
      go false e =
          let h : length (left ++ more) ≤ place newline (left ++ more) = ltb-false _ _ e in
          let n = length-append left more in
          (λ i. closed (fold further r (no_line (left ++ more) h i)) (no_line_rest (left ++ more) h i))
          ∙ ends (left ++ more) (omega arith) ∙ sym (ends left (omega arith))
