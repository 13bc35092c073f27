-- Laws of lines and fields: sameness, the search for a byte, and the fields that it finds.
use mathlib.Core.Path.{◌≡◌, refl, ap, sym, ◌∙◌}
use mathlib.Core.Bool.{Bool, true, false, cond, and-true}
use mathlib.Core.List.{List, [], ◌∷◌}
use Prim.Native.Nat.{ℕ, suc, ◌+◌, ◌-◌, ◌≤◌, ◌<◌}
use native.Mathlib.Omega.{arith}
use lib.Dec.{eqb, ltb}
use lib.ListN.{length, take, drop, length-drop, drop_of_length-le}
use lib.Seq.{drop-cons, drop-drop, length-take-le, take_all}
use borrow.Author.Tests.{eqb-true, ltb-true, ltb-false}
use Rattle.pass_reader.specs.Bytes.{newline, same, whole_line, onto, fields, line_fields, space}
use Rattle.std.specs.List.{position, position_or_len}
use denote.Ref.{Bor}
use Rattle.std.specs.Prelude.{Option, Some, None, MatchOption}
use Rattle.std.specs.Str.{bytes_eq}
use Rattle.std.proofs.lemmas.List.Recursion.{is_position_or_len}
use Rattle.pass_reader.specs.Code.Places.{place}
use Rattle.std.proofs.lemmas.Bool.{and_parts}

-- sameness is equality
pub same_eq : (a b : List ℕ) → same a b ≡ true → a ≡ b
unfolding same
same_eq [] [] e = refl
same_eq [] (y ∷ b) e = absurd (let z : ◌≡◌ {A = ℕ} 0 1 = cc in omega arith)
same_eq (x ∷ a) [] e = absurd (let z : ◌≡◌ {A = ℕ} 0 1 = cc in omega arith)
same_eq (x ∷ a) (y ∷ b) e =
    let p : x ≡ y = eqb-true x y (and_parts (eqb x y) _ e).0 in
    let q : a ≡ b = same_eq a b (and_parts (eqb x y) _ e).1 in
    cc

bytes_same : (a b : List ℕ) → bytes_eq a b ≡ same a b
unfolding same
bytes_same [] [] = refl
bytes_same [] (y ∷ b) = refl
bytes_same (x ∷ a) [] = refl
bytes_same (x ∷ a) (y ∷ b) = rw (bytes_same a b)

pub same_is : (r : Bool) (a b l : List ℕ) → b ≡ l → r ≡ bytes_eq a b → r ≡ same a l
same_is r a b l n e = e ∙ bytes_same a b ∙ ap (same a) n

-- a line's end
ended : (line : List ℕ) → bytes_eq (drop (length line - 1) line) (newline ∷ []) ≡ whole_line line
unfolding whole_line
ended [] = refl
ended (b ∷ l) =
    let n : suc (length l) - 1 ≡ length l = omega arith in
    rw (n, drop-cons (b ∷ l) (length l) 0 (omega arith), drop_of_length-le (b ∷ l) {i = suc (length l)} (omega arith)) (and-true _)

pub ends : (line end : List ℕ) (r : Option (Bor (List ℕ))) → end ≡ newline ∷ []
    → MatchOption r (bytes_eq (drop (length line - length end) line) end ≡ false)
    (λ text. (bytes_eq (drop (length line - length end) line) end ≡ true) × (text.now ≡ take (length line - length end) line) × (length text.now + length end ≡ length line))
    → MatchOption r (whole_line line ≡ false) (λ text. (whole_line line ≡ true) × (text.now ≡ take (length line - 1) line))
ends line end None n h = sym (ended line) ∙ (rw n at h)
ends line end (Some text) n h = let k = rw n at h in (sym (ended line) ∙ k.0, k.1)

-- the search for a byte
pub place_within : (b : ℕ) (s : List ℕ) → place b s ≤ length s
unfolding place
place_within b [] = omega arith
place_within b (c ∷ r) = go (eqb c b) (place_within b r)
  where
    go : (t : Bool) → place b r ≤ length r → cond t 0 (suc (place b r)) ≤ suc (length r)
    go true h = omega arith
    go false h = omega arith

pub place_found : (b : ℕ) (s : List ℕ) → MatchOption (position (λ x. eqb x b) s) (place b s ≡ length s) (λ n. (n ≡ place b s) × (n < length s))
unfolding place
place_found b s =
    let first : place b s ≡ position_or_len (λ x. eqb x b) s = is_position_or_len (place b) (λ x. eqb x b) refl (λ x xs. let one : suc (place b xs) ≡ 1 + place b xs = omega arith in rw one) s in
    let within = place_within b s in
    go (ltb (position_or_len (λ x. eqb x b) s) (length s)) refl first within
  where
    go : (t : Bool) → ltb (position_or_len (λ x. eqb x b) s) (length s) ≡ t → place b s ≡ position_or_len (λ x. eqb x b) s → place b s ≤ length s
        → MatchOption (cond t (Some (position_or_len (λ x. eqb x b) s)) None) (place b s ≡ length s) (λ n. (n ≡ place b s) × (n < length s))
    go true e f w = (sym f, ltb-true _ _ e)
    go false e f w = let l : length s ≤ position_or_len (λ x. eqb x b) s = ltb-false _ _ e in omega arith

-- the fields of a text with no space, and of one with a space
pub fields_last : (s : List ℕ) → place space s ≡ length s → fields s ≡ s ∷ []
unfolding fields place onto
fields_last [] e = refl
fields_last (c ∷ r) e = go (eqb c space) e (λ h. fields_last r h)
  where
    go : (t : Bool) → cond t 0 (suc (place space r)) ≡ suc (length r) → (place space r ≡ length r → fields r ≡ r ∷ [])
        → cond t ([] ∷ fields r) (onto c (fields r)) ≡ (c ∷ r) ∷ []
    go true e more = absurd (omega arith)
    go false e more = rw (more (omega arith))

pub fields_more : (s : List ℕ) → place space s < length s → fields s ≡ take (place space s) s ∷ fields (drop (suc (place space s)) s)
unfolding fields place onto
fields_more [] h = absurd (omega arith)
fields_more (c ∷ r) h = go (eqb c space) h (λ l. fields_more r l)
  where
    go : (t : Bool) → cond t 0 (suc (place space r)) < suc (length r)
        → (place space r < length r → fields r ≡ take (place space r) r ∷ fields (drop (suc (place space r)) r))
        → cond t ([] ∷ fields r) (onto c (fields r))
        ≡ take (cond t 0 (suc (place space r))) (c ∷ r) ∷ fields (drop (suc (cond t 0 (suc (place space r)))) (c ∷ r))
    go true h more = refl
    go false h more = rw (more (omega arith))

-- the same from a place on: the field that ends at `end`, and the fields after it
abbrev pub fields_after : List ℕ → ℕ → List (List ℕ)
fields_after s end = cond (ltb end (length s)) (fields (drop (end + 1) s)) []

module _ (s : List ℕ) (at end : ℕ) (within : at ≤ length s) (found : end ≡ at + place space (drop at s)) where
  pub fields_at : fields (drop at s) ≡ take (end - at) (drop at s) ∷ fields_after s end
  fields_at = go (ltb end (length s)) refl
    where
      go : (t : Bool) → ltb end (length s) ≡ t → fields (drop at s) ≡ take (end - at) (drop at s) ∷ cond t (fields (drop (end + 1) s)) []
      go true e =
          let h : end < length s = ltb-true _ _ e in
          let l = length-drop at s in
          let w : end - at ≡ place space (drop at s) = omega arith in
          let z : at + suc (place space (drop at s)) ≡ end + 1 = omega arith in
          fields_more (drop at s) (omega arith) ∙ rw (w, drop-drop (suc (place space (drop at s))) at s, z)
      go false e =
          let h : length s ≤ end = ltb-false _ _ e in
          let l = length-drop at s in
          let m = place_within space (drop at s) in
          fields_last (drop at s) (omega arith) ∙ rw (take_all (end - at) (drop at s) (omega arith))

-- a text has at least one field
pub some_field : (s : List ℕ) → fields s ≡ take (place space s) s ∷ fields_after s (place space s)
some_field s = let z : place space s - 0 ≡ place space s = omega arith in fields_at s 0 (place space s) (omega arith) (omega arith) ∙ rw z

-- `&s[a..]`
pub tail_is : (s : List ℕ) (a : ℕ) → take (length s - a) (drop a s) ≡ drop a s
tail_is s a = take_all (length s - a) (drop a s) (simp length-drop (omega arith))

pub front_length : (r : ℕ) (l : List ℕ) → r ≤ length l → r ≡ length (take r l)
front_length r l h = sym (length-take-le r l h)

-- the fields of a line that has a newline
pub text_fields : (line text : List ℕ) → (whole_line line ≡ true) × (text ≡ take (length line - 1) line) → fields text ≡ line_fields line
unfolding line_fields
text_fields line text h = rw (h.0, h.1)
