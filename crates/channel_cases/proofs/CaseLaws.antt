-- Words by the place of their sign, values by their first byte and their last, and a case word by word. Assumes nothing.
use mathlib.Core.Path.{◌≡◌, refl, ap, sym, ◌∙◌}
use mathlib.Core.Bool.{Bool, true, false, cond}
use mathlib.Core.List.{List, [], ◌∷◌}
use Prim.Native.Nat.{ℕ, suc, ◌-◌, ◌≤◌, ◌<◌}
use native.Mathlib.Omega.{arith}
use borrow.Author.Tests.{eq-eqb, ne_eqb, le-leb, lt-leb}
use lib.Dec.{eqb}
use lib.ListN.{length, get_or, take, drop}
use lib.Seq.{take_all}
use Rattle.sequences.specs.Folds.{some}
use Rattle.sequences.proofs.Choices.{cond_yes, cond_no}
use Rattle.std.specs.List.{slice_split, onto_first}
use Rattle.std.proofs.lemmas.List.Splits.{length-slice_split}
use Rattle.pass_reader.specs.Bytes.{bytes, onto, fields}
use Rattle.channel_script.specs.declared.session.Session.{Session}
use Rattle.channel_script.specs.Code.Looking.{quantity_of}
use Rattle.channel_cases.specs.Code.Numbers.{decimal_of, pattern_of}
use Rattle.channel_cases.specs.Code.Cases.{value_of, sign_place}

-- ---- the place of a sign

pub sign_short : (w : List ℕ) → length w < 3 → 0 ≡ sign_place w
unfolding sign_place
sign_short [] h = refl
sign_short (a ∷ []) h = refl
sign_short (a ∷ b ∷ []) h = refl
sign_short (a ∷ b ∷ d ∷ r) h = absurd (omega arith)

pub sign_one : (w : List ℕ) → 3 ≤ length w → some (eqb (get_or w 1 0)) (bytes ":=!<>") ≡ true → 1 ≡ sign_place w
unfolding sign_place
sign_one [] h e = absurd (omega arith)
sign_one (a ∷ []) h e = absurd (omega arith)
sign_one (a ∷ b ∷ []) h e = absurd (omega arith)
sign_one (a ∷ b ∷ d ∷ r) h e = sym (cond_yes _ _ e)

pub sign_two : (w : List ℕ) → 3 ≤ length w → some (eqb (get_or w 1 0)) (bytes ":=!<>") ≡ false → some (eqb (get_or w 2 0)) (bytes "=!<>") ≡ true → 2 ≡ sign_place w
unfolding sign_place
sign_two [] h e f = absurd (omega arith)
sign_two (a ∷ []) h e f = absurd (omega arith)
sign_two (a ∷ b ∷ []) h e f = absurd (omega arith)
sign_two (a ∷ b ∷ d ∷ r) h e f = sym (cond_no _ _ e ∙ cond_yes _ _ f)

pub sign_none : (w : List ℕ) → 3 ≤ length w → some (eqb (get_or w 1 0)) (bytes ":=!<>") ≡ false → some (eqb (get_or w 2 0)) (bytes "=!<>") ≡ false → 0 ≡ sign_place w
unfolding sign_place
sign_none [] h e f = refl
sign_none (a ∷ []) h e f = refl
sign_none (a ∷ b ∷ []) h e f = refl
sign_none (a ∷ b ∷ d ∷ r) h e f = sym (cond_no _ _ e ∙ cond_no _ _ f)

-- ---- a value

module _ (s : Session) where
  pub value_none : (w : List ℕ) → length w ≡ 0 → quantity_of s w ≡ value_of s w
  unfolding value_of
  value_none [] h = refl
  value_none (b ∷ r) h = absurd (omega arith)

  pub value_pattern : (w : List ℕ) → (length w ≡ 0 → ⊥) → get_or w 0 0 ≡ 120 → pattern_of (take (length w - 1) (drop 1 w)) ≡ value_of s w
  unfolding value_of
  value_pattern [] h e = absurd (h refl)
  value_pattern (b ∷ r) h e = rw (eq-eqb b 120 e) (ap pattern_of (take_all (suc (length r) - 1) r (omega arith)))

  pub value_name : (w : List ℕ) → (length w ≡ 0 → ⊥) → (get_or w 0 0 ≡ 120 → ⊥) → 65 ≤ get_or w (length w - 1) 0 → quantity_of s w ≡ value_of s w
  unfolding value_of
  value_name [] h e l = absurd (h refl)
  value_name (b ∷ r) h e l = let z : suc (length r) - 1 ≡ length r = omega arith in let l' = rw z at l in rw (ne_eqb b 120 e, le-leb 65 (get_or (b ∷ r) (length r) 0) l')

  pub value_decimal : (w : List ℕ) → (length w ≡ 0 → ⊥) → (get_or w 0 0 ≡ 120 → ⊥) → get_or w (length w - 1) 0 < 65 → decimal_of w ≡ value_of s w
  unfolding value_of
  value_decimal [] h e l = absurd (h refl)
  value_decimal (b ∷ r) h e l = let z : suc (length r) - 1 ≡ length r = omega arith in let l' = rw z at l in rw (ne_eqb b 120 e, lt-leb 65 (get_or (b ∷ r) (length r) 0) l')

-- ---- a case

-- the words of a line, as the library splits it at its spaces
onto_is : (b : ℕ) (s : List (List ℕ)) → 1 ≤ length s → onto_first b s ≡ onto b s
unfolding onto
onto_is b [] h = absurd (omega arith)
onto_is b (w ∷ r) h = refl

pub fields_is : (line : List ℕ) → slice_split (λ b. eqb b 32) line ≡ fields line
unfolding fields
fields_is [] = refl
fields_is (x ∷ r) = go (eqb x 32) (fields_is r)
  where
    go : (m : Bool) → slice_split (λ b. eqb b 32) r ≡ fields r → cond m ([] ∷ slice_split (λ b. eqb b 32) r) (onto_first x (slice_split (λ b. eqb b 32) r)) ≡ cond m ([] ∷ fields r) (onto x (fields r))
    go true h = ap (λ (s : List (List ℕ)). [] ∷ s) h
    go false h = let l = length-slice_split (λ b. eqb b 32) r in onto_is x (slice_split (λ b. eqb b 32) r) (omega (arith, l)) ∙ ap (onto x) h
