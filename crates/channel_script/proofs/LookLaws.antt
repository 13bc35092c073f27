-- What is looked at: small letters, names by their length, and how many figures differ. Assumes nothing.
use mathlib.Core.Path.{◌≡◌, refl, ap}
use mathlib.Core.Bool.{Bool, true, false, cond}
use mathlib.Core.List.{List, [], ◌∷◌, ◌++◌, map}
use Prim.Native.Nat.{ℕ, ◌+◌, ◌-◌, ◌≤◌, ◌<◌}
use native.Mathlib.Omega.{arith}
use borrow.Author.Tests.{eq-eqb, ne_eqb, eqb-true, eqb-false}
use lib.Ieee.{Float, nan, ne, binary32}
use lib.ListN.{length, get_or}
use Rattle.ieee754.specs.Conversion.{convert}
use Rattle.sequences.specs.Folds.{some}
use Rattle.channel_model.specs.declared.Channel.{Channel}
use Rattle.channel_model.specs.Figures.{figures}
use Rattle.channel_script.specs.declared.session.Seen.{Seen}
use Rattle.channel_script.specs.declared.session.Session.{Session}
use Rattle.channel_script.specs.Code.Letters.{found, letters}
use Rattle.channel_script.specs.Code.Looking.{small, answer_names, seen_names, channel_names, figure_names, one_letter, found_in_tracker, quantity_of, rounded_for, differing}
use Rattle.std.proofs.Common.{◌∙◌, Option, Some, None, unwrap_or, eqb}
use Rattle.std.specs.Option.{option_or}
use Rattle.std.specs.List.{filter, zip}
use Rattle.channel_script.proofs.LetterLaws.{found_both, or_assoc}

-- a small letter is 32 more than its large one
same_test : (b k : ℕ) → 32 ≤ b → eqb b (k + 32) ≡ eqb (b - 32) k
same_test b k h = go (eqb (b - 32) k) refl
  where
    go : (t : Bool) → eqb (b - 32) k ≡ t → eqb b (k + 32) ≡ t
    go true e = let q = eqb-true (b - 32) k e in eq-eqb b (k + 32) (omega arith)
    go false e = ne_eqb b (k + 32) (λ q. eqb-false (b - 32) k e (omega arith))

pub small_is : (b : ℕ) (t : List (ℕ × Float)) → 32 ≤ b → found (b - 32) t ≡ found b (map small t)
unfolding found
small_is b [] h = refl
small_is b (e ∷ r) h = rw (same_test b e.0 h) (ap (λ x. cond (eqb (b - 32) e.0) (Some e.1) x) (small_is b r h))

pub small_none : (b : ℕ) (t : List (ℕ × Float)) → b < 32 → None ≡ found b (map small t)
unfolding found
small_none b [] h = refl
small_none b (e ∷ r) h = rw (ne_eqb b (e.0 + 32) (λ q. omega arith)) (small_none b r h)

-- one table after the other
pub one_letter_lem : (e : Seen) (c : Channel) (b : ℕ)
    → option_or (option_or (option_or (option_or (found b (seen_names e)) (found b (channel_names c))) (found b (figure_names (figures c) e.figures))) (found b (answer_names e.answer))) (found b (map small (answer_names e.before)))
    ≡ found b (one_letter e c)
unfolding one_letter
one_letter_lem e c b =
    rw (
      found_both b (seen_names e) (channel_names c ++ (figure_names (figures c) e.figures ++ (answer_names e.answer ++ map small (answer_names e.before)))),
      found_both b (channel_names c) (figure_names (figures c) e.figures ++ (answer_names e.answer ++ map small (answer_names e.before))),
      found_both b (figure_names (figures c) e.figures) (answer_names e.answer ++ map small (answer_names e.before)),
      found_both b (answer_names e.answer) (map small (answer_names e.before)),
    )
    (or_assoc (option_or (option_or (found b (seen_names e)) (found b (channel_names c))) (found b (figure_names (figures c) e.figures))) (found b (answer_names e.answer)) (found b (map small (answer_names e.before)))
    ∙ or_assoc (option_or (found b (seen_names e)) (found b (channel_names c))) (found b (figure_names (figures c) e.figures)) _
    ∙ or_assoc (found b (seen_names e)) (found b (channel_names c)) _)

-- a name of one letter, of two, and of neither
pub one_named : (s : Session) (name : List ℕ) {o : Option Float} → length name ≡ 1 → o ≡ found (get_or name 0 0) (one_letter s.seen s.channel) → unwrap_or o nan ≡ quantity_of s name
unfolding quantity_of
one_named s [] h e = absurd (omega arith)
one_named s (b ∷ []) h e = ap (λ (x : Option Float). unwrap_or x nan) e
one_named s (a ∷ b ∷ r) h e = absurd (omega arith)

pub two_named : (s : Session) (name : List ℕ) {o : Option Float} → length name ≡ 2 → o ≡ found_in_tracker s.channel (get_or name 0 0) (get_or name 1 0) → unwrap_or o nan ≡ quantity_of s name
unfolding quantity_of
two_named s [] h e = absurd (omega arith)
two_named s (b ∷ []) h e = absurd (omega arith)
two_named s (a ∷ b ∷ []) h e = ap (λ (x : Option Float). unwrap_or x nan) e
two_named s (a ∷ b ∷ d ∷ r) h e = absurd (omega arith)

pub not_named : (s : Session) (name : List ℕ) → (length name ≡ 1 → ⊥) → (length name ≡ 2 → ⊥) → nan ≡ quantity_of s name
unfolding quantity_of
not_named s [] h k = refl
not_named s (b ∷ []) h k = absurd (h refl)
not_named s (a ∷ b ∷ []) h k = absurd (k refl)
not_named s (a ∷ b ∷ d ∷ r) h k = refl

-- how many figures differ, as the library counts pairs
pub differing_is : (f g : List Float) → length (filter (λ p. ne p.0 p.1) (zip f g)) ≡ differing f g
unfolding differing
differing_is [] g = refl
differing_is (x ∷ f) [] = refl
differing_is (x ∷ f) (y ∷ g) = go (ne x y) (differing_is f g)
  where
    go : (m : Bool) → length (filter (λ p. ne p.0 p.1) (zip f g)) ≡ differing f g → length (cond m ((x, y) ∷ filter (λ p. ne p.0 p.1) (zip f g)) (filter (λ p. ne p.0 p.1) (zip f g))) ≡ cond m 1 0 + differing f g
    go true h = omega (arith, h)
    go false h = omega (arith, h)

-- what is expected of a name's number
pub rounded_yes : (name : List ℕ) (v : Float) → length name ≡ 1 → some (eqb (get_or name 0 0)) (letters "XYA") ≡ true → convert binary32 v ≡ rounded_for name v
unfolding rounded_for
rounded_yes [] v h e = absurd (omega arith)
rounded_yes (b ∷ []) v h e = rw e
rounded_yes (a ∷ b ∷ r) v h e = absurd (omega arith)

pub rounded_no : (name : List ℕ) (v : Float) → length name ≡ 1 → some (eqb (get_or name 0 0)) (letters "XYA") ≡ false → v ≡ rounded_for name v
unfolding rounded_for
rounded_no [] v h e = refl
rounded_no (b ∷ []) v h e = rw e
rounded_no (a ∷ b ∷ r) v h e = refl

pub rounded_other : (name : List ℕ) (v : Float) → (length name ≡ 1 → ⊥) → v ≡ rounded_for name v
unfolding rounded_for
rounded_other [] v h = refl
rounded_other (b ∷ []) v h = absurd (h refl)
rounded_other (a ∷ b ∷ r) v h = refl
