-- Values at the places of a line, and what is left behind expected ones. Assumes nothing.
use Rattle.std.proofs.Common.{map-id, ◌≡◌, refl, sym, ap, ◌∙◌, Bool, true, false, ℕ, zero, suc, ◌+◌, ◌-◌, ◌<◌, ◌≤◌, eqb, List, [], ◌∷◌, ◌++◌, map, length, get_or, take, drop, set, arith}
use Rattle.std.specs.Prelude.{Option, Some, None, option_and_then, cond}
use Rattle.std.proofs.lemmas.List.{drop_all}
use borrow.Author.Tests.{eq-eqb, ne_eqb}
use lib.Seq.{take_all, drop-cons, take-suc-set}
use native.Mathlib.Numerals.{add-one}
use native.Mathlib.Nat.{zero-add, add-zero}
use Rattle.vectors.specs.Code.Lines.{from_place, strip}

module _ {A : Type 0} (f : ℕ → A) where
  -- n places more and one
  from_place_more : (i n : ℕ) → from_place f i (suc n) ≡ from_place f i n ++ (f (i + n) ∷ [])
  unfolding from_place
  from_place_more i zero = rw (add-zero i)
  from_place_more i (suc n) =
      let e : i + 1 + n ≡ i + suc n = omega arith in
      ap (λ (l : List A). f i ∷ l) (from_place_more (i + 1) n ∙ rw e)

  -- a loop that fills: one turn, and the end
  module _ (x : List A) (k : ℕ) where
    pub fill_next : {v : A} → k < length x → v ≡ f k → take k x ≡ from_place f 0 k → take (k + 1) (set x k v) ≡ from_place f 0 (k + 1)
    fill_next {v} h e s = rw (add-one, take-suc-set x k v h, s, from_place_more, zero-add, e)

    pub fill_end : (n : ℕ) → length x ≡ n → k ≡ n → take k x ≡ from_place f 0 k → x ≡ from_place f 0 n
    fill_end n l e s = rw (← e) (sym (take_all k x (omega arith)) ∙ s)

-- a loop that takes expected values from the front of a line: no number is left, one turn, a number that differs, and the end
module _ {A : Type 0} (f : A → ℕ) (xs : List A) (k : ℕ) (x : A) (h : k < length xs) (ex : x ≡ get_or xs k x) where
  strip_value : (ws : List ℕ) → strip (map f (drop k xs)) ws ≡ strip (f x ∷ map f (drop (k + 1) xs)) ws
  strip_value ws = rw (drop-cons xs k x h, ← ex, add-one)

  pub strip_none : (ws : List ℕ) {r : Option (List ℕ)} → length ws < 1 → strip (map f (drop k xs)) ws ≡ r → None ≡ r
  unfolding strip
  strip_none [] l e = sym (strip_value []) ∙ e
  strip_none (w ∷ ws) l e = absurd (omega arith)

  pub strip_differs : (ws : List ℕ) {n : ℕ} {r : Option (List ℕ)} → 1 ≤ length ws → n ≡ f x → (get_or ws 0 0 ≡ n → ⊥) → strip (map f (drop k xs)) ws ≡ r → None ≡ r
  unfolding strip
  strip_differs [] l p d e = absurd (omega arith)
  strip_differs (w ∷ ws) l p d e = rw (ne_eqb (f x) w (λ q. d (sym q ∙ sym p))) at (sym (strip_value (w ∷ ws)) ∙ e)

  pub strip_next : (ws : List ℕ) {n : ℕ} {r : Option (List ℕ)} → 1 ≤ length ws → n ≡ f x → get_or ws 0 0 ≡ n → strip (map f (drop k xs)) ws ≡ r
      → strip (map f (drop (k + 1) xs)) (take (length ws - 1) (drop 1 ws)) ≡ r
  unfolding strip
  strip_next [] l p d e = absurd (omega arith)
  strip_next (w ∷ ws) {n} {r} l p d e =
      let e' : cond (eqb (f x) w) (strip (map f (drop (k + 1) xs)) ws) None ≡ r = sym (strip_value (w ∷ ws)) ∙ e in
      ap (strip (map f (drop (k + 1) xs))) (take_all (length (w ∷ ws) - 1) ws (omega arith)) ∙ rw (eq-eqb (f x) w (sym p ∙ sym d)) at e'

pub strip_end : {A : Type 0} (f : A → ℕ) (xs : List A) (k : ℕ) (ws : List ℕ) {r : Option (List ℕ)} → length xs ≤ k → strip (map f (drop k xs)) ws ≡ r → Some ws ≡ r
unfolding strip
strip_end f xs k ws h e = rw (drop_all k xs h) at e

-- numbers behind which a line goes on, as themselves
pub strip_words : (expected ws : List ℕ) → strip (map (λ (n : ℕ). n) expected) ws ≡ strip expected ws
strip_words expected ws = ap (λ (l : List ℕ). strip l ws) (map-id expected)

-- two lists, one behind the other
pub strip_both : (a b ws : List ℕ) → strip (a ++ b) ws ≡ option_and_then (strip b) (strip a ws)
unfolding strip
strip_both [] b ws = refl
strip_both (x ∷ a) b [] = refl
strip_both (x ∷ a) b (w ∷ ws) = elim (eqb x w) as (λ (t : Bool). cond t (strip (a ++ b) ws) None ≡ option_and_then (strip b) (cond t (strip a ws) None)) [ true ↦ strip_both a b ws | false ↦ refl ]

-- a number, and what is expected behind it
pub strip_first : (n : ℕ) (e ws : List ℕ) → strip (n ∷ e) ws ≡ option_and_then (strip e) (strip (n ∷ []) ws)
strip_first n e ws = strip_both (n ∷ []) e ws
