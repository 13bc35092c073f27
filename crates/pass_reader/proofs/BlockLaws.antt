-- Laws of the line of a block: its components group by group, and what its two fields say.
use mathlib.Core.Path.{◌≡◌, refl, ap, sym, ◌∙◌}
use mathlib.Core.Bool.{Bool, true, false, cond, ◌&&◌, and-false}
use mathlib.Core.List.{List, [], ◌∷◌, ◌++◌, append_assoc, append-nil, map, map-append}
use Rattle.std.specs.Prelude.{Option, Some, None, option_map, option_and_then}
use Prim.Native.Nat.{ℕ, zero, suc, ◌+◌, ◌-◌, ◌*◌, ◌/◌, ◌%◌, ◌≤◌, ◌<◌}
use native.Mathlib.Numerals.{add-one}
use native.Mathlib.Omega.{arith}
use lib.Dec.{eqb, leb, ltb}
use lib.ListN.{length, get_or, take, drop, set, take-append-drop, length-map}
use lib.Seq.{drop-cons, drop-drop, take-suc, take-suc-set, take-length, take_all, length-take-le, set_at, append_snoc}
use lib.Ieee.{Float, nan, binary32, of_bits}
use borrow.Author.Tests.{ne_eqb, eqb-true, leb-true, ltb-true, ltb-false}
use Rattle.sequences.specs.Folds.{every}
use Rattle.pass_reader.specs.Bytes.{bytes, same, fields, space}
use Rattle.pass_reader.specs.Numbers.{digit_value, is_digit, number_of, decimal_of}
use Rattle.pass_reader.specs.Lines.{bits_of, whole_pairs, samples_of, two_fields}
use Rattle.pass_reader.specs.Code.Places.{place}
use Rattle.pass_reader.specs.Code.Answers.{read_into, samples_into}
use Rattle.std.proofs.lemmas.Bool.{and_parts}
use Rattle.pass_reader.proofs.ByteLaws.{same_eq, fields_last, fields_more, some_field, place_within}
use Rattle.pass_reader.proofs.NumberLaws.{number_digits, no_number}

-- whole pairs
module _ (t : List ℕ) (e : whole_pairs t ≡ true) where
  pub whole_groups : 8 * (length t / 8) ≡ length t
  unfolding whole_pairs
  whole_groups = let z : length t % 16 ≡ 0 = eqb-true _ _ (and_parts (eqb (length t % 16) 0) _ (and_parts (eqb (length t % 16) 0 && leb (16 * 1) (length t)) _ e).0).0 in omega arith

  pub few_groups : length t / 8 ≤ 4096
  unfolding whole_pairs
  few_groups = let z : length t ≤ 16 * 2048 = leb-true _ _ (and_parts (eqb (length t % 16) 0 && leb (16 * 1) (length t)) _ e).1 in omega arith

-- groups of eight digits
every_append : (p : ℕ → Bool) (a b : List ℕ) → every p (a ++ b) ≡ (every p a && every p b)
unfolding every
every_append p [] b = refl
every_append p (x ∷ a) b = go (p x) (every_append p a b)
  where
    go : (t : Bool) → every p (a ++ b) ≡ (every p a && every p b) → (t && every p (a ++ b)) ≡ (t && every p a && every p b)
    go true e = e
    go false e = refl

pub length_bits : (n : ℕ) (t : List ℕ) → length (bits_of n t) ≡ n
unfolding bits_of
length_bits zero t = refl
length_bits (suc n) t = ap suc (length_bits n (drop 8 t))

module _ (t : List ℕ) (i : ℕ) where
  split : every (is_digit 16) (drop (8 * i) t) ≡ (every (is_digit 16) (take 8 (drop (8 * i) t)) && every (is_digit 16) (drop (8 * (i + 1)) t))
  split =
      let b : 8 * (i + 1) ≡ 8 * i + 8 = omega arith in
      ap (every (is_digit 16)) (sym (take-append-drop 8 (drop (8 * i) t))) ∙ every_append (is_digit 16) (take 8 (drop (8 * i) t)) (drop 8 (drop (8 * i) t)) ∙ rw (b, drop-drop 8 (8 * i) t)

  -- `&t[8 * i..8 * i + 8]`
  pub group_of : number_of 16 (take (8 * i + 8 - 8 * i) (drop (8 * i) t)) ≡ number_of 16 (take 8 (drop (8 * i) t))
  group_of = let e : 8 * i + 8 - 8 * i ≡ 8 = omega arith in rw e

  pub group_stops : None ≡ number_of 16 (take 8 (drop (8 * i) t)) → every (is_digit 16) (drop (8 * i) t) ≡ false
  group_stops e = split ∙ rw (no_number 16 _ e)

  pub group_goes_on : (v : ℕ) → Some v ≡ number_of 16 (take 8 (drop (8 * i) t)) → every (is_digit 16) (drop (8 * (i + 1)) t) ≡ every (is_digit 16) (drop (8 * i) t)
  group_goes_on v e = sym (split ∙ rw (number_digits 16 _ v e).0)

  pub bits_more : (n v : ℕ) (bits : List ℕ) → i < n → i < length bits → Some v ≡ number_of 16 (take 8 (drop (8 * i) t))
      → bits_of n t ≡ take i bits ++ bits_of (n - i) (drop (8 * i) t)
      → bits_of n t ≡ take (i + 1) (set bits i v) ++ bits_of (n - (i + 1)) (drop (8 * (i + 1)) t)
  unfolding bits_of
  bits_more n v bits h k e d =
      let a : n - i ≡ suc (n - (i + 1)) = omega arith in
      let b : 8 * (i + 1) ≡ 8 * i + 8 = omega arith in
      let u = (number_digits 16 _ v e).1 in
      d ∙ rw (a, b, ← drop-drop 8 (8 * i) t, add-one, take-suc-set bits i v k, append_assoc, u)

pub bits_start : (n : ℕ) (t : List ℕ) → bits_of n t ≡ bits_of (n - 0) t
bits_start n t = let e : n - 0 ≡ n = omega arith in rw e

pub bits_end : (n i : ℕ) (t bits : List ℕ) → length bits ≡ n → i ≤ n → n ≤ i → bits_of n t ≡ take i bits ++ bits_of (n - i) (drop (8 * i) t) → bits ≡ bits_of n t
unfolding bits_of
bits_end n i t bits l h k d =
    let a : n - i ≡ 0 = omega arith in
    sym (d ∙ rw (a, append-nil) (take_all i bits (omega arith)))

-- components laid over the front of a buffer
pub laid_more : (bits : List ℕ) (old : List Float) (i : ℕ) → i < length bits → i < length old
    → set (map (of_bits binary32) (take i bits) ++ drop i old) i (of_bits binary32 (get_or bits i 0)) ≡ map (of_bits binary32) (take (i + 1) bits) ++ drop (i + 1) old
laid_more bits old i h k =
    let f = of_bits binary32 in
    let n : length (map f (take i bits)) ≡ i = length-map (take i bits) f ∙ length-take-le i bits (omega arith) in
    rw (add-one, take-suc bits i 0 h, map-append, drop-cons old i nan k, set_at (map f (take i bits)) (get_or old i nan) (drop (suc i) old) (f (get_or bits i 0)) i n, append_snoc)

pub laid_done : (bits : List ℕ) (old : List Float) (i : ℕ) → i ≡ length bits
    → map (of_bits binary32) (take i bits) ++ drop i old ≡ map (of_bits binary32) bits ++ drop (length bits) old
laid_done bits old i e = rw (e, take-length)

-- `-`
abbrev pub dash : List ℕ
dash = bytes "-"

-- a flag and samples, if both are in the form
abbrev pub both : Option ℕ → Option (List Float) → Option (ℕ × List Float)
both o s = option_and_then (λ flag. option_map (λ l. (flag, l)) s) o

-- what samples say
module _ (t : List ℕ) (old : List Float) where
  pub samples_said : (bits : List ℕ) {new : List Float} → same t dash ≡ false → whole_pairs t ≡ true → every (is_digit 16) t ≡ true
      → bits ≡ bits_of (length t / 8) t
      → new ≡ map (of_bits binary32) bits ++ drop (length bits) old
      → (Some (length bits), new) ≡ samples_into (samples_of t) old
  unfolding samples_into samples_of
  samples_said bits {new} e w d b n =
      let l : length (map (of_bits binary32) (bits_of (length t / 8) t)) ≡ length t / 8 = length-map (bits_of (length t / 8) t) (of_bits binary32) ∙ length_bits (length t / 8) t in
      rw (e, w, d, l, n, b, length_bits)

dash_plain : place space dash < length dash → ⊥
unfolding place
dash_plain h = omega arith

-- a text with a space holds no samples
spaced_digits : (t : List ℕ) → place space t < length t → every (is_digit 16) t ≡ false
unfolding place every is_digit digit_value
spaced_digits [] h = absurd (omega arith)
spaced_digits (c ∷ r) h = go (eqb c space) refl h (λ l. spaced_digits r l)
  where
    go : (t : Bool) → eqb c space ≡ t → cond t 0 (suc (place space r)) < suc (length r) → (place space r < length r → every (is_digit 16) r ≡ false)
        → (is_digit 16 c && every (is_digit 16) r) ≡ false
    go true e h more = let z : c ≡ 32 = eqb-true _ _ e in rw z
    go false e h more = rw (more (omega arith)) (and-false (is_digit 16 c))

spaced_none : (t : List ℕ) → place space t < length t → samples_of t ≡ None
unfolding samples_of
spaced_none t h = go (same t dash) refl
  where
    go : (b : Bool) → same t dash ≡ b → cond b (Some []) (cond (whole_pairs t && every (is_digit 16) t) (Some (map (of_bits binary32) (bits_of (length t / 8) t))) None) ≡ None
    go true e = absurd (dash_plain (rw (same_eq t dash e) at h))
    go false e = rw (spaced_digits t h, and-false)

pub both_none : (o : Option ℕ) → None ≡ both o None
both_none None = refl
both_none (Some n) = refl

-- what two fields say, by the place of the first space
module _ (s : List ℕ) (h : place space s < length s) where
  second : (t : List ℕ) (f : List ℕ) → two_fields (f ∷ fields t) ≡ both (decimal_of f) (samples_of t)
  unfolding two_fields
  second t f = go (ltb (place space t) (length t)) refl
    where
      go : (b : Bool) → ltb (place space t) (length t) ≡ b → two_fields (f ∷ fields t) ≡ both (decimal_of f) (samples_of t)
      go true e =
          let l : place space t < length t = ltb-true _ _ e in
          let n : eqb (length (f ∷ fields t)) 2 ≡ false = ne_eqb _ _ (λ (q : length (f ∷ fields t) ≡ 2). let z = ap length (fields_more t l ∙ ap (λ r. take (place space t) t ∷ r) (some_field (drop (suc (place space t)) t))) in omega arith) in
          rw (n, spaced_none t l) (both_none (decimal_of f))
      go false e = let w = place_within space t in let l : length t ≤ place space t = ltb-false _ _ e in rw (fields_last t (omega arith))

  pub two_fields_lem : two_fields (fields s) ≡ both (decimal_of (take (place space s) s)) (samples_of (drop (place space s + 1) s))
  two_fields_lem = rw (fields_more s h, add-one) (second (drop (suc (place space s)) s) (take (place space s) s))

-- one field alone
pub one_field : (s : List ℕ) → place space s ≡ length s → two_fields (fields s) ≡ None
unfolding two_fields
one_field s e = rw (fields_last s e)

-- what a line's two fields say, by the place of the first space
module _ (s : List ℕ) (r : ℕ) (old : List Float) (e : r ≡ place space s) where
  pub one_field_said : r ≡ length s → (None, old) ≡ read_into (two_fields (fields s)) old
  unfolding read_into
  one_field_said h = rw (one_field s (sym e ∙ h))

  pub no_flag_said : r < length s → None ≡ decimal_of (take r s) → (None, old) ≡ read_into (two_fields (fields s)) old
  unfolding read_into
  no_flag_said h d = rw (two_fields_lem s (omega arith), ← e, ← d)

  pub no_samples_said : r < length s → {o : Option ℕ} {new : List Float} → (o, new) ≡ samples_into (samples_of (drop (r + 1) s)) old → o ≡ None
      → (None, new) ≡ read_into (two_fields (fields s)) old
  unfolding read_into samples_into
  no_samples_said h {o} {new} q n = let k = rw n at q in rw (two_fields_lem s (omega arith), ← e) (go (decimal_of (take r s)) (samples_of (drop (r + 1) s)) k)
    where
      go : (o : Option ℕ) (p : Option (List Float)) → (None, new) ≡ samples_into p old → (None, new) ≡ read_into (both o p) old
      go None None k = ap (λ (x : Option ℕ × List Float). (None, x.1)) k
      go (Some n) None k = ap (λ (x : Option ℕ × List Float). (None, x.1)) k
      go o (Some l) k = absurd (let q = ap (λ (x : Option ℕ × List Float). x.0) k in let z : ◌≡◌ {A = ℕ} 0 1 = cc in omega arith)

  pub both_said : r < length s → {flag count : ℕ} {o : Option ℕ} {new : List Float} → Some flag ≡ decimal_of (take r s)
      → (o, new) ≡ samples_into (samples_of (drop (r + 1) s)) old → o ≡ Some count → (Some (flag, count), new) ≡ read_into (two_fields (fields s)) old
  unfolding read_into samples_into
  both_said h {flag} {count} {o} {new} d q n = let k = rw n at q in rw (two_fields_lem s (omega arith), ← e, ← d) (go (samples_of (drop (r + 1) s)) k)
    where
      go : (p : Option (List Float)) → (Some count, new) ≡ samples_into p old → (Some (flag, count), new) ≡ read_into (both (Some flag) p) old
      go None k = absurd (let q = ap (λ (x : Option ℕ × List Float). x.0) k in let z : ◌≡◌ {A = ℕ} 0 1 = cc in omega arith)
      go (Some l) k = ap (λ (x : Option ℕ × List Float). (option_map (λ n. (flag, n)) x.0, x.1)) k
