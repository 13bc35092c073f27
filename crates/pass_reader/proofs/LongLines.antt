-- No line in the form is longer than 32,782 bytes, its newline with them. So a line of which more has been seen, and no newline yet, can be
-- refused at once: what follows of it does not change the answer.
use mathlib.Core.Path.{◌≡◌, refl, ap, sym, ◌∙◌}
use mathlib.Core.Bool.{Bool, true, false, cond, ◌&&◌, and-false}
use mathlib.Core.List.{List, [], ◌∷◌}
use Rattle.std.specs.Prelude.{Option, Some, None, option_and_then}
use Prim.Native.Nat.{ℕ, zero, suc, ◌+◌, ◌-◌, ◌*◌, ◌%◌, ◌≤◌, ◌<◌}
use native.Mathlib.Omega.{arith}
use lib.Dec.{ltb, leb, eqb}
use lib.ListN.{length, take, drop, length-drop}
use lib.Ieee.{Float}
use lib.Seq.{length-take-le}
use borrow.Author.Tests.{ltb-true, ltb-false, lt-leb}
use Rattle.pass_reader.specs.Bytes.{same, whole_line, fields, line_fields, space}
use Rattle.pass_reader.specs.Numbers.{decimal_shape, decimal_of}
use Rattle.pass_reader.specs.Lines.{decimals, nine_values, values_line, whole_pairs, samples_of, two_fields, flag_and_samples}
use Rattle.pass_reader.specs.Code.Places.{place, longest_line}
use Rattle.pass_reader.proofs.ByteLaws.{same_eq, fields_last, fields_more, place_within}
use Rattle.pass_reader.proofs.ValuesLaws.{ahead, none_say, unequal}
use Rattle.pass_reader.proofs.NumberLaws.{unshaped}
use Rattle.pass_reader.proofs.BlockLaws.{dash, both, both_none, two_fields_lem, one_field}

-- a line that has no newline is refused whatever else it is
module _ (line : List ℕ) (e : whole_line line ≡ false) where
  pub cut_values : values_line line ≡ None
  unfolding values_line line_fields decimals nine_values
  cut_values = rw e

  pub cut_block : flag_and_samples line ≡ None
  unfolding flag_and_samples line_fields two_fields
  cut_block = rw e

-- a longer line is another line
pub long_differs : (expected line : List ℕ) → length expected < length line → same line expected ≡ false
long_differs expected line h = go (same line expected) refl
  where
    go : (b : Bool) → same line expected ≡ b → b ≡ false
    go true e = absurd (let z = ap length (same_eq line expected e) in omega arith)
    go false e = refl

-- a decimal number has at most 12 digits
long_decimal : (s : List ℕ) → 12 < length s → decimal_of s ≡ None
unfolding decimal_shape
long_decimal s h = sym (unshaped s (rw (lt-leb (length s) 12 h, and-false (leb 1 (length s)))))

-- samples have at most 2,048 pairs of 16 digits
long_samples : (t : List ℕ) → 32768 < length t → samples_of t ≡ None
unfolding samples_of whole_pairs
long_samples t h =
    let d : same t dash ≡ false = long_differs dash t (omega arith) in
    rw (d, lt-leb (length t) 32768 h, and-false (eqb (length t % 16) 0 && leb 16 (length t)))

none_both : (o : Option (List Float)) → both None o ≡ None
none_both o = refl

-- both fields of a block's line
long_two : (s : List ℕ) → 32781 < length s → two_fields (fields s) ≡ None
long_two s h = go (ltb (place space s) (length s)) refl (ltb 12 (place space s)) refl
  where
    go : (b : Bool) → ltb (place space s) (length s) ≡ b → (c : Bool) → ltb 12 (place space s) ≡ c → two_fields (fields s) ≡ None
    go false e c f = let w = place_within space s in let l : length s ≤ place space s = ltb-false _ _ e in one_field s (omega arith)
    go true e true f =
        let l : place space s < length s = ltb-true _ _ e in
        let d : 12 < place space s = ltb-true _ _ f in
        let n = length-take-le (place space s) s (omega arith) in
        two_fields_lem s l ∙ rw (long_decimal (take (place space s) s) (omega arith)) (none_both (samples_of (drop (place space s + 1) s)))
    go true e false f =
        let l : place space s < length s = ltb-true _ _ e in
        let d : place space s ≤ 12 = ltb-false _ _ f in
        let n = length-drop (place space s + 1) s in
        two_fields_lem s l ∙ rw (long_samples (drop (place space s + 1) s) (omega arith)) (sym (both_none (decimal_of (take (place space s) s))))

body_length : (line : List ℕ) → length (take (length line - 1) line) ≡ length line - 1
body_length line = length-take-le (length line - 1) line (omega arith)

pub long_block : (line : List ℕ) → longest_line < length line → flag_and_samples line ≡ None
unfolding flag_and_samples line_fields two_fields
long_block line h = go (whole_line line)
  where
    go : (b : Bool) → two_fields (cond b (fields (take (length line - 1) line)) []) ≡ None
    go true = long_two (take (length line - 1) line) (let n = body_length line in omega arith)
    go false = refl

-- decimal fields take at most 13 bytes each, the space or the end with them
short_field : (s : List ℕ) (x : ℕ) → decimal_of s ≡ Some x → length s ≤ 12
short_field s x e = go (ltb 12 (length s)) refl
  where
    go : (b : Bool) → ltb 12 (length s) ≡ b → length s ≤ 12
    go true f = absurd (let l : 12 < length s = ltb-true _ _ f in let n = long_decimal s l in let z : ◌≡◌ {A = ℕ} 0 1 = cc in omega arith)
    go false f = ltb-false _ _ f

one_short : (f : List ℕ) (r : List (List ℕ)) (v : List ℕ) (k : ℕ) → ((w : List ℕ) → decimals r ≡ Some w → k ≤ 13 * length w) → decimals (f ∷ r) ≡ Some v
    → length f + k < 13 * length v
unfolding decimals
one_short f r v k more e = go (decimal_of f) refl (decimals r) refl e
  where
    go : (o : Option ℕ) → decimal_of f ≡ o → (p : Option (List ℕ)) → decimals r ≡ p → ahead o p ≡ Some v → length f + k < 13 * length v
    go None a p b d = absurd (let z : ◌≡◌ {A = ℕ} 0 1 = cc in omega arith)
    go (Some x) a None b d = absurd (let z : ◌≡◌ {A = ℕ} 0 1 = cc in omega arith)
    go (Some x) a (Some w) b d =
        let s = short_field f x a in
        let m = more w b in
        let z : x ∷ w ≡ v = cc in
        let n : suc (length w) ≡ length v = ap length z in
        omega arith

short_by : (s v : List ℕ) → ((t w : List ℕ) → length t < length s → decimals (fields t) ≡ Some w → length t < 13 * length w)
    → decimals (fields s) ≡ Some v → length s < 13 * length v
short_by s v shorter e = go (ltb (place space s) (length s)) refl
  where
    go : (b : Bool) → ltb (place space s) (length s) ≡ b → length s < 13 * length v
    go true f =
        let l : place space s < length s = ltb-true _ _ f in
        let r = drop (suc (place space s)) s in
        let n = length-drop (suc (place space s)) s in
        let m = length-take-le (place space s) s (omega arith) in
        let q = one_short (take (place space s) s) (fields r) v (length r + 1) (λ w d. let a = shorter r w (omega arith) d in omega arith) (rw (fields_more s l) at e) in
        omega arith
    go false f =
        let w = place_within space s in
        let l : length s ≤ place space s = ltb-false _ _ f in
        let q = one_short s [] v 0 (λ w d. omega arith) (rw (fields_last s (omega arith)) at e) in
        omega arith

decimals_short : (fuel : ℕ) (s v : List ℕ) → length s ≤ fuel → decimals (fields s) ≡ Some v → length s < 13 * length v
decimals_short zero s v h e = short_by s v (λ t w l d. absurd (omega arith)) e
decimals_short (suc fuel) s v h e = short_by s v (λ t w l d. decimals_short fuel t w (omega arith) d) e

long_nine : (s : List ℕ) → 117 ≤ length s → option_and_then nine_values (decimals (fields s)) ≡ None
long_nine s h = go (decimals (fields s)) refl
  where
    go : (o : Option (List ℕ)) → decimals (fields s) ≡ o → option_and_then nine_values o ≡ None
    go None e = sym (none_say refl)
    go (Some v) e = sym (unequal v (λ n. let d = decimals_short (length s) s v (omega arith) e in omega arith))

pub long_values : (line : List ℕ) → 117 < length line → values_line line ≡ None
unfolding values_line line_fields decimals nine_values
long_values line h = go (whole_line line)
  where
    go : (b : Bool) → option_and_then nine_values (decimals (cond b (fields (take (length line - 1) line)) [])) ≡ None
    go true = long_nine (take (length line - 1) line) (let n = body_length line in omega arith)
    go false = refl
