-- The floor of the variances. Of one: the comparison that is false for a NaN gives Rust's `max`. Of all six: before turn i of the loop those of the
-- states below i are raised and nothing else has changed.
use Prim.Native.Nat.{ℕ, ◌+◌, ◌*◌, ◌/◌, ◌%◌, ◌≤◌, ◌<◌}
use mathlib.Core.Path.{◌≡◌, refl, sym, ap, ◌∙◌}
use mathlib.Core.Bool.{Bool, true, false, cond, ◌&&◌, ◌||◌, and-true, and-false, true≢false}
use mathlib.Core.List.{List}
use native.Mathlib.Omega.{arith}
use native.Mathlib.Nat.{le_of_lt, le_of_eq}
use lib.Dec.{ltb, eqb}
use lib.IntN.{ℤ}
use lib.ListN.{length, get_or}
use lib.Ieee.{Float, nan, inf, fin, up, down, lt, le, eq, is_nan, of_bits}
use borrow.Author.Tests.{lt-ltb, le-ltb, ltb-true, ltb-false, eqb-true, eqb-false}
use Rattle.ieee754.specs.Binary64.{ten_to_minus15}
use Rattle.ieee754.specs.Order.{maximum}
use Rattle.tracker_covariance.specs.Matrix.{at}
use Rattle.tracker_covariance.specs.Correction.{floored}
use Rattle.sequences.proofs.Choices.{cond_yes, cond_no}
use Rattle.tracker_covariance.proofs.Filling.{entries, at_place}

-- ---- one variance
-- what the tests behind `le` say of two sizes
at_most : (a b : ℕ) → ltb a b || (eqb a b && true) ≡ true → a ≤ b
at_most a b = go (ltb a b) (eqb a b) refl refl
  where
    go : (s t : Bool) → ltb a b ≡ s → eqb a b ≡ t → s || (t && true) ≡ true → a ≤ b
    go true t p q h = le_of_lt (ltb-true a b p)
    go false true p q h = le_of_eq (eqb-true a b q)
    go false false p q h = absurd (true≢false (sym h))

above : (a b : ℕ) → ltb a b || (eqb a b && true) ≡ false → b < a
above a b = go (ltb a b) (eqb a b) refl refl
  where
    go : (s t : Bool) → ltb a b ≡ s → eqb a b ≡ t → s || (t && true) ≡ false → b < a
    go true t p q h = absurd (true≢false h)
    go false true p q h = absurd (true≢false h)
    go false false p q h =
        let u : b ≤ a = ltb-false a b p in
        omega (arith, eqb-false a b q)

both_zero : (a b : ℕ) → eqb a b && (false || eqb a 0) ≡ true → b + a ≤ 0
both_zero a b = go (eqb a b) (eqb a 0) refl refl
  where
    go : (s t : Bool) → eqb a b ≡ s → eqb a 0 ≡ t → s && (false || t) ≡ true → b + a ≤ 0
    go true true p q h =
        let u : a ≡ b = eqb-true a b p in
        let w : a ≡ 0 = eqb-true a 0 q in
        omega arith
    go true false p q h = absurd (true≢false (sym h))
    go false t p q h = absurd (true≢false (sym h))

not_both_zero : (a b : ℕ) → eqb a b && (false || eqb a 0) ≡ false → 0 < b + a
not_both_zero a b = go (eqb a b) (eqb a 0) refl refl
  where
    go : (s t : Bool) → eqb a b ≡ s → eqb a 0 ≡ t → s && (false || t) ≡ false → 0 < b + a
    go true true p q h = absurd (true≢false h)
    go true false p q h = omega (arith, eqb-false a 0 q)
    go false t p q h = omega (arith, eqb-false a b p)

-- c is a number with no minus sign
keeps : (m : ℕ) (e : ℤ) (v : Float) → le (fin false m e) v ≡ true → v ≡ maximum v (fin false m e)
unfolding le lt eq is_nan
keeps m e nan h = absurd (true≢false (sym h))
keeps m e (inf true) h = absurd (true≢false (sym h))
keeps m e (inf false) h = refl
keeps m e (fin true n d) h =
    sym (cond_no _ _ (le-ltb 0 _ (both_zero (m * up e * down d) (n * up d * down e) h)))
keeps m e (fin false n d) h =
    sym (cond_no _ _ (le-ltb _ _ (at_most (m * up e * down d) (n * up d * down e) h)))

lifts : (m : ℕ) (e : ℤ) (v : Float) → le (fin false m e) v ≡ false → fin false m e ≡ maximum v (fin false m e)
unfolding le lt eq is_nan
lifts m e nan h = refl
lifts m e (inf true) h = refl
lifts m e (inf false) h = absurd (true≢false h)
lifts m e (fin true n d) h =
    sym (cond_yes _ _ (lt-ltb 0 _ (not_both_zero (m * up e * down d) (n * up d * down e) h)))
lifts m e (fin false n d) h =
    sym (cond_yes _ _ (lt-ltb _ _ (above (m * up e * down d) (n * up d * down e) h)))

pub kept : (v : Float) → le ten_to_minus15 v ≡ true → v ≡ maximum v ten_to_minus15
unfolding of_bits
kept v h = keeps _ _ v h

pub lifted : (v : Float) → le ten_to_minus15 v ≡ false → ten_to_minus15 ≡ maximum v ten_to_minus15
unfolding of_bits
lifted v h = lifts _ _ v h

-- ---- all six
-- whether place k is that of a variance
abbrev variance : ℕ → Bool
variance k = eqb (k / 6) (k % 6)

-- number k of P, raised or not
abbrev raised : List Float → Bool → ℕ → Float
raised p b k = cond b (maximum (get_or p k nan) ten_to_minus15) (get_or p k nan)

pub record Raised (p out : List Float) (i : ℕ) : Type 0 where
  pub long : length out ≡ 36
  pub at : (k : ℕ) → k < 36 → get_or out k nan ≡ raised p (variance k && ltb k (7 * i)) k

pub none : (p : List Float) → length p ≡ 36 → Raised p p 0
none p e =
    record {
      long = e;
      at = λ k l. ap (λ (b : Bool). raised p b k) (sym (ap (λ (b : Bool). variance k && b) (le-ltb k (7 * 0) (omega arith)) ∙ and-false (variance k)));
    }

-- after six turns all are raised
pub done : (p out : List Float) (i : ℕ) → i ≤ 6 → 6 ≤ i → Raised p out i → out ≡ floored p
done p out i a b h = entries _ out h.long each
  where
    each : (k : ℕ) → k < 36 → get_or out k nan ≡ cond (eqb (k / 6) (k % 6)) (maximum (at p (k / 6) (k % 6)) ten_to_minus15) (at p (k / 6) (k % 6))
    each k l =
        h.at k l
        ∙ ap (λ (b : Bool). raised p b k) (ap (λ (b : Bool). variance k && b) (lt-ltb k (7 * i) (omega arith)) ∙ and-true (variance k))
        ∙ ap (λ (x : Float). cond (variance k) (maximum x ten_to_minus15) x) (sym (at_place p k))
