-- The upper part of the correlation sums: each place makes the sums over one place more, and the mirror image is the whole.
use mathlib.Core.Path.{◌≡◌, ap, sym, ◌∙◌}
use mathlib.Core.List.{List, []}
use Prim.Native.Nat.{ℕ, ◌+◌, ◌-◌, ◌/◌, ◌%◌, ◌≤◌, ◌<◌}
use native.Mathlib.Omega.{arith}
use native.Mathlib.Decide.{dec_lt}
use lib.IntN.{pos}
use lib.Ieee.{Float, nan, binary64, of_int}
use borrow.Author.Tests.{lt-ltb, le-ltb}
use Rattle.std.proofs.Common.{replicate}
use Rattle.std.proofs.lemmas.List.{get_or-replicate}
use Rattle.ieee754.specs.Binary64 as float
use Rattle.sums.specs.declared.complex.Complex.{Complex}
use Rattle.sums.specs.Ascending.{sum_from}
use Rattle.sums.specs.Complex.{Cx, zero_c, add_c, mul_c, div_c, conj}
use Rattle.sums.specs.Interleaved.{at}
use Rattle.sums.specs.Code.Numbers.{number, parts}
use Rattle.sums.proofs.Adding.{sum_next}
use Rattle.sums.proofs.Tables.{table_same}
use Rattle.estimate_correlation.specs.Correlation.{lag_sum, correlation_matrix}
use Rattle.estimate_correlation.specs.Code.Matrices.{matrix}
use Rattle.estimate_correlation.specs.Code.RunningSums.{Latest, UpperSums, row_of, turned, mirrored, lag_product}
use Rattle.sequences.proofs.Choices.{cond_yes, cond_no}
use Rattle.estimate_correlation.proofs.MirrorLaw.{lag_mirrored}

-- ---- no place, and one place more

pub upper_none : (xs : List Float) → UpperSums xs 0 (replicate 10 (replicate 10 (record { re = float.zero; im = float.zero })))
unfolding sum_from
upper_none xs i j le lt =
    let z : Complex = record { re = float.zero; im = float.zero } in
    let none : Complex = record { re = nan; im = nan } in
    let row : row_of (replicate 10 (replicate 10 z)) i ≡ replicate 10 z = get_or-replicate 10 i (replicate 10 z) [] (omega arith) in
    ap (λ (r : List Complex). number r j) row ∙ ap parts (get_or-replicate 10 j z none lt)

module _ (xs : List Float) (k : ℕ) (s t : List (List Complex)) (w : List Complex) where
  pub upper_next : UpperSums xs k s → Latest xs (k + 9 + 1) w
      → ((i j : ℕ) → i ≤ j → j < 10 → number (row_of t i) j ≡ add_c binary64 (number (row_of s i) j) (mul_c binary64 (number w i) (conj (number w j))))
      → UpperSums xs (k + 1) t
  upper_next u l a i j le lt = a i j le lt ∙ sum_next (add_c binary64) (zero_c binary64) (lag_product xs i j) k (u i j le lt) term
    where
      lag : (i : ℕ) → i < 10 → number w i ≡ at xs (k + 9 - i)
      lag i h = let e : k + 9 + 1 - 1 - i ≡ k + 9 - i = omega arith in l i (omega arith) h ∙ ap (at xs) e

      term : mul_c binary64 (number w i) (conj (number w j)) ≡ lag_product xs i j k
      term = ap (λ (c : Cx). mul_c binary64 c (conj (number w j))) (lag i (omega arith)) ∙ ap (λ (c : Cx). mul_c binary64 (at xs (k + 9 - i)) (conj c)) (lag j lt)

-- ---- the whole from its upper part

-- an entry comes from its row and those above it
pub mirrored_same : (s t : List (List Complex)) (i j : ℕ) → ((k : ℕ) → k ≤ i → row_of s k ≡ row_of t k) → mirrored s i j ≡ mirrored t i j
mirrored_same s t i j same = by (dec_lt j i)
  where
    by : Dec (j < i) → mirrored s i j ≡ mirrored t i j
    by (yes lt) = let e = lt-ltb j i lt in cond_yes _ _ e ∙ ap (λ (r : List Complex). ((number r i).0, turned (number r i).1)) (same j (omega arith)) ∙ sym (cond_yes _ _ e)
    by (no ge) = let e = le-ltb j i (omega arith) in cond_no _ _ e ∙ ap (λ (r : List Complex). number r j) (same i (omega arith)) ∙ sym (cond_no _ _ e)

module _ (xs : List Float) (l : ℕ) (s : List (List Complex)) (u : UpperSums xs l s) where
  pub mirrored_is : (i j : ℕ) → i < 10 → j < 10 → mirrored s i j ≡ lag_sum xs l i j
  mirrored_is i j hi hj = by (dec_lt j i)
    where
      by : Dec (j < i) → mirrored s i j ≡ lag_sum xs l i j
      by (yes lt) = cond_yes _ _ (lt-ltb j i lt) ∙ ap (λ (c : Cx). (c.0, turned c.1)) (u j i (omega arith) hi) ∙ sym (lag_mirrored xs l j i)
      by (no ge) = cond_no _ _ (le-ltb j i (omega arith)) ∙ u i j (omega arith) hj

  pub matrix_is : (m : List (List Complex)) {n : Float} → n ≡ of_int binary64 (pos l)
      → ((i j : ℕ) → i < 10 → j < 10 → number (row_of m i) j ≡ div_c binary64 (mirrored s i j) n) → matrix m ≡ correlation_matrix xs l
  unfolding correlation_matrix
  matrix_is m {n} en each =
      table_same 100 _ _ (λ p h.
      each (p / 10) (p % 10) (omega arith) (omega arith)
      ∙ ap (λ (c : Cx). div_c binary64 c n) (mirrored_is (p / 10) (p % 10) (omega arith) (omega arith))
      ∙ ap (div_c binary64 (lag_sum xs l (p / 10) (p % 10))) en)
