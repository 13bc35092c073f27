-- The numbers of a vector and of a matrix of the program stand in their lists, and the sums over them are those of the definitions.
use Rattle.std.proofs.Common.{◌≡◌, ℕ, ◌+◌, ◌*◌, ◌/◌, ◌%◌, ◌<◌, List, [], get_or, ap, sym, ◌∙◌, arith, drop, take, replicate, get_or-take, get_or-drop}
use Rattle.std.proofs.lemmas.List.{get_or-replicate}
use lib.Ieee.{Float, nan, binary64, add}
use Rattle.ieee754.specs.Binary64.{zero, one}
use Rattle.ieee754.specs.SquareRoot.{sqrt}
use Rattle.sums.specs.declared.complex.Complex.{Complex}
use Rattle.sums.specs.Ascending.{sum_from, sum_to}
use Rattle.sums.specs.Complex.{Cx, zero_c, add_c, mul_c, div_c, conj, norm_sqr}
use Rattle.sums.specs.Interleaved.{at}
use Rattle.sums.specs.Code.Numbers.{parts, number}
use Rattle.sums.proofs.Adding.{sum_same}
use Rattle.sums.proofs.Tables.{at_table, table_same}
use Rattle.estimate_correlation.specs.Code.Matrices.{matrix}
use Rattle.estimate_esprit.specs.Esprit.{matrix_times, divided_by, ones, norm, lag_one_product, energy}
use Rattle.estimate_esprit.specs.Code.Vectors.{vector}

pub at_vector : (zs : List Complex) (i : ℕ) → i < 10 → at (vector zs) i ≡ number zs i
at_vector zs i h = at_table 10 (number zs) i h

pub at_matrix : (rows : List (List Complex)) (i j : ℕ) → i < 10 → j < 10 → at (matrix rows) (10 * i + j) ≡ number (get_or rows i []) j
at_matrix rows i j hi hj =
    let row : (10 * i + j) / 10 ≡ i = omega arith in
    let column : (10 * i + j) % 10 ≡ j = omega arith in
    at_table 100 (λ p. number (get_or rows (p / 10) []) (p % 10)) (10 * i + j) (omega arith)
    ∙ ap (λ (k : ℕ). number (get_or rows k []) ((10 * i + j) % 10)) row
    ∙ ap (number (get_or rows i [])) column

-- number k of a part of a vector
pub number_take : (n : ℕ) (zs : List Complex) (k : ℕ) → k < n → number (take n zs) k ≡ number zs k
number_take n zs k h = ap parts (get_or-take n zs k (record { re = nan; im = nan }) h)

pub number_later : (zs : List Complex) (k : ℕ) → k < 9 → number (take 9 (drop 1 zs)) k ≡ number zs (k + 1)
number_later zs k h =
    let none : Complex = record { re = nan; im = nan } in
    let e : 1 + k ≡ k + 1 = omega arith in
    ap parts (get_or-take 9 (drop 1 zs) k none h ∙ get_or-drop 1 zs k none) ∙ ap (number zs) e

-- ---- a vector that a function makes

pub product_is : (rows : List (List Complex)) (u : List Complex) (v : List Complex)
    → ((i : ℕ) → i < 10 → number v i ≡ sum_to (add_c binary64) (λ j. mul_c binary64 (number (get_or rows i []) j) (number u j)) 9)
    → vector v ≡ matrix_times (matrix rows) (vector u)
unfolding matrix_times
product_is rows u v each = table_same 10 _ _ (λ i hi. each i hi ∙ same i hi)
  where
    term : (i j : ℕ) → i < 10 → j < 10 → mul_c binary64 (number (get_or rows i []) j) (number u j) ≡ mul_c binary64 (at (matrix rows) (10 * i + j)) (at (vector u) j)
    term i j hi hj =
        ap (λ (c : Cx). mul_c binary64 c (number u j)) (sym (at_matrix rows i j hi hj))
        ∙ ap (mul_c binary64 (at (matrix rows) (10 * i + j))) (sym (at_vector u j hj))

    same : (i : ℕ) → i < 10 → sum_to (add_c binary64) (λ j. mul_c binary64 (number (get_or rows i []) j) (number u j)) 9
        ≡ sum_to (add_c binary64) (λ j. mul_c binary64 (at (matrix rows) (10 * i + j)) (at (vector u) j)) 9
    same i hi =
        sum_same (add_c binary64) _ _ _ 9 (λ k l. term i (k + 1) hi (omega arith))
        ∙ ap (λ (z : Cx). sum_from (add_c binary64) z (λ j. mul_c binary64 (at (matrix rows) (10 * i + (j + 1))) (at (vector u) (j + 1))) 9) (term i 0 hi (omega arith))

pub quotient_is : (w : List Complex) (d : Float) (v : List Complex) → ((i : ℕ) → i < 10 → number v i ≡ div_c binary64 (number w i) d)
    → vector v ≡ divided_by d (vector w)
unfolding divided_by
quotient_is w d v each = table_same 10 _ _ (λ i h. each i h ∙ ap (λ (c : Cx). div_c binary64 c d) (sym (at_vector w i h)))

pub ones_are : vector (replicate 10 (record { re = one; im = zero })) ≡ ones
unfolding ones
ones_are = table_same 10 _ _ (λ i h. ap parts (get_or-replicate 10 i (record { re = one; im = zero }) (record { re = nan; im = nan }) h))

-- ---- sums over a vector

pub energy_is : (u : List Complex) → sum_from (add binary64) (lib.Ieee.of_bits binary64 0) (λ i. norm_sqr binary64 (number u i)) 9 ≡ energy (vector u)
unfolding energy
energy_is u = sum_same (add binary64) _ _ _ 9 (λ i h. ap (norm_sqr binary64) (sym (at_vector u i (omega arith))))

pub lag_one_is : (u : List Complex)
    → sum_from (add_c binary64) (zero_c binary64) (λ i. mul_c binary64 (conj (number u i)) (number u (i + 1))) 9 ≡ lag_one_product (vector u)
unfolding lag_one_product
lag_one_is u =
    sum_same (add_c binary64) _ _ _ 9 (λ i h.
    ap (λ (c : Cx). mul_c binary64 (conj c) (number u (i + 1))) (sym (at_vector u i (omega arith)))
    ∙ ap (mul_c binary64 (conj (at (vector u) i))) (sym (at_vector u (i + 1) (omega arith))))

pub norm_is : (w : List Complex) → sqrt binary64 (sum_to (add binary64) (λ i. norm_sqr binary64 (number w i)) 9) ≡ norm (vector w)
unfolding norm
norm_is w =
    let term : (i : ℕ) → i < 10 → norm_sqr binary64 (number w i) ≡ norm_sqr binary64 (at (vector w) i) = λ i h. ap (norm_sqr binary64) (sym (at_vector w i h)) in
    ap (sqrt binary64)
    (sum_same (add binary64) _ _ _ 9 (λ k l. term (k + 1) (omega arith))
    ∙ ap (λ (z : Float). sum_from (add binary64) z (λ k. norm_sqr binary64 (at (vector w) (k + 1))) 9) (term 0 (omega arith)))
