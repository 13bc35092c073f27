-- A polynomial's value by Horner's rule, in the semiring of signed whole numbers: its laws then show that other orders of the same steps have that value.
use mathlib.Core.Path.{◌≡◌, refl, sym, ap, ◌∙◌}
use mathlib.Core.List.{List, [], ◌∷◌}
use Prim.Native.Nat.{ℕ, zero, suc, ◌+◌, ◌*◌, ◌^◌}
use native.Mathlib.Nat.{mul_assoc, mul_comm, suc_inj, suc-ne-zero, pow-succ', pow-zero}
use native.Mathlib.Omega.{arith}
use lib.ListN.{length}
use Rattle.elementary_cells.specs.Polynomials.{Signed, at}
use Rattle.elementary_cells.proofs.Ring.{added, times, stretched, pair, stretched_is, nat_times, times_plus, times_assoc, times_comm, times_left_comm, plus_assoc, plus_comm, plus_left_comm}
use Rattle.elementary_cells.proofs.Polynomials.{value}

-- l ^ n as a product
unfoldable pub powers : ℕ → ℕ → ℕ
powers l zero = 1
powers l (suc n) = l * powers l n

-- n coefficients, and x over l
unfoldable pub horner : ℕ → Signed → ℕ → List Signed → Signed
unfolding powers
horner l x zero cs = at 0 0
horner l x (suc n) [] = at 0 0
horner l x (suc n) (c ∷ cs) = added (stretched (powers l n) c) (times x (horner l x n cs))

pub powers_are : (l n : ℕ) → l ^ n ≡ powers l n
unfolding powers
powers_are l zero = pow-zero l
powers_are l (suc n) = pow-succ' l n ∙ ap (λ (z : ℕ). l * z) (powers_are l n)

pub value_step : (l : ℕ) (x : Signed) (n : ℕ) (c : Signed) (cs : List Signed) → value l x (suc n) (c ∷ cs) ≡ added (stretched (l ^ n) c) (times x (value l x n cs))
unfolding value added stretched times
value_step l x n c cs = pair (ap (λ (t : ℕ). t + (x.plus * (value l x n cs).plus + x.minus * (value l x n cs).minus)) (mul_comm c.plus (l ^ n))) (ap (λ (t : ℕ). t + (x.plus * (value l x n cs).minus + x.minus * (value l x n cs).plus)) (mul_comm c.minus (l ^ n)))

pub horner_value : (l : ℕ) (x : Signed) (n : ℕ) (cs : List Signed) → value l x n cs ≡ horner l x n cs
unfolding value horner
horner_value l x zero cs = refl
horner_value l x (suc n) [] = refl
horner_value l x (suc n) (c ∷ cs) =
    value_step l x n c cs ∙ ap (λ (z : ℕ). added (stretched z c) (times x (value l x n cs))) (powers_are l n) ∙ ap (λ (z : Signed). added (stretched (powers l n) c) (times x z)) (horner_value l x n cs)

-- ---- nothing, and 1
pub times_nothing : (x : Signed) → times x (at 0 0) ≡ at 0 0
unfolding times
times_nothing x = pair (go x.plus x.minus) (go x.plus x.minus)
  where
    go : (a b : ℕ) → a * 0 + b * 0 ≡ 0
    go a b = omega arith

pub plus_nothing : (x : Signed) → added x (at 0 0) ≡ x
unfolding added
plus_nothing x = pair (go x.plus) (go x.minus)
  where
    go : (a : ℕ) → a + 0 ≡ a
    go a = omega arith

pub stretched_one : (x : Signed) → stretched 1 x ≡ x
unfolding stretched
stretched_one x = pair (go x.plus) (go x.minus)
  where
    go : (a : ℕ) → 1 * a ≡ a
    go a = omega arith

pub times_one : (l : ℕ) → l * 1 ≡ l
times_one l = omega arith

-- ---- even and odd degrees apart: two polynomials of the square
unfoldable pub interleaved : List Signed → List Signed → List Signed
interleaved [] bs = bs
interleaved (a ∷ as') [] = a ∷ as'
interleaved (a ∷ as') (b ∷ bs) = a ∷ b ∷ interleaved as' bs

abbrev twice : ℕ → ℕ
twice zero = zero
twice (suc n) = suc (suc (twice n))

even_power : (l n : ℕ) → l ^ twice n ≡ (l * l) ^ n
even_power l zero = pow-zero l ∙ sym (pow-zero (l * l))
even_power l (suc n) = pow-succ' l (suc (twice n)) ∙ ap (λ (z : ℕ). l * z) (pow-succ' l (twice n) ∙ ap (λ (z : ℕ). l * z) (even_power l n)) ∙ sym (mul_assoc l l ((l * l) ^ n)) ∙ sym (pow-succ' (l * l) n)

pub even_and_odd : (l : ℕ) (x : Signed) (n : ℕ) (es os : List Signed) → length es ≡ n → length os ≡ n
    → value l x (twice n) (interleaved es os) ≡ added (stretched l (value (l * l) (times x x) n es)) (times x (value (l * l) (times x x) n os))
unfolding interleaved
even_and_odd l x zero es os h i = unfold value in sym (none l x)
  where
    none : (l : ℕ) (x : Signed) → added (stretched l (at 0 0)) (times x (at 0 0)) ≡ at 0 0
    none l x = simp (times_nothing, stretched_is, plus_nothing)
even_and_odd l x (suc n) [] os h i = absurd (suc-ne-zero n (sym h))
even_and_odd l x (suc n) (e ∷ es) [] h i = absurd (suc-ne-zero n (sym i))
even_and_odd l x (suc n) (e ∷ es) (o ∷ os) h i =
    let p : ℕ = (l * l) ^ n in
    let u : Signed = value (l * l) (times x x) n es in
    let v : Signed = value (l * l) (times x x) n os in
    let q : l ^ twice n ≡ p = even_power l n in
    value_step l x (suc (twice n)) e (o ∷ interleaved es os)
    ∙ ap (λ (z : ℕ). added (stretched z e) (times x (value l x (suc (twice n)) (o ∷ interleaved es os)))) (pow-succ' l (twice n) ∙ ap (λ (z : ℕ). l * z) q)
    ∙ ap (λ (z : Signed). added (stretched (l * p) e) (times x z))
    (value_step l x (twice n) o (interleaved es os) ∙ ap (λ (z : ℕ). added (stretched z o) (times x (value l x (twice n) (interleaved es os)))) q ∙ ap (λ (z : Signed). added (stretched p o) (times x z)) (even_and_odd l x n es os (suc_inj h) (suc_inj i)))
    ∙ shuffle l p x e o u v
    ∙ sym (ap (λ (z : Signed). added (stretched l z) (times x (value (l * l) (times x x) (suc n) (o ∷ os)))) (value_step (l * l) (times x x) n e es) ∙ ap (λ (z : Signed). added (stretched l (added (stretched p e) (times (times x x) u))) (times x z)) (value_step (l * l) (times x x) n o os))
  where
    shuffle : (l p : ℕ) (x e o u v : Signed)
        → added (stretched (l * p) e) (times x (added (stretched p o) (times x (added (stretched l u) (times x v))))) ≡ added (stretched l (added (stretched p e) (times (times x x) u))) (times x (added (stretched p o) (times (times x x) v)))
    shuffle l p x e o u v = simp (stretched_is, nat_times, times_plus, times_assoc, times_comm, times_left_comm, plus_assoc, plus_comm, plus_left_comm)
