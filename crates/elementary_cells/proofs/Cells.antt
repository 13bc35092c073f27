-- In a cell, the Taylor sum and the short polynomial differ by what the computed test says, over whole numbers.
use mathlib.Core.Path.{◌≡◌, sym, ap, ◌∙◌, subst}
use mathlib.Core.List.{List, [], ◌∷◌}
use Prim.Native.Nat.{ℕ, zero, suc, ◌+◌, ◌*◌, ◌^◌, ◌≤◌, ◌<◌}
use native.Mathlib.Nat.{le_of_mul-le-mul_left, mul_assoc, mul_comm, mul_left_comm, pow-succ', pow-zero, eq_of_mul-eq-mul_right, le_of_suc-le-suc, not-suc-le-zero}
use native.Mathlib.Omega.{arith}
use lib.ListN.{length}
use Rattle.elementary_cells.specs.Polynomials.{Signed, at, shift, scale}
use Rattle.elementary_cells.proofs.Norm.{difference, norm}
use Rattle.elementary_cells.proofs.Ring.{stretched, pair}
use Rattle.elementary_cells.proofs.Polynomials.{value, homogeneous, shift_value, scale_value, difference_value, norm_bounds, nothing}

-- ---- fewer coefficients than are counted
abbrev up : ℕ → ℕ → ℕ
up zero m = m
up (suc n) m = suc (up n m)

up_pow : (D n m : ℕ) → D ^ up n m ≡ D ^ m * D ^ n
up_pow D zero m = sym (ap (λ (t : ℕ). D ^ m * t) (pow-zero D) ∙ one (D ^ m))
  where
    one : (t : ℕ) → t * 1 ≡ t
    one t = omega arith
up_pow D (suc n) m = pow-succ' D (up n m) ∙ ap (λ (t : ℕ). D * t) (up_pow D n m) ∙ mul_left_comm D (D ^ m) (D ^ n) ∙ ap (λ (t : ℕ). D ^ m * t) (sym (pow-succ' D n))

pub padded : (D : ℕ) (x : Signed) (m n : ℕ) (cs : List Signed) → length cs ≤ n → value D x (up n m) cs ≡ stretched (D ^ m) (value D x n cs)
unfolding value stretched
padded D x m zero [] h = nothing D x m ∙ none (D ^ m)
  where
    none : (t : ℕ) → at 0 0 ≡ at (t * 0) (t * 0)
    none t = let e : t * 0 ≡ 0 = omega arith in rw e
padded D x m zero (c ∷ cs) h = absurd (not-suc-le-zero h)
padded D x m (suc n) [] h = none (D ^ m)
  where
    none : (t : ℕ) → at 0 0 ≡ at (t * 0) (t * 0)
    none t = let e : t * 0 ≡ 0 = omega arith in rw e
padded D x m (suc n) (c ∷ cs) h =
    rw (padded D x m n cs (le_of_suc-le-suc h), up_pow D n m)
    (pair (go c.plus (D ^ m) (D ^ n) x.plus x.minus (value D x n cs).plus (value D x n cs).minus) (go c.minus (D ^ m) (D ^ n) x.plus x.minus (value D x n cs).minus (value D x n cs).plus))
  where
    go : (c p q a b u v : ℕ) → c * (p * q) + (a * (p * u) + b * (p * v)) ≡ p * (c * q + (a * u + b * v))
    go c p q a b u v = omega arith

-- ---- there are c cells to 1, r * E is the width of one, x is from the middle of the cell k and at most s / r of its width, A is all. The coefficients t are
-- over f, those of the short polynomial, b, over w.
module _ (c r s E A k : ℕ) (x : Signed) (above : 0 < E) (is : A + x.minus ≡ k * (r * E) + x.plus) (small : x.plus + x.minus ≤ s * E) (n f w : ℕ) (t b : List Signed) (long : length (scale c (suc n) t) ≤ suc n) where
  abbrev T : Signed
  T = value (c * (r * E)) (at A 0) (suc n) t

  abbrev B : Signed
  B = value (c * (r * E)) x (suc n) b

  abbrev N : ℕ
  N = norm r s (suc n) (difference w f (shift k (scale c (suc n) t)) (scale c (suc n) b))

  pub record Apart (g : ℕ) : Type 0 where
    pub under : w * T.plus + f * B.minus ≤ w * T.minus + f * B.plus + E ^ n * g
    pub over : w * T.minus + f * B.plus ≤ w * T.plus + f * B.minus + E ^ n * g

  pub near_short : Apart N
  near_short =
      let ds : List Signed = difference w f (shift k (scale c (suc n) t)) (scale c (suc n) b) in
      let m = norm_bounds r s E x small (suc n) ds in
      let e = difference_value w f (r * E) x (suc n) (shift k (scale c (suc n) t)) (scale c (suc n) b) in
      let s = shift_value (r * E) A k x is (suc n) (scale c (suc n) t) long in
      let e' = scale_value c (r * E) x (suc n) b in
      let s' = scale_value c (r * E) (at A 0) (suc n) t in
      let S : Signed = value (r * E) x (suc n) (shift k (scale c (suc n) t)) in
      let q : S.plus + T.minus ≡ S.minus + T.plus = subst (λ (z : Signed). S.plus + z.minus ≡ S.minus + z.plus) s' s in
      let u : E * (w * S.plus + f * B.minus) ≤ E * (w * S.minus + f * B.plus) + E ^ suc n * N =
      subst (λ (z : Signed). E * (w * S.plus + f * z.minus) ≤ E * (w * S.minus + f * z.plus) + E ^ suc n * N) e' (subst (λ (z : Signed). E * z.plus ≤ E * z.minus + E ^ suc n * N) e m.under) in
      let o : E * (w * S.minus + f * B.plus) ≤ E * (w * S.plus + f * B.minus) + E ^ suc n * N =
      subst (λ (z : Signed). E * (w * S.minus + f * z.plus) ≤ E * (w * S.plus + f * z.minus) + E ^ suc n * N) e' (subst (λ (z : Signed). E * z.minus ≤ E * z.plus + E ^ suc n * N) e m.over) in
      record {
        under = go E w f (E ^ n) (E ^ suc n) S.plus S.minus T.plus T.minus B.plus B.minus N above (pow-succ' E n) q u;
        over = go E w f (E ^ n) (E ^ suc n) S.minus S.plus T.minus T.plus B.minus B.plus N above (pow-succ' E n) (sym q) o;
      }
    where
      go : (E w f p p' s s' t t' b b' N : ℕ) → 0 < E → p' ≡ E * p → s + t' ≡ s' + t → E * (w * s + f * b') ≤ E * (w * s' + f * b) + p' * N → w * t + f * b' ≤ w * t' + f * b + p * N
      go E w f p p' s s' t t' b b' N above e q h =
          le_of_mul-le-mul_left {m = w * t + f * b'} {n = w * t' + f * b + p * N} {k = E} (on (subst (λ (z : ℕ). E * (w * s + f * b') ≤ E * (w * s' + f * b) + z * N) e h) (ap (λ (z : ℕ). E * w * z) q)) above
        where
          on : E * (w * s + f * b') ≤ E * (w * s' + f * b) + E * p * N → E * w * (s + t') ≡ E * w * (s' + t) → E * (w * t + f * b') ≤ E * (w * t' + f * b + p * N)
          on h q = omega arith

-- ---- the same fraction with another denominator: a / l is n / d
pub record Same (l d : ℕ) (y t : Signed) (n : ℕ) : Type 0 where
  pub plus : l ^ n * y.plus ≡ d ^ n * t.plus
  pub minus : l ^ n * y.minus ≡ d ^ n * t.minus

pub same_fraction : (l d a m : ℕ) → 0 < l → 0 < d → d * a ≡ l * m → (n : ℕ) (cs : List Signed) → Same l d (value d (at m 0) (suc n) cs) (value l (at a 0) (suc n) cs) n
same_fraction l d a m lp dp is n cs =
    let h = homogeneous l d m (suc n) cs in
    let i = homogeneous d l a (suc n) cs in
    let j : value (d * l) (at (d * a) 0) (suc n) cs ≡ value (l * d) (at (l * m) 0) (suc n) cs = ap (λ (z : ℕ). value z (at (d * a) 0) (suc n) cs) (mul_comm d l) ∙ ap (λ (z : ℕ). value (l * d) (at z 0) (suc n) cs) is in
    record {
      plus = go l d (l ^ n) (d ^ n) (l ^ suc n) (d ^ suc n) (value (l * d) (at (l * m) 0) (suc n) cs).plus (value d (at m 0) (suc n) cs).plus (value l (at a 0) (suc n) cs).plus lp dp (pow-succ' l n) (pow-succ' d n) h.0 (subst (λ (z : Signed). d * z.plus ≡ d ^ suc n * (value l (at a 0) (suc n) cs).plus) j i.0);
      minus = go l d (l ^ n) (d ^ n) (l ^ suc n) (d ^ suc n) (value (l * d) (at (l * m) 0) (suc n) cs).minus (value d (at m 0) (suc n) cs).minus (value l (at a 0) (suc n) cs).minus lp dp (pow-succ' l n) (pow-succ' d n) h.1 (subst (λ (z : Signed). d * z.minus ≡ d ^ suc n * (value l (at a 0) (suc n) cs).minus) j i.1);
    }
  where
    left : (l x y : ℕ) → 0 < l → l * x ≡ l * y → x ≡ y
    left l x y p e = eq_of_mul-eq-mul_right l p x y (mul_comm x l ∙ e ∙ mul_comm l y)

    go : (l d p q p' q' x y t : ℕ) → 0 < l → 0 < d → p' ≡ l * p → q' ≡ d * q → l * x ≡ p' * y → d * x ≡ q' * t → p * y ≡ q * t
    go l d p q p' q' x y t lp dp e f h i = sym (left l x (p * y) lp (h ∙ ap (λ (z : ℕ). z * y) e ∙ mul_assoc l p y)) ∙ left d x (q * t) dp (i ∙ ap (λ (z : ℕ). z * t) f ∙ mul_assoc d q t)
