-- The value of a polynomial over signed whole numbers at x / D, times D ^ (n - 1) for n coefficients: shifted to another centre it has the
-- same value; it is linear in its coefficients; it is at most its norm.
use mathlib.Core.Path.{◌≡◌, refl, sym, ap, ◌∙◌, subst}
use mathlib.Core.List.{List, [], ◌∷◌}
use Prim.Native.Nat.{ℕ, zero, suc, ◌+◌, ◌*◌, ◌^◌, ◌≤◌}
use native.Mathlib.Nat.{le_trans, le_of_eq, mul-le-mul_left, mul-le-mul_right, le_of_suc-le-suc, not-suc-le-zero, pow-succ', pow-zero, mul_assoc}
use native.Mathlib.Omega.{arith}
use lib.ListN.{length}
use Rattle.elementary_cells.proofs.Ring.{pair}
use Rattle.elementary_cells.specs.Polynomials.{Signed, at, lin, shift, scale}
use Rattle.elementary_cells.proofs.Norm.{difference, apart, norm}

unfoldable pub value : ℕ → Signed → ℕ → List Signed → Signed
value D x zero cs = at 0 0
value D x (suc n) [] = at 0 0
value D x (suc n) (c ∷ cs) =
    at (c.plus * D ^ n + (x.plus * (value D x n cs).plus + x.minus * (value D x n cs).minus)) (c.minus * D ^ n + (x.plus * (value D x n cs).minus + x.minus * (value D x n cs).plus))

pub mul_pow : (a b n : ℕ) → (a * b) ^ n ≡ a ^ n * b ^ n
mul_pow a b zero = pow-zero (a * b) ∙ sym (ap (λ (z : ℕ). z * b ^ 0) (pow-zero a) ∙ ap (λ (z : ℕ). 1 * z) (pow-zero b))
mul_pow a b (suc n) =
    pow-succ' (a * b) n ∙ ap (λ (z : ℕ). a * b * z) (mul_pow a b n) ∙ go a b (a ^ n) (b ^ n) ∙ sym (ap (λ (z : ℕ). z * b ^ suc n) (pow-succ' a n) ∙ ap (λ (z : ℕ). a * a ^ n * z) (pow-succ' b n))
  where
    go : (a b p q : ℕ) → a * b * (p * q) ≡ a * p * (b * q)
    go a b p q = omega arith

-- ---- a polynomial shifted by k, at x, where A is k + x (all over D)
module _ (D A k : ℕ) (x : Signed) (is : A + x.minus ≡ k * D + x.plus) where
  lin_step : (p⁺ p⁻ q⁺ q⁻ P u v y z : ℕ) → u + A * z + q⁻ * P ≡ v + A * y + q⁺ * P
      → (p⁺ + k * q⁺) * (D * P) + (x.plus * u + x.minus * v) + A * (q⁻ * P + (x.plus * z + x.minus * y)) + p⁻ * (D * P)
      ≡ (p⁻ + k * q⁻) * (D * P) + (x.plus * v + x.minus * u) + A * (q⁺ * P + (x.plus * y + x.minus * z)) + p⁺ * (D * P)
  lin_step p⁺ p⁻ q⁺ q⁻ P u v y z h =
      ap (λ (t : ℕ). t + (x.plus * u + x.minus * v) + A * (q⁻ * P + (x.plus * z + x.minus * y)) + p⁻ * (D * P)) (spread p⁺ q⁺ P D k)
      ∙ go A (k * D) x.plus x.minus (p⁺ * (D * P)) (p⁻ * (D * P)) (q⁺ * P) (q⁻ * P) is h
      ∙ ap (λ (t : ℕ). t + (x.plus * v + x.minus * u) + A * (q⁺ * P + (x.plus * y + x.minus * z)) + p⁺ * (D * P)) (sym (spread p⁻ q⁻ P D k))
    where
      spread : (p q P D k : ℕ) → (p + k * q) * (D * P) ≡ p * (D * P) + k * D * (q * P)
      spread p q P D k = omega arith

      go : (A K a b r s m n : ℕ) → A + b ≡ K + a → u + A * z + n ≡ v + A * y + m → r + K * m + (a * u + b * v) + A * (n + (a * z + b * y)) + s ≡ s + K * n + (a * v + b * u) + A * (m + (a * y + b * z)) + r
      go A K a b r s m n is h = omega (arith, ap (λ (t : ℕ). a * t) h, ap (λ (t : ℕ). b * t) h, ap (λ (t : ℕ). t * m) is, ap (λ (t : ℕ). t * n) is)

  lin_value : (n : ℕ) (p : Signed) (qs : List Signed) → length qs ≤ n
      → (value D x (suc n) (lin k p qs)).plus + A * (value D x n qs).minus + p.minus * D ^ n ≡ (value D x (suc n) (lin k p qs)).minus + A * (value D x n qs).plus + p.plus * D ^ n
  unfolding value lin
  lin_value zero p [] h = omega arith
  lin_value (suc n) p [] h = omega arith
  lin_value zero p (q ∷ qs) h = absurd (not-suc-le-zero h)
  lin_value (suc n) p (q ∷ qs) h =
      let ih = lin_value n q qs (le_of_suc-le-suc h) in
      rw (pow-succ' D n)
      (lin_step p.plus p.minus q.plus q.minus (D ^ n) (value D x (suc n) (lin k q qs)).plus (value D x (suc n) (lin k q qs)).minus (value D x n qs).plus (value D x n qs).minus ih)

length_lin : (k : ℕ) (p : Signed) (qs : List Signed) → length (lin k p qs) ≡ suc (length qs)
unfolding lin
length_lin k p [] = refl
length_lin k p (q ∷ qs) = ap suc (length_lin k q qs)

pub length_shift : (k : ℕ) (cs : List Signed) → length (shift k cs) ≡ length cs
unfolding shift
length_shift k [] = refl
length_shift k (c ∷ cs) = length_lin k c (shift k cs) ∙ ap suc (length_shift k cs)

module _ (D A k : ℕ) (x : Signed) (is : A + x.minus ≡ k * D + x.plus) where
  pub shift_value : (n : ℕ) (cs : List Signed) → length cs ≤ n
      → (value D x n (shift k cs)).plus + (value D (at A 0) n cs).minus ≡ (value D x n (shift k cs)).minus + (value D (at A 0) n cs).plus
  unfolding value shift
  shift_value zero cs h = refl
  shift_value (suc n) [] h = refl
  shift_value (suc n) (c ∷ cs) h =
      let one = lin_value D A k x is n c (shift k cs) (le_trans (le_of_eq (length_shift k cs)) (le_of_suc-le-suc h)) in
      let ih = shift_value n cs (le_of_suc-le-suc h) in
      go A c.plus c.minus (D ^ n) (value D x (suc n) (lin k c (shift k cs))).plus (value D x (suc n) (lin k c (shift k cs))).minus (value D x n (shift k cs)).plus (value D x n (shift k cs)).minus (value D (at A 0) n cs).plus (value D (at A 0) n cs).minus one ih
    where
      go : (A a b P u v y z s t : ℕ) → u + A * z + b * P ≡ v + A * y + a * P → y + t ≡ z + s → u + (b * P + (A * t + 0 * s)) ≡ v + (a * P + (A * s + 0 * t))
      go A a b P u v y z s t h i = omega (arith, ap (λ (w : ℕ). A * w) i)

-- ---- coefficients times powers of r, and the argument over r * D
pub scale_value : (r D : ℕ) (x : Signed) (n : ℕ) (cs : List Signed) → value D x n (scale r n cs) ≡ value (r * D) x n cs
unfolding value scale
scale_value r D x zero cs = refl
scale_value r D x (suc n) [] = refl
scale_value r D x (suc n) (c ∷ cs) =
    rw (scale_value r D x n cs, mul_pow r D n, mul_assoc c.plus (r ^ n) (D ^ n), mul_assoc c.minus (r ^ n) (D ^ n))

-- ---- linear in the coefficients
pub nothing : (D : ℕ) (x : Signed) (n : ℕ) → value D x n [] ≡ at 0 0
unfolding value
nothing D x zero = refl
nothing D x (suc n) = refl

pub difference_value : (v w D : ℕ) (x : Signed) (n : ℕ) (cs bs : List Signed)
    → value D x n (difference v w cs bs) ≡ at (v * (value D x n cs).plus + w * (value D x n bs).minus) (v * (value D x n cs).minus + w * (value D x n bs).plus)
unfolding value difference
difference_value v w D x zero cs bs = pair (none v w) (none v w)
  where
    none : (v w : ℕ) → 0 ≡ v * 0 + w * 0
    none v w = omega arith
difference_value v w D x (suc n) [] [] = pair (none v w) (none v w)
  where
    none : (v w : ℕ) → 0 ≡ v * 0 + w * 0
    none v w = omega arith
difference_value v w D x (suc n) (c ∷ cs) [] =
    rw (difference_value v w D x n cs [], nothing D x n)
    (pair (go v w c.plus (D ^ n) x.plus x.minus (value D x n cs).plus (value D x n cs).minus) (go v w c.minus (D ^ n) x.plus x.minus (value D x n cs).minus (value D x n cs).plus))
  where
    go : (v w c P a b u z : ℕ) → v * c * P + (a * (v * u + w * 0) + b * (v * z + w * 0)) ≡ v * (c * P + (a * u + b * z)) + w * 0
    go v w c P a b u z = omega arith
difference_value v w D x (suc n) [] (b ∷ bs) =
    rw (difference_value v w D x n [] bs, nothing D x n)
    (pair (go v w b.minus (D ^ n) x.plus x.minus (value D x n bs).minus (value D x n bs).plus) (go v w b.plus (D ^ n) x.plus x.minus (value D x n bs).plus (value D x n bs).minus))
  where
    go : (v w c P a b u z : ℕ) → w * c * P + (a * (v * 0 + w * u) + b * (v * 0 + w * z)) ≡ v * 0 + w * (c * P + (a * u + b * z))
    go v w c P a b u z = omega arith
difference_value v w D x (suc n) (c ∷ cs) (b ∷ bs) =
    rw (difference_value v w D x n cs bs)
    (pair (go v w c.plus b.minus (D ^ n) x.plus x.minus (value D x n cs).plus (value D x n cs).minus (value D x n bs).minus (value D x n bs).plus)
    (go v w c.minus b.plus (D ^ n) x.plus x.minus (value D x n cs).minus (value D x n cs).plus (value D x n bs).plus (value D x n bs).minus))
  where
    go : (v w c d P a b u z s t : ℕ) → (v * c + w * d) * P + (a * (v * u + w * s) + b * (v * z + w * t)) ≡ v * (c * P + (a * u + b * z)) + w * (d * P + (a * s + b * t))
    go v w c d P a b u z s t = omega arith

-- ---- at most its norm, where x is at most s / r
module _ (r s E : ℕ) (x : Signed) (small : x.plus + x.minus ≤ s * E) where
  norm_step : (a b P Q N u v : ℕ) → E * u ≤ E * v + P * N → E * v ≤ E * u + P * N
      → E * (a * (Q * P) + (x.plus * u + x.minus * v)) ≤ E * (b * (Q * P) + (x.plus * v + x.minus * u)) + E * P * (apart a b * Q + s * N)
  norm_step a b P Q N u v h i = go E x.plus x.minus (apart a b) small (far a b) h i
    where
      far : (a b : ℕ) → a ≤ b + apart a b
      far a b = omega arith

      go : (E p q g : ℕ) → p + q ≤ s * E → a ≤ b + g → E * u ≤ E * v + P * N → E * v ≤ E * u + P * N → E * (a * (Q * P) + (p * u + q * v)) ≤ E * (b * (Q * P) + (p * v + q * u)) + E * P * (g * Q + s * N)
      go E p q g m f h i = omega (arith, mul-le-mul_left p h, mul-le-mul_left q i, mul-le-mul_right (P * N) m, mul-le-mul_right (E * (Q * P)) f)

  pub record Bounded (n : ℕ) (cs : List Signed) : Type 0 where
    pub under : E * (value (r * E) x n cs).plus ≤ E * (value (r * E) x n cs).minus + E ^ n * norm r s n cs
    pub over : E * (value (r * E) x n cs).minus ≤ E * (value (r * E) x n cs).plus + E ^ n * norm r s n cs

  pub norm_bounds : (n : ℕ) (cs : List Signed) → Bounded n cs
  unfolding value norm
  norm_bounds zero cs = record { under = omega arith; over = omega arith }
  norm_bounds (suc n) [] = record { under = omega arith; over = omega arith }
  norm_bounds (suc n) (c ∷ cs) =
      let ih = norm_bounds n cs in
      let u : ℕ = (value (r * E) x n cs).plus in
      let v : ℕ = (value (r * E) x n cs).minus in
      record {
        under = rw (mul_pow r E n, pow-succ' E n) (norm_step c.plus c.minus (E ^ n) (r ^ n) (norm r s n cs) u v ih.under ih.over);
        over = rw (mul_pow r E n, pow-succ' E n) (subst (λ (g : ℕ). E * (c.minus * (r ^ n * E ^ n) + (x.plus * v + x.minus * u)) ≤ E * (c.plus * (r ^ n * E ^ n) + (x.plus * u + x.minus * v)) + E * E ^ n * (g * r ^ n + s * norm r s n cs)) (either c.minus c.plus) (norm_step c.minus c.plus (E ^ n) (r ^ n) (norm r s n cs) v u ih.over ih.under));
      }
    where
      either : (a b : ℕ) → apart a b ≡ apart b a
      either a b = omega arith

-- ---- a common factor of the argument and what it is over
pub homogeneous : (t d a n : ℕ) (cs : List Signed)
    → (t * (value (t * d) (at (t * a) 0) n cs).plus ≡ t ^ n * (value d (at a 0) n cs).plus) × (t * (value (t * d) (at (t * a) 0) n cs).minus ≡ t ^ n * (value d (at a 0) n cs).minus)
unfolding value
homogeneous t d a zero cs = (zeros t (t ^ 0), zeros t (t ^ 0))
  where
    zeros : (t p : ℕ) → t * 0 ≡ p * 0
    zeros t p = omega arith
homogeneous t d a (suc n) [] = (zeros t (t ^ suc n), zeros t (t ^ suc n))
  where
    zeros : (t p : ℕ) → t * 0 ≡ p * 0
    zeros t p = omega arith
homogeneous t d a (suc n) (c ∷ cs) =
    let ih = homogeneous t d a n cs in (
      rw (mul_pow t d n, pow-succ' t n) (go t a c.plus (t ^ n) (d ^ n) (value (t * d) (at (t * a) 0) n cs).plus (value (t * d) (at (t * a) 0) n cs).minus (value d (at a 0) n cs).plus (value d (at a 0) n cs).minus ih.0),
      rw (mul_pow t d n, pow-succ' t n) (go t a c.minus (t ^ n) (d ^ n) (value (t * d) (at (t * a) 0) n cs).minus (value (t * d) (at (t * a) 0) n cs).plus (value d (at a 0) n cs).minus (value d (at a 0) n cs).plus ih.1),
    )
  where
    go : (t a c p q u v y z : ℕ) → t * u ≡ p * y → t * (c * (p * q) + (t * a * u + 0 * v)) ≡ t * p * (c * q + (a * y + 0 * z))
    go t a c p q u v y z h = omega (arith, ap (λ (w : ℕ). t * a * w) h)
