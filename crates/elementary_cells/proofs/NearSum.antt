-- From the steps that the code takes to the sum that is promised: an f64 near the short polynomial of a cell, which the computed test says is near the sum, is near
-- the sum. And a cell of an f64 is that of a fraction near it.
use mathlib.Core.Path.{◌≡◌, sym, ap, ◌∙◌, subst}
use mathlib.Core.Bool.{Bool, true, false, not}
use mathlib.Core.List.{List}
use Prim.Native.Nat.{ℕ, suc, ◌+◌, ◌-◌, ◌*◌, ◌^◌, ◌≤◌, ◌<◌}
use native.Mathlib.Nat.{le_trans, le_of_eq, mul-le-mul_left, mul-le-mul_right, le_of_mul-le-mul_left, le_of_mul-le-mul_right, mul-pos, mul_assoc, add_comm}
use native.Mathlib.Omega.{arith}
use lib.Dec.{T, leb, leb→le, nleb→lt}
use lib.ListN.{length}
use lib.Pow.{pow_pos}
use lib.Ieee.{Float, nan, inf, fin, binary64, up, down}
use Rattle.ieee754_rounding.specs.Code.Errors.{Val}
use Rattle.ieee754_rounding.specs.Distance.{distance}
use Rattle.elementary_series.specs.Fraction.{Near}
use Rattle.elementary_series.proofs.PowerSums.{pos_pow}
use Rattle.elementary_cells.specs.Cells.{offset}
use Rattle.elementary_cells.specs.Polynomials.{Signed, at, shift, scale}
use Rattle.elementary_cells.proofs.Norm.{difference, norm}
use Rattle.elementary_cells.proofs.Ring.{stretched}
use Rattle.elementary_cells.proofs.Polynomials.{value, mul_pow}
use Rattle.elementary_cells.proofs.Cells.{near_short, same_fraction}
use Rattle.elementary_cells.proofs.Approximation.{L, Side, Approx, bound_side}
use Rattle.elementary_cells.proofs.InCell.{Shifter, Cell}

-- ---- over plain numbers: F is what the sum's coefficients are over, R what the short polynomial's are, K the power of the argument's denominator

-- the f64 is near the short polynomial
longer : (L W p R K e P Q x⁺ x⁻ : ℕ) → W * p ≡ R * K → Side L W e P Q x⁺ x⁻ → 2 ^ 60 * (P * (R * K) + p * x⁻ * L) ≤ 2 ^ 60 * (Q * (R * K) + p * x⁺ * L) + e * (L * (R * K))
longer L W p R K e P Q x⁺ x⁻ is h = subst (λ (z : ℕ). 2 ^ 60 * (P * z + p * x⁻ * L) ≤ 2 ^ 60 * (Q * z + p * x⁺ * L) + e * (L * z)) is (go (mul-le-mul_right p h))
  where
    go : 2 ^ 60 * (P * W + x⁻ * L) * p ≤ (2 ^ 60 * (Q * W + x⁺ * L) + e * (L * W)) * p → 2 ^ 60 * (P * (W * p) + p * x⁻ * L) ≤ 2 ^ 60 * (Q * (W * p) + p * x⁺ * L) + e * (L * (W * p))
    go a = omega arith

-- the short polynomial is near the sum
tested : (N F R q r s K g : ℕ) → K ≡ q * (r * s) → N * 2 ^ 60 ≤ g * (F * R * q * r) → 2 ^ 60 * (s * N) ≤ g * (F * R * K)
tested N F R q r s K g e h = le_trans (le_of_eq (left s N)) (le_trans (mul-le-mul_left s h) (le_of_eq (right s g F R q r ∙ ap (λ (z : ℕ). g * (F * R * z)) (sym e))))
  where
    left : (s N : ℕ) → 2 ^ 60 * (s * N) ≡ s * (N * 2 ^ 60)
    left s N = omega arith

    right : (s g F R q r : ℕ) → s * (g * (F * R * q * r)) ≡ g * (F * R * (q * (r * s)))
    right s g F R q r = omega arith

with_test : (N s F R K g a b : ℕ) → a ≤ b + s * N → 2 ^ 60 * (s * N) ≤ g * (F * R * K) → 2 ^ 60 * a ≤ 2 ^ 60 * b + g * (F * R * K)
with_test N s F R K g a b h i = omega arith

first_part : (F L R K e P Q B⁺ B⁻ : ℕ) → 2 ^ 60 * (P * (R * K) + B⁻ * L) ≤ 2 ^ 60 * (Q * (R * K) + B⁺ * L) + e * (L * (R * K))
    → 2 ^ 60 * (F * K * P * R) + 2 ^ 60 * (F * B⁻ * L) ≤ 2 ^ 60 * (F * K * Q * R) + 2 ^ 60 * (F * B⁺ * L) + e * (F * K * L * R)
first_part F L R K e P Q B⁺ B⁻ h = omega (arith, mul-le-mul_left F h)

second_part : (F L R K g T⁺ T⁻ B⁺ B⁻ : ℕ) → 2 ^ 60 * (R * T⁻ + F * B⁺) ≤ 2 ^ 60 * (R * T⁺ + F * B⁻) + g * (F * R * K)
    → 2 ^ 60 * (L * T⁻ * R) + 2 ^ 60 * (F * B⁺ * L) ≤ 2 ^ 60 * (L * T⁺ * R) + 2 ^ 60 * (F * B⁻ * L) + g * (F * K * L * R)
second_part F L R K g T⁺ T⁻ B⁺ B⁻ h = omega (arith, mul-le-mul_left L h)

joined : (F L R K e g P Q T⁺ T⁻ B⁺ B⁻ : ℕ) → 0 < R → 2 ^ 60 * (P * (R * K) + B⁻ * L) ≤ 2 ^ 60 * (Q * (R * K) + B⁺ * L) + e * (L * (R * K))
    → 2 ^ 60 * (R * T⁻ + F * B⁺) ≤ 2 ^ 60 * (R * T⁺ + F * B⁻) + g * (F * R * K)
    → 2 ^ 60 * (F * K * P + L * T⁻) ≤ 2 ^ 60 * (F * K * Q + L * T⁺) + (e + g) * (F * K * L)
joined F L R K e g P Q T⁺ T⁻ B⁺ B⁻ r h i =
    le_of_mul-le-mul_right {m = 2 ^ 60 * (F * K * P + L * T⁻)} {n = 2 ^ 60 * (F * K * Q + L * T⁺) + (e + g) * (F * K * L)} {k = R}
    (go (F * K * P) (F * K * Q) (F * K * L) (L * T⁺) (L * T⁻) (F * B⁺ * L) (F * B⁻ * L) (first_part F L R K e P Q B⁺ B⁻ h) (second_part F L R K g T⁺ T⁻ B⁺ B⁻ i)) r
  where
    go : (p q m t u b a : ℕ) → 2 ^ 60 * (p * R) + 2 ^ 60 * a ≤ 2 ^ 60 * (q * R) + 2 ^ 60 * b + e * (m * R) → 2 ^ 60 * (u * R) + 2 ^ 60 * b ≤ 2 ^ 60 * (t * R) + 2 ^ 60 * a + g * (m * R)
        → 2 ^ 60 * (p + u) * R ≤ (2 ^ 60 * (q + t) + (e + g) * m) * R
    go p q m t u b a x y = omega arith

-- the sum at another fraction of the same value
moved : (F L K C e P Q T⁺ T⁻ Y⁺ Y⁻ : ℕ) → 0 < K → K * Y⁺ ≡ C * T⁺ → K * Y⁻ ≡ C * T⁻ → 2 ^ 60 * (F * K * P + L * T⁻) ≤ 2 ^ 60 * (F * K * Q + L * T⁺) + e * (F * K * L) → Side L (F * C) e P Q Y⁺ Y⁻
moved F L K C e P Q T⁺ T⁻ Y⁺ Y⁻ k i j h =
    le_of_mul-le-mul_right {m = 2 ^ 60 * (P * (F * C) + Y⁻ * L)} {n = 2 ^ 60 * (Q * (F * C) + Y⁺ * L) + e * (L * (F * C))} {k = K} (go (mul-le-mul_left C h) (ap (λ (z : ℕ). L * z) i) (ap (λ (z : ℕ). L * z) j)) k
  where
    go : C * (2 ^ 60 * (F * K * P + L * T⁻)) ≤ C * (2 ^ 60 * (F * K * Q + L * T⁺) + e * (F * K * L)) → L * (K * Y⁺) ≡ L * (C * T⁺) → L * (K * Y⁻) ≡ L * (C * T⁻)
        → 2 ^ 60 * (P * (F * C) + Y⁻ * L) * K ≤ (2 ^ 60 * (Q * (F * C) + Y⁺ * L) + e * (L * (F * C))) * K
    go a b c = omega arith

-- the exact number is at most as large as the f64, and a little
exact_side : (L W e b P Q a c : ℕ) → 0 < L → 64 * e ≤ 2 ^ 60 → Side L W e Q P c a → 64 * P ≤ 64 * Q + b * L → 64 * a ≤ 64 * c + (b + 1) * W
exact_side L W e b P Q a c l s h k = bound_side W L e b a c P Q l s (turned h) k
  where
    turned : 2 ^ 60 * (Q * W + a * L) ≤ 2 ^ 60 * (P * W + c * L) + e * (L * W) → 2 ^ 60 * (a * L + Q * W) ≤ 2 ^ 60 * (c * L + P * W) + e * (W * L)
    turned h = omega arith

more : (L b P Q : ℕ) → 64 * P ≤ 64 * Q + b * L → 64 * P ≤ 64 * Q + (b + 1) * L
more L b P Q h = omega arith

-- ---- an f64 v near the short polynomial's value X / W at x, is near the sum's value at n / d. Names as in `near_short`; E is d.
module _ (c r s k n d : ℕ) (x : Signed) (cp : 0 < c) (rp : 0 < r) (dp : 0 < d) (is : c * (r * n) + x.minus ≡ k * (r * d) + x.plus) (small : x.plus + x.minus ≤ s * d)
    (N f w : ℕ) (t b : List Signed) (wp : 0 < w) (fp : 0 < f) (long : length (scale c (suc N) t) ≤ suc N) where
  abbrev l : ℕ
  l = c * (r * d)

  lp : 0 < l
  lp = mul-pos cp (mul-pos rp dp)

  pub cell-approx : {v : Float} {e m : ℕ} {X : Signed} {W : ℕ} (p g : ℕ) → W * p ≡ w * l ^ N → value l x (suc N) b ≡ stretched p X → 64 * (e + g) ≤ 2 ^ 60
      → norm r s (suc N) (difference w f (shift k (scale c (suc N) t)) (scale c (suc N) b)) * 2 ^ 60 ≤ g * (f * w * c ^ N * r ^ N)
      → Approx v e m X W → Approx v (e + g) (m + 1) (value d (at n 0) (suc N) t) (f * d ^ N)
  unfolding stretched
  cell-approx {v} {e} {m} {X} {W} p g wp' short room test a =
      let o = near_short c r s d (c * (r * n)) k x dp is small N f w t b long in
      let y = same_fraction l d (c * (r * n)) n lp dp (swap c r n d) N t in
      let M : ℕ = norm r s (suc N) (difference w f (shift k (scale c (suc N) t)) (scale c (suc N) b)) in
      let T : Signed = value l (at (c * (r * n)) 0) (suc N) t in
      let Y : Signed = value d (at n 0) (suc N) t in
      let K : l ^ N ≡ c ^ N * (r ^ N * d ^ N) = mul_pow c (r * d) N ∙ ap (λ (z : ℕ). c ^ N * z) (mul_pow r d N) in
      let h : 2 ^ 60 * (d ^ N * M) ≤ g * (f * w * l ^ N) = tested M f w (c ^ N) (r ^ N) (d ^ N) (l ^ N) g K test in
      let over : w * T.minus + f * (p * X.plus) ≤ w * T.plus + f * (p * X.minus) + d ^ N * M = subst (λ (z : Signed). w * T.minus + f * z.plus ≤ w * T.plus + f * z.minus + d ^ N * M) short o.over in
      let under : w * T.plus + f * (p * X.minus) ≤ w * T.minus + f * (p * X.plus) + d ^ N * M = subst (λ (z : Signed). w * T.plus + f * z.minus ≤ w * T.minus + f * z.plus + d ^ N * M) short o.under in
      let u : Side L (f * d ^ N) (e + g) a.P a.Q Y.plus Y.minus =
      moved f L (l ^ N) (d ^ N) (e + g) a.P a.Q T.plus T.minus Y.plus Y.minus (pos_pow l N lp) y.plus y.minus
      (joined f L w (l ^ N) e g a.P a.Q T.plus T.minus (p * X.plus) (p * X.minus) wp (longer L W p w (l ^ N) e a.P a.Q X.plus X.minus wp' a.under)
      (with_test M (d ^ N) f w (l ^ N) g (w * T.minus + f * (p * X.plus)) (w * T.plus + f * (p * X.minus)) over h)) in
      let u' : Side L (f * d ^ N) (e + g) a.Q a.P Y.minus Y.plus =
      moved f L (l ^ N) (d ^ N) (e + g) a.Q a.P T.minus T.plus Y.minus Y.plus (pos_pow l N lp) y.minus y.plus
      (joined f L w (l ^ N) e g a.Q a.P T.minus T.plus (p * X.minus) (p * X.plus) wp (longer L W p w (l ^ N) e a.Q a.P X.minus X.plus wp' a.over)
      (with_test M (d ^ N) f w (l ^ N) g (w * T.plus + f * (p * X.minus)) (w * T.minus + f * (p * X.plus)) under h)) in
      record {
        P = a.P;
        Q = a.Q;
        val = a.val;
        under = u;
        over = u';
        exact⁺ = exact_side L (f * d ^ N) (e + g) m a.P a.Q Y.plus Y.minus (pow_pos 1074) room u' a.float⁺;
        exact⁻ = exact_side L (f * d ^ N) (e + g) m a.Q a.P Y.minus Y.plus (pow_pos 1074) room u a.float⁻;
        float⁺ = more L m a.P a.Q a.float⁺;
        float⁻ = more L m a.Q a.P a.float⁻;
        above = mul-pos fp (pos_pow d N dp);
      }
    where
      swap : (c r n d : ℕ) → d * (c * (r * n)) ≡ c * (r * d) * n
      swap c r n d = omega arith

-- ---- near enough for a promise
near_side : (L W e P Q Y⁺ Y⁻ U d : ℕ) → 0 < L → U * L + Q * d ≡ P * d → Side L W e P Q Y⁺ Y⁻ → 2 ^ 60 * (U * W + Y⁻ * d) ≤ 2 ^ 60 * (Y⁺ * d) + e * (W * d)
near_side L W e P Q Y⁺ Y⁻ U d l is h =
    le_of_mul-le-mul_right {m = 2 ^ 60 * (U * W + Y⁻ * d)} {n = 2 ^ 60 * (Y⁺ * d) + e * (W * d)} {k = L} (go (mul-le-mul_right d h) (ap (λ (z : ℕ). W * z) is)) l
  where
    go : 2 ^ 60 * (P * W + Y⁻ * L) * d ≤ (2 ^ 60 * (Q * W + Y⁺ * L) + e * (L * W)) * d → W * (U * L + Q * d) ≡ W * (P * d) → 2 ^ 60 * (U * W + Y⁻ * d) * L ≤ (2 ^ 60 * (Y⁺ * d) + e * (W * d)) * L
    go a b = omega arith

other_side : (L W e P Q Y⁺ Y⁻ U d : ℕ) → 0 < L → U * L + Q * d ≡ P * d → Side L W e Q P Y⁻ Y⁺ → 2 ^ 60 * (Y⁺ * d) ≤ 2 ^ 60 * (U * W + Y⁻ * d) + e * (W * d)
other_side L W e P Q Y⁺ Y⁻ U d l is h =
    le_of_mul-le-mul_right {m = 2 ^ 60 * (Y⁺ * d)} {n = 2 ^ 60 * (U * W + Y⁻ * d) + e * (W * d)} {k = L} (go (mul-le-mul_right d h) (ap (λ (z : ℕ). W * z) is)) l
  where
    go : 2 ^ 60 * (Q * W + Y⁺ * L) * d ≤ (2 ^ 60 * (P * W + Y⁻ * L) + e * (L * W)) * d → W * (U * L + Q * d) ≡ W * (P * d) → 2 ^ 60 * (Y⁺ * d) * L ≤ (2 ^ 60 * (U * W + Y⁻ * d) + e * (W * d)) * L
    go a b = omega arith

both : (k e x y z : ℕ) → e * 2 ^ k ≤ 2 ^ 60 → 2 ^ 60 * x ≤ 2 ^ 60 * y + e * z → 2 ^ 60 * y ≤ 2 ^ 60 * x + e * z → distance x y * 2 ^ k ≤ z
both k e x y z room h i = le_of_mul-le-mul_left {m = distance x y * 2 ^ k} {n = z} {k = 2 ^ 60} (go (2 ^ k) (distance x y) room (apart x y (e * z) h i)) (pow_pos 60)
  where
    apart : (x y r : ℕ) → 2 ^ 60 * x ≤ 2 ^ 60 * y + r → 2 ^ 60 * y ≤ 2 ^ 60 * x + r → 2 ^ 60 * distance x y ≤ r
    apart x y r h i = omega arith

    go : (K D : ℕ) → e * K ≤ 2 ^ 60 → 2 ^ 60 * D ≤ e * z → 2 ^ 60 * (D * K) ≤ 2 ^ 60 * z
    go K D r h = omega (arith, mul-le-mul_right K h, mul-le-mul_right z r)

pub near_of : (k : ℕ) {v : Float} {e b : ℕ} {x : Signed} {W : ℕ} → e * 2 ^ k ≤ 2 ^ 60 → Approx v e b x W → Near k v (record { plus = x.plus; minus = x.minus; over = W })
unfolding Near
near_of k {v} {e} {b} {x} {W} room a = go v a.P a.Q a.val a.under a.over
  where
    go : (v : Float) (P Q : ℕ) → Val binary64 v P Q → Side L W e P Q x.plus x.minus → Side L W e Q P x.minus x.plus → Near k v (record { plus = x.plus; minus = x.minus; over = W })
    go nan P Q v h i = v
    go (inf s) P Q v h i = v
    go (fin false m E) P Q v h i =
        both k e (m * up E * W + x.minus * down E) (x.plus * down E) (W * down E) room (near_side L W e P Q x.plus x.minus (m * up E) (down E) (pow_pos 1074) v h) (other_side L W e P Q x.plus x.minus (m * up E) (down E) (pow_pos 1074) v i)
    go (fin true m E) P Q v h i =
        both k e (m * up E * W + x.plus * down E) (x.minus * down E) (W * down E) room (near_side L W e Q P x.minus x.plus (m * up E) (down E) (pow_pos 1074) v i) (other_side L W e Q P x.minus x.plus (m * up E) (down E) (pow_pos 1074) v h)

-- ---- the cell k of an f64 of A units, and a fraction n / d within e * 2 ^ -60 of it: what n / d is off from the cell's middle, x over c * (r * d)
pub record NearCell (c r s k n d e b : ℕ) (h : Float) : Type 0 where
  pub x : Signed
  pub is : c * (r * n) + x.minus ≡ k * (r * d) + x.plus
  pub small : x.plus + x.minus ≤ s * d
  pub approx : Approx h e b x (c * (r * d))

-- over plain numbers: D is a cell's width, c of them are L; the f64 is off by hp - hq, the fraction by u - v
module _ (D L c k n d e A hp hq u v : ℕ) (cells : c * D ≡ L) (middle : A + hq ≡ k * D + hp) (off : c * n + v ≡ k * d + u) where
  -- both less the cell's middle
  of_float : A * (c * d) + hq * (c * d) ≡ k * L * d + hp * (c * d)
  of_float = go (ap (λ (z : ℕ). z * (c * d)) middle) (ap (λ (z : ℕ). k * z * d) cells)
    where
      go : (A + hq) * (c * d) ≡ (k * D + hp) * (c * d) → k * (c * D) * d ≡ k * L * d → A * (c * d) + hq * (c * d) ≡ k * L * d + hp * (c * d)
      go a b = omega arith

  of_fraction : c * n * L + v * L ≡ k * L * d + u * L
  of_fraction = go (ap (λ (z : ℕ). z * L) off)
    where
      go : (c * n + v) * L ≡ (k * d + u) * L → c * n * L + v * L ≡ k * L * d + u * L
      go a = omega arith

  times_cells : (x y : ℕ) → 2 ^ 60 * x ≤ 2 ^ 60 * y + e * (L * d) → 2 ^ 60 * (c * x) ≤ 2 ^ 60 * (c * y) + e * (L * (c * d))
  times_cells x y h = omega (arith, mul-le-mul_left c h)

  side⁺ : 2 ^ 60 * (A * d) ≤ 2 ^ 60 * (n * L) + e * (L * d) → 2 ^ 60 * (hp * (c * d) + v * L) ≤ 2 ^ 60 * (hq * (c * d) + u * L) + e * (L * (c * d))
  side⁺ h = go (hp * (c * d)) (hq * (c * d)) (u * L) (v * L) (k * L * d) (e * (L * (c * d))) (c * (A * d)) (c * (n * L)) (turn A c d) (mul_assoc c n L) of_float of_fraction (times_cells (A * d) (n * L) h)
    where
      turn : (A c d : ℕ) → A * (c * d) ≡ c * (A * d)
      turn A c d = omega arith

      go : (p q u v K m X Y : ℕ) {X' Y' : ℕ} → X' ≡ X → Y' ≡ Y → X' + q ≡ K + p → Y' + v ≡ K + u → 2 ^ 60 * X ≤ 2 ^ 60 * Y + m → 2 ^ 60 * (p + v) ≤ 2 ^ 60 * (q + u) + m
      go p q u v K m X Y i j a b h = omega arith

  side⁻ : 2 ^ 60 * (n * L) ≤ 2 ^ 60 * (A * d) + e * (L * d) → 2 ^ 60 * (hq * (c * d) + u * L) ≤ 2 ^ 60 * (hp * (c * d) + v * L) + e * (L * (c * d))
  side⁻ h = go (hp * (c * d)) (hq * (c * d)) (u * L) (v * L) (k * L * d) (e * (L * (c * d))) (c * (A * d)) (c * (n * L)) (turn A c d) (mul_assoc c n L) of_float of_fraction (times_cells (n * L) (A * d) h)
    where
      turn : (A c d : ℕ) → A * (c * d) ≡ c * (A * d)
      turn A c d = omega arith

      go : (p q u v K m X Y : ℕ) {X' Y' : ℕ} → X' ≡ X → Y' ≡ Y → X' + q ≡ K + p → Y' + v ≡ K + u → 2 ^ 60 * Y ≤ 2 ^ 60 * X + m → 2 ^ 60 * (q + u) ≤ 2 ^ 60 * (p + v) + m
      go p q u v K m X Y i j a b h = omega arith

-- r times finer
finer : (L c r d e p q a b : ℕ) → 2 ^ 60 * (p * (c * d) + b * L) ≤ 2 ^ 60 * (q * (c * d) + a * L) + e * (L * (c * d)) → Side L (c * (r * d)) e p q (r * a) (r * b)
finer L c r d e p q a b h = omega (arith, mul-le-mul_left r h)

-- half a cell, and the error
half_cell : (D L c d e p q a : ℕ) → 0 < L → c * D ≡ L → 2 * (p + q) ≤ D → 2 ^ 60 * (q * (c * d) + a * L) ≤ 2 ^ 60 * (p * (c * d) + 0 * L) + e * (L * (c * d)) → 2 ^ 61 * a ≤ (2 ^ 60 + 2 * (c * e)) * d
half_cell D L c d e p q a l cells near h = le_of_mul-le-mul_right {m = 2 ^ 61 * a} {n = (2 ^ 60 + 2 * (c * e)) * d} {k = L} (go (mul-le-mul_right (c * d) near) (ap (λ (z : ℕ). z * d) cells)) l
  where
    go : 2 * (p + q) * (c * d) ≤ D * (c * d) → c * D * d ≡ L * d → 2 ^ 61 * a * L ≤ (2 ^ 60 + 2 * (c * e)) * d * L
    go i j = omega arith

balance : (x y : ℕ) → x + (y - x) ≡ y + (x - y)
balance x y = omega arith

module _ (σ : Float) (g c cap : ℕ) (ok : Shifter σ g c) (a : Float) (A : ℕ) (of : Cell σ g cap a A) (n d e : ℕ) (dp : 0 < d) (under : 2 ^ 60 * (A * d) ≤ 2 ^ 60 * (n * L) + e * (L * d)) (over : 2 ^ 60 * (n * L) ≤ 2 ^ 60 * (A * d) + e * (L * d)) where
  abbrev k : ℕ
  k = of.k

  abbrev u : ℕ
  u = c * n - k * d

  abbrev v : ℕ
  v = k * d - c * n

  low : 2 ^ 60 * (of.hp * (c * d) + v * L) ≤ 2 ^ 60 * (of.hq * (c * d) + u * L) + e * (L * (c * d))
  low = side⁺ (2 ^ g) L c k n d e A of.hp of.hq u v ok.cells of.middle (balance (c * n) (k * d)) under

  high : 2 ^ 60 * (of.hq * (c * d) + u * L) ≤ 2 ^ 60 * (of.hp * (c * d) + v * L) + e * (L * (c * d))
  high = side⁻ (2 ^ g) L c k n d e A of.hp of.hq u v ok.cells of.middle (balance (c * n) (k * d)) over

  near' : 2 * (of.hq + of.hp) ≤ 2 ^ g
  near' = le_trans (le_of_eq (ap (λ (z : ℕ). 2 * z) (add_comm of.hq of.hp))) of.near

  -- one of u and v is 0
  size : 2 ^ 61 * (u + v) ≤ (2 ^ 60 + 2 * (c * e)) * d
  size = by (leb (k * d) (c * n)) (leb→le (k * d) (c * n)) (nleb→lt (k * d) (c * n))
    where
      none : (x y : ℕ) → y ≤ x → y - x ≡ 0
      none x y h = omega arith

      none' : (x y : ℕ) → x < y → x - y ≡ 0
      none' x y h = omega arith

      only : (p q : ℕ) → q ≡ 0 → p ≡ p + q
      only p q e = omega arith

      by : (b : Bool) → (T b → k * d ≤ c * n) → (T (not b) → c * n < k * d) → 2 ^ 61 * (u + v) ≤ (2 ^ 60 + 2 * (c * e)) * d
      by true i j =
          let z : v ≡ 0 = none (c * n) (k * d) (i tt) in
          subst (λ (w : ℕ). 2 ^ 61 * w ≤ (2 ^ 60 + 2 * (c * e)) * d) (only u v z)
          (half_cell (2 ^ g) L c d e of.hp of.hq u (pow_pos 1074) ok.cells of.near (subst (λ (w : ℕ). 2 ^ 60 * (of.hq * (c * d) + u * L) ≤ 2 ^ 60 * (of.hp * (c * d) + w * L) + e * (L * (c * d))) z high))
      by false i j =
          let z : u ≡ 0 = none' (c * n) (k * d) (j tt) in
          subst (λ (w : ℕ). 2 ^ 61 * w ≤ (2 ^ 60 + 2 * (c * e)) * d) (only v u z ∙ add_comm v u)
          (half_cell (2 ^ g) L c d e of.hq of.hp v (pow_pos 1074) ok.cells near' (subst (λ (w : ℕ). 2 ^ 60 * (of.hp * (c * d) + v * L) ≤ 2 ^ 60 * (of.hq * (c * d) + w * L) + e * (L * (c * d))) z low))

  pub near_cell : (r s b : ℕ) → 0 < c → 0 < r → r * (2 ^ 60 + 2 * (c * e)) ≤ 2 ^ 61 * s → 64 * s ≤ b * (c * r) → 32 ≤ b * c → NearCell c r s k n d e b (offset σ a)
  near_cell r s b cp rp slack wide fine =
      let small : r * u + r * v ≤ s * d = spread-few r s (2 ^ 60 + 2 * (c * e)) u v d slack size in
      record {
        x = at (r * u) (r * v);
        is = spread c r n k d u v (balance (c * n) (k * d));
        small = small;
        approx = record {
          P = of.hp;
          Q = of.hq;
          val = of.val;
          under = finer L c r d e of.hp of.hq u v low;
          over = finer L c r d e of.hq of.hp v u high;
          exact⁺ = exact (r * u) (r * v) s d b c r small wide;
          exact⁻ = exact (r * v) (r * u) s d b c r (le_trans (le_of_eq (add_comm (r * v) (r * u))) small) wide;
          float⁺ = float of.hp of.hq (2 ^ g) L b c ok.cells of.near fine;
          float⁻ = float of.hq of.hp (2 ^ g) L b c ok.cells near' fine;
          above = mul-pos cp (mul-pos rp dp);
        };
      }
    where
      spread-few : (r s m u v d : ℕ) → r * m ≤ 2 ^ 61 * s → 2 ^ 61 * (u + v) ≤ m * d → r * u + r * v ≤ s * d
      spread-few r s m u v d h i = omega (arith, mul-le-mul_right d h, mul-le-mul_left r i)

      spread : (c r n k d u v : ℕ) → c * n + v ≡ k * d + u → c * (r * n) + r * v ≡ k * (r * d) + r * u
      spread c r n k d u v e = omega (arith, ap (λ (z : ℕ). r * z) e)

      exact : (p q s d b c r : ℕ) → p + q ≤ s * d → 64 * s ≤ b * (c * r) → 64 * p ≤ 64 * q + b * (c * (r * d))
      exact p q s d b c r h i = omega (arith, mul-le-mul_right d i)

      float : (p q D L b c : ℕ) → c * D ≡ L → 2 * (p + q) ≤ D → 32 ≤ b * c → 64 * p ≤ 64 * q + b * L
      float p q D L b c e h i = omega (arith, mul-le-mul_right D i, ap (λ (z : ℕ). b * z) e)
