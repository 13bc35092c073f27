-- How far an f64 is from an exact fraction, through sums and products. L units of 2 ^ -1074 are 1. An f64 of P - Q units is near
-- (plus - minus) / W: within e * 2 ^ -60; both are at most b / 64 in size.
use mathlib.Core.Path.{◌≡◌, refl, sym, ap, subst}
use Prim.Native.Nat.{ℕ, ◌+◌, ◌-◌, ◌*◌, ◌^◌, ◌≤◌, ◌<◌}
use native.Mathlib.Nat.{le_trans, le_of_eq, mul-le-mul_right, le_of_mul-le-mul_right, mul-pos}
use native.Mathlib.Omega.{arith}
use lib.Dec.{lit≤}
use lib.Pow.{pow_pos}
use lib.Ieee.{Float, binary64, low, emax, add, mul, neg}
use Rattle.ieee754_rounding.specs.Code.Errors.{Val}
use Rattle.ieee754_rounding.proofs.Values.{neg_val}
use Rattle.ieee754_rounding.proofs.OperationError.{add_near, mul_near, prod_bound}
use Rattle.elementary_cells.specs.Polynomials.{Signed, at}
use Rattle.elementary_cells.proofs.Ring.{added, times, turned, stretched}

-- P - Q over L is above a - c over W by e * 2 ^ -60 at most
abbrev pub Side : ℕ → ℕ → ℕ → ℕ → ℕ → ℕ → ℕ → Type 0
Side L W e P Q a c = 2 ^ 60 * (P * W + c * L) ≤ 2 ^ 60 * (Q * W + a * L) + e * (L * W)

-- ---- over plain numbers
pub bound_side : (L W e b P Q a c : ℕ) → 0 < W → 64 * e ≤ 2 ^ 60 → Side L W e P Q a c → 64 * a ≤ 64 * c + b * W → 64 * P ≤ 64 * Q + (b + 1) * L
bound_side L W e b P Q a c w s h k = le_of_mul-le-mul_right {m = 64 * P} {n = 64 * Q + (b + 1) * L} {k = W} (go (mul-le-mul_right L k) (mul-le-mul_right (L * W) s)) w
  where
    go : 64 * a * L ≤ (64 * c + b * W) * L → 64 * e * (L * W) ≤ 2 ^ 60 * (L * W) → 64 * P * W ≤ (64 * Q + (b + 1) * L) * W
    go i j = omega arith

-- m is the size of the sum, in steps of 2
add_side : (L W m e P Q a c e' P' Q' a' c' R S r : ℕ) → Side L W e P Q a c → Side L W e' P' Q' a' c' → r * 2 ^ 52 ≡ m * L → 2 * (R * 1) + 2 * (Q + Q') ≤ 2 * (S * 1) + 2 * (P + P') + 1 * r
    → Side L W (e + e' + 128 * m) R S (a + a') (c + c')
add_side L W m e P Q a c e' P' Q' a' c' R S r h i u n = omega (arith, mul-le-mul_right W n, ap (λ (t : ℕ). t * W) u)

stretch_side : (L W e P Q a c k : ℕ) → Side L W e P Q a c → Side L (k * W) e P Q (k * a) (k * c)
stretch_side L W e P Q a c k h = omega (arith, mul-le-mul_right k h)

first_product : (L W' e' P Q P' Q' y z : ℕ) → P * (2 ^ 60 * (P' * W' + z * L)) + Q * (2 ^ 60 * (Q' * W' + y * L)) ≤ P * (2 ^ 60 * (Q' * W' + y * L)) + Q * (2 ^ 60 * (P' * W' + z * L)) + L * (e' * (L * W'))
    → 2 ^ 60 * ((P * P' + Q * Q') * W') + 2 ^ 60 * ((P * z + Q * y) * L) ≤ 2 ^ 60 * ((P * Q' + Q * P') * W') + 2 ^ 60 * ((P * y + Q * z) * L) + e' * (L * L * W')
first_product L W' e' P Q P' Q' y z h = omega arith

second_product : (L W X e P Q a c y z : ℕ) → y * (2 ^ 60 * (P * W + c * L)) + z * (2 ^ 60 * (Q * W + a * L)) ≤ y * (2 ^ 60 * (Q * W + a * L)) + z * (2 ^ 60 * (P * W + c * L)) + X * (e * (L * W))
    → 2 ^ 60 * ((P * y + Q * z) * W) + 2 ^ 60 * ((a * z + c * y) * L) ≤ 2 ^ 60 * ((P * z + Q * y) * W) + 2 ^ 60 * ((a * y + c * z) * L) + e * (L * (W * X))
second_product L W X e P Q a c y z h = omega arith

both_products : (L W W' e e' A B C D m n : ℕ) → 2 ^ 60 * (A * W') + 2 ^ 60 * (C * L) ≤ 2 ^ 60 * (B * W') + 2 ^ 60 * (D * L) + e' * (L * L * W')
    → 2 ^ 60 * (D * W) + 2 ^ 60 * (n * L) ≤ 2 ^ 60 * (C * W) + 2 ^ 60 * (m * L) + e * (L * (W * W'))
    → 2 ^ 60 * (A * (W * W')) + 2 ^ 60 * (n * (L * L)) ≤ 2 ^ 60 * (B * (W * W')) + 2 ^ 60 * (m * (L * L)) + (e + e') * (L * L * (W * W'))
both_products L W W' e e' A B C D m n h i = omega (arith, mul-le-mul_right W h, mul-le-mul_right L i)

with_rounding : (L X g A B m n R S r : ℕ) → 0 < L → r * 2 ^ 52 ≡ L → 2 ^ 60 * (A * X) + 2 ^ 60 * (n * (L * L)) ≤ 2 ^ 60 * (B * X) + 2 ^ 60 * (m * (L * L)) + g * (L * L * X)
    → 2 * (R * L) + 2 * B ≤ 2 * (S * L) + 2 * A + L * r → Side L X (g + 128) R S m n
with_rounding L X g A B m n R S r l u h i =
    le_of_mul-le-mul_right {m = 2 ^ 60 * (R * X + n * L)} {n = 2 ^ 60 * (S * X + m * L) + (g + 128) * (L * X)} {k = L} (go (mul-le-mul_right X i) (ap (λ (t : ℕ). t * (L * X)) u)) l
  where
    go : (2 * (R * L) + 2 * B) * X ≤ (2 * (S * L) + 2 * A + L * r) * X → r * 2 ^ 52 * (L * X) ≡ L * (L * X) → 2 ^ 60 * (R * X + n * L) * L ≤ (2 ^ 60 * (S * X + m * L) + (g + 128) * (L * X)) * L
    go j k = omega arith

mul_side : (L W W' t e e' P Q P' Q' a c y z R S r : ℕ) → 0 < L → r * 2 ^ 52 ≡ L → P ≤ Q + L → Q ≤ P + L → y ≤ z + t * W' → z ≤ y + t * W' → Side L W e P Q a c → Side L W e Q P c a → Side L W' e' P' Q' y z → Side L W' e' Q' P' z y
    → 2 * (R * L) + 2 * (P * Q' + Q * P') ≤ 2 * (S * L) + 2 * (P * P' + Q * Q') + L * r → Side L (W * W') (e * t + e' + 128) R S (a * y + c * z) (a * z + c * y)
mul_side L W W' t e e' P Q P' Q' a c y z R S r l u f g j k s o s' o' n =
    with_rounding L (W * W') (e * t + e') (P * P' + Q * Q') (P * Q' + Q * P') (a * y + c * z) (a * z + c * y) R S r l u
    (both_products L W W' (e * t) e' (P * P' + Q * Q') (P * Q' + Q * P') (P * z + Q * y) (P * y + Q * z) (a * y + c * z) (a * z + c * y)
    (first_product L W' e' P Q P' Q' y z (prod_bound P Q (2 ^ 60 * (P' * W' + z * L)) (2 ^ 60 * (Q' * W' + y * L)) L (e' * (L * W')) f g s' o'))
    (le_trans (second_product L W (t * W') e P Q a c y z (prod_bound y z (2 ^ 60 * (P * W + c * L)) (2 ^ 60 * (Q * W + a * L)) (t * W') (e * (L * W)) j k s o))
    (le_of_eq (ap (λ (m : ℕ). 2 ^ 60 * ((P * z + Q * y) * W) + 2 ^ 60 * ((a * y + c * z) * L) + m) (shuffle L W W' t e)))))
    n
  where
    shuffle : (L W W' t e : ℕ) → e * (L * (W * (t * W'))) ≡ e * t * (L * (W * W'))
    shuffle L W W' t e = omega arith

unit_side : (L b P Q : ℕ) → b ≤ 64 → 64 * P ≤ 64 * Q + b * L → P ≤ Q + L
unit_side L b P Q s h = omega (arith, mul-le-mul_right L s)

units_side : (t L b P Q : ℕ) → b ≤ 64 * t → 64 * P ≤ 64 * Q + b * L → P ≤ Q + t * L
units_side t L b P Q s h = omega (arith, mul-le-mul_right L s)

sum_under_lem : (L m b b' P Q P' Q' : ℕ) → 0 < L → b + b' + 1 ≤ 128 * m → 64 * P ≤ 64 * Q + b * L → 64 * P' ≤ 64 * Q' + b' * L → P + P' < Q + Q' + 2 * m * L
sum_under_lem L m b b' P Q P' Q' l s h i = omega (arith, mul-le-mul_right L s)

twice_under : (L b b' g P Q P' Q' : ℕ) → 0 < L → b * b' ≤ 64 * g → g ≤ 127 → 64 * P * (64 * P') + 64 * Q * (64 * Q') ≤ 64 * P * (64 * Q') + 64 * Q * (64 * P') + b * L * (b' * L) → P * P' + Q * Q' < P * Q' + Q * P' + 2 * L * L
twice_under L b b' g P Q P' Q' l s t h = omega (arith, mul-pos l l, mul-le-mul_right (L * L) s, mul-le-mul_right (L * L) t)

sum_exact : (W b b' a c y z : ℕ) → 64 * a ≤ 64 * c + b * W → 64 * y ≤ 64 * z + b' * W → 64 * (a + y) ≤ 64 * (c + z) + (b + b') * W
sum_exact W b b' a c y z h i = omega arith

one_more_lem : (W b A C : ℕ) → 64 * A ≤ 64 * C + b * W → 64 * A ≤ 64 * C + (b + 1) * W
one_more_lem W b A C h = omega arith

product_exact : (W W' b b' g a c y z : ℕ) → b * b' ≤ 64 * g → 64 * a * (64 * y) + 64 * c * (64 * z) ≤ 64 * a * (64 * z) + 64 * c * (64 * y) + b * W * (b' * W') → 64 * (a * y + c * z) ≤ 64 * (a * z + c * y) + g * (W * W')
product_exact W W' b b' g a c y z s h = omega (arith, mul-le-mul_right (W * W') s)

-- ---- the operations
abbrev pub L : ℕ
L = 2 ^ 1074

pub record Approx (z : Float) (e b : ℕ) (x : Signed) (W : ℕ) : Type 0 where
  pub P : ℕ
  pub Q : ℕ
  pub val : Val binary64 z P Q
  pub under : Side L W e P Q x.plus x.minus
  pub over : Side L W e Q P x.minus x.plus
  pub exact⁺ : 64 * x.plus ≤ 64 * x.minus + b * W
  pub exact⁻ : 64 * x.minus ≤ 64 * x.plus + b * W
  pub float⁺ : 64 * P ≤ 64 * Q + b * L
  pub float⁻ : 64 * Q ≤ 64 * P + b * L
  pub above : 0 < W

pub turn_approx : {z : Float} {e b : ℕ} {x : Signed} {W : ℕ} → Approx z e b x W → Approx (neg z) e b (turned x) W
unfolding turned
turn_approx {z} a = record { P = a.Q; Q = a.P; val = neg_val binary64 z a.P a.Q a.val; under = a.over; over = a.under; exact⁺ = a.exact⁻; exact⁻ = a.exact⁺; float⁺ = a.float⁻; float⁻ = a.float⁺; above = a.above }

-- a larger bound
pub grown_approx : {z : Float} {e : ℕ} {x : Signed} {W : ℕ} (b b' : ℕ) → b ≤ b' → Approx z e b x W → Approx z e b' x W
grown_approx {z} {e} {x} {W} b b' h a =
    record { P = a.P; Q = a.Q; val = a.val; under = a.under; over = a.over; exact⁺ = more W x.plus x.minus a.exact⁺; exact⁻ = more W x.minus x.plus a.exact⁻; float⁺ = more L a.P a.Q a.float⁺; float⁻ = more L a.Q a.P a.float⁻; above = a.above }
  where
    more : (w p q : ℕ) → 64 * p ≤ 64 * q + b * w → 64 * p ≤ 64 * q + b' * w
    more w p q i = omega (arith, mul-le-mul_right w h)

pub over_approx : {z : Float} {e b : ℕ} {x : Signed} {W : ℕ} (k Y : ℕ) → 0 < k → k * W ≡ Y → Approx z e b x W → Approx z e b (stretched k x) Y
unfolding stretched
over_approx {z} {e} {b} {x} {W} k Y p is a =
    subst (λ (t : ℕ). Approx z e b (stretched k x) t) is
    (record {
      P = a.P;
      Q = a.Q;
      val = a.val;
      under = stretch_side L W e a.P a.Q x.plus x.minus k a.under;
      over = stretch_side L W e a.Q a.P x.minus x.plus k a.over;
      exact⁺ = times-side k W b x.plus x.minus a.exact⁺;
      exact⁻ = times-side k W b x.minus x.plus a.exact⁻;
      float⁺ = a.float⁺;
      float⁻ = a.float⁻;
      above = mul-pos p a.above;
    })
  where
    times-side : (k W b a c : ℕ) → 64 * a ≤ 64 * c + b * W → 64 * (k * a) ≤ 64 * (k * c) + b * (k * W)
    times-side k W b a c h = omega (arith, mul-le-mul_right k h)

-- a sum below 2 * m, which is 2 ^ J units
pub add_sized : {z y : Float} {e b e' b' : ℕ} {x x' : Signed} {W : ℕ} (m J : ℕ) → 2 ^ J ≡ 2 * m * L → 2 ^ (J - 53) * 2 ^ 52 ≡ m * L → J ≤ low binary64 + emax binary64 → b + b' + 1 ≤ 128 * m → 64 * (e + e' + 128 * m) ≤ 2 ^ 60
    → Approx z e b x W → Approx y e' b' x' W → Approx (add binary64 z y) (e + e' + 128 * m) (b + b' + 1) (added x x') W
unfolding added
add_sized {z} {y} {e} {b} {e'} {b'} {x} {x'} {W} m J top last room s t a c =
    let f : a.P + c.P < a.Q + c.Q + 2 ^ J = subst (λ (w : ℕ). a.P + c.P < a.Q + c.Q + w) (sym top) (sum_under_lem L m b b' a.P a.Q c.P c.Q (pow_pos 1074) s a.float⁺ c.float⁺) in
    let g : a.Q + c.Q < a.P + c.P + 2 ^ J = subst (λ (w : ℕ). a.Q + c.Q < a.P + c.P + w) (sym top) (sum_under_lem L m b b' a.Q a.P c.Q c.P (pow_pos 1074) s a.float⁻ c.float⁻) in
    let n = add_near binary64 z y a.P a.Q c.P c.Q J a.val c.val room f g in
    let u : Side L W (e + e' + 128 * m) n.P n.Q (x.plus + x'.plus) (x.minus + x'.minus) = add_side L W m e a.P a.Q x.plus x.minus e' c.P c.Q x'.plus x'.minus n.P n.Q (2 ^ (J - 53)) a.under c.under last n.under in
    let o : Side L W (e + e' + 128 * m) n.Q n.P (x.minus + x'.minus) (x.plus + x'.plus) = add_side L W m e a.Q a.P x.minus x.plus e' c.Q c.P x'.minus x'.plus n.Q n.P (2 ^ (J - 53)) a.over c.over last n.over in
    let h = sum_exact W b b' x.plus x.minus x'.plus x'.minus a.exact⁺ c.exact⁺ in
    let i = sum_exact W b b' x.minus x.plus x'.minus x'.plus a.exact⁻ c.exact⁻ in
    record {
      P = n.P;
      Q = n.Q;
      val = n.val;
      under = u;
      over = o;
      exact⁺ = one_more_lem W (b + b') (x.plus + x'.plus) (x.minus + x'.minus) h;
      exact⁻ = one_more_lem W (b + b') (x.minus + x'.minus) (x.plus + x'.plus) i;
      float⁺ = bound_side L W (e + e' + 128 * m) (b + b') n.P n.Q (x.plus + x'.plus) (x.minus + x'.minus) a.above t u h;
      float⁻ = bound_side L W (e + e' + 128 * m) (b + b') n.Q n.P (x.minus + x'.minus) (x.plus + x'.plus) a.above t o i;
      above = a.above;
    }

pub add_approx : {z y : Float} {e b e' b' : ℕ} {x x' : Signed} {W : ℕ} → b + b' ≤ 127 → 64 * (e + e' + 128) ≤ 2 ^ 60 → Approx z e b x W → Approx y e' b' x' W → Approx (add binary64 z y) (e + e' + 128) (b + b' + 1) (added x x') W
add_approx {z} {y} {e} {b} {e'} {b'} s t a c = add_sized 1 1075 refl refl (lit≤ tt) (more b b' s) t a c
  where
    more : (b b' : ℕ) → b + b' ≤ 127 → b + b' + 1 ≤ 128 * 1
    more b b' h = omega arith

-- the first factor is at most 1, the second at most t, the product at most g / 64
pub mul_approx : {z y : Float} {e b e' b' : ℕ} {x x' : Signed} {W W' : ℕ} (t g : ℕ) → b ≤ 64 → b' ≤ 64 * t → b * b' ≤ 64 * g → g ≤ 127 → 64 * (e * t + e' + 128) ≤ 2 ^ 60 → Approx z e b x W → Approx y e' b' x' W'
    → Approx (mul binary64 z y) (e * t + e' + 128) (g + 1) (times x x') (W * W')
unfolding times
mul_approx {z} {y} {e} {b} {e'} {b'} {x} {x'} {W} {W'} t g s s' f top room a c =
    let a⁺ = unit_side L b a.P a.Q s a.float⁺ in
    let a⁻ = unit_side L b a.Q a.P s a.float⁻ in
    let x⁺ = units_side t W' b' x'.plus x'.minus s' c.exact⁺ in
    let x⁻ = units_side t W' b' x'.minus x'.plus s' c.exact⁻ in
    let n = mul_near binary64 z y a.P a.Q c.P c.Q 1075 a.val c.val (lit≤ tt)
    (twice_under L b b' g a.P a.Q c.P c.Q (pow_pos 1074) f top (prod_bound (64 * a.P) (64 * a.Q) (64 * c.P) (64 * c.Q) (b * L) (b' * L) a.float⁺ a.float⁻ c.float⁺ c.float⁻))
    (twice_under L b b' g a.P a.Q c.Q c.P (pow_pos 1074) f top (prod_bound (64 * a.P) (64 * a.Q) (64 * c.Q) (64 * c.P) (b * L) (b' * L) a.float⁺ a.float⁻ c.float⁻ c.float⁺)) in
    let err : ℕ = e * t + e' + 128 in
    let u : Side L (W * W') err n.P n.Q (x.plus * x'.plus + x.minus * x'.minus) (x.plus * x'.minus + x.minus * x'.plus) =
    mul_side L W W' t e e' a.P a.Q c.P c.Q x.plus x.minus x'.plus x'.minus n.P n.Q (2 ^ 1022) (pow_pos 1074) refl a⁺ a⁻ x⁺ x⁻ a.under a.over c.under c.over n.under in
    let o : Side L (W * W') err n.Q n.P (x.plus * x'.minus + x.minus * x'.plus) (x.plus * x'.plus + x.minus * x'.minus) =
    mul_side L W W' t e e' a.P a.Q c.Q c.P x.plus x.minus x'.minus x'.plus n.Q n.P (2 ^ 1022) (pow_pos 1074) refl a⁺ a⁻ x⁻ x⁺ a.under a.over c.over c.under n.over in
    let h = product_exact W W' b b' g x.plus x.minus x'.plus x'.minus f (prod_bound (64 * x.plus) (64 * x.minus) (64 * x'.plus) (64 * x'.minus) (b * W) (b' * W') a.exact⁺ a.exact⁻ c.exact⁺ c.exact⁻) in
    let i = product_exact W W' b b' g x.plus x.minus x'.minus x'.plus f (prod_bound (64 * x.plus) (64 * x.minus) (64 * x'.minus) (64 * x'.plus) (b * W) (b' * W') a.exact⁺ a.exact⁻ c.exact⁻ c.exact⁺) in
    let w = mul-pos a.above c.above in
    record {
      P = n.P;
      Q = n.Q;
      val = n.val;
      under = u;
      over = o;
      exact⁺ = one_more_lem (W * W') g (x.plus * x'.plus + x.minus * x'.minus) (x.plus * x'.minus + x.minus * x'.plus) h;
      exact⁻ = one_more_lem (W * W') g (x.plus * x'.minus + x.minus * x'.plus) (x.plus * x'.plus + x.minus * x'.minus) i;
      float⁺ = bound_side L (W * W') err g n.P n.Q (x.plus * x'.plus + x.minus * x'.minus) (x.plus * x'.minus + x.minus * x'.plus) w room u h;
      float⁻ = bound_side L (W * W') err g n.Q n.P (x.plus * x'.minus + x.minus * x'.plus) (x.plus * x'.plus + x.minus * x'.minus) w room o i;
      above = w;
    }

-- an f64 that is the fraction
pub exact_approx : (z : Float) (P Q p q b M : ℕ) → 0 < M → Val binary64 z P Q → P * M ≡ p * L → Q * M ≡ q * L → 64 * P ≤ 64 * Q + b * L → 64 * Q ≤ 64 * P + b * L → 64 * p ≤ 64 * q + b * M → 64 * q ≤ 64 * p + b * M → Approx z 0 b (at p q) M
exact_approx z P Q p q b M m v e f g h i j = record { P = P; Q = Q; val = v; under = same L M P Q p q e f; over = same L M Q P q p f e; exact⁺ = i; exact⁻ = j; float⁺ = g; float⁻ = h; above = m }
  where
    same : (L M P Q p q : ℕ) → P * M ≡ p * L → Q * M ≡ q * L → Side L M 0 P Q p q
    same L M P Q p q e f = omega arith
