-- The second quotient, (2 n - d) / (2 d + n), from n / d in units of 2 ^ -61: its two parts are rounded to floats and divided again.
use mathlib.Core.Path.{◌≡◌, refl, sym, ap, ◌∙◌, subst}
use mathlib.Core.Bool.{Bool, true, false}
use Prim.Native.Nat.{ℕ, ◌+◌, ◌-◌, ◌*◌, ◌^◌, ◌≤◌, ◌<◌}
use native.Mathlib.Nat.{le_refl, le_trans, le_of_eq, mul_assoc, mul_comm, mul_left_comm, mul_right_comm, add-mul, mul-add, mul-sub, mul-pos, mul-le-mul_left, mul-le-mul_right, le_of_mul-le-mul_right, add-le-add}
use native.Mathlib.Omega.{arith}
use lib.IntN.{negsuc}
use lib.Dec.{T, lit≤}
use lib.Pow.{pow_pos}
use lib.Ieee.{Float, nan, inf, fin, of_bits}
use lib.Ieee.Exact.{HasValue}
use lib.Ieee.Order.{transfer}
use lib.Ieee.Positive.{num, den, den_pos, value→cross}
use Rattle.elementary_fixed_point.specs.Conversion.{scaled}
use Rattle.elementary_fixed_point.specs.Ratio.{ratio}
use Rattle.elementary_fixed_point.specs.Code.Bounds.{nonnegative, Proper, Enclosure}
use Rattle.elementary_fixed_point.proofs.Enclosures.{enclosure_cancel, enclosure_times, enclosure_is}
use Rattle.elementary_fixed_point.proofs.ToFloat.{Scaled, scaled_near}
use Rattle.elementary_fixed_point.proofs.RatioBound.{ratio_near}
use Rattle.elementary_arctangent.specs.Steps.{second}

sub_mul : (a b d : ℕ) → (a - b) * d ≡ a * d - b * d
sub_mul a b d = mul_comm (a - b) d ∙ mul-sub d a b ∙ ap (λ (z : ℕ). z - d * b) (mul_comm d a) ∙ ap (λ (z : ℕ). a * d - z) (mul_comm d b)

-- ---- the two parts over d, in units of 2 ^ -61, from q of these units that n / d is known to within 513 of
module _ (n d q : ℕ) (eq : Enclosure q (q + 513) (n * 2 ^ 61) d) where
  top_part : d ≤ 2 * n → Enclosure (2 * q - 2 ^ 61) (2 * q - 2 ^ 61 + 1026) ((2 * n - d) * 2 ^ 61) d
  top_part h = record {
    low = le_trans (le_of_eq (sub_mul (2 * q) (2 ^ 61) d)) (le_trans (lower (q * d) (n * 2 ^ 61) (2 ^ 61 * d) (2 * q * d) (mul_assoc 2 q d) eq.low) (le_of_eq (sym (is n d))));
    high = le_trans (le_of_eq (is n d)) (le_trans (upper (n * 2 ^ 61) (q * d) (513 * d) (2 ^ 61 * d) (le_trans eq.high (le_of_eq (add-mul q 513 d)))) (le_of_eq (sym collect)));
  }
    where
      is : (n d : ℕ) → (2 * n - d) * 2 ^ 61 ≡ 2 * (n * 2 ^ 61) - 2 ^ 61 * d
      is n d = omega arith

      lower : (qd m kd x : ℕ) → x ≡ 2 * qd → qd ≤ m → x - kd ≤ 2 * m - kd
      lower qd m kd x e h = omega arith

      upper : (m qd r kd : ℕ) → m ≤ qd + r → 2 * m - kd ≤ (2 * qd - kd) + 2 * r
      upper m qd r kd h = omega arith

      collect : (2 * q - 2 ^ 61 + 1026) * d ≡ (2 * (q * d) - 2 ^ 61 * d) + 2 * (513 * d)
      collect = add-mul (2 * q - 2 ^ 61) 1026 d ∙ ap (λ (z : ℕ). z + 1026 * d) (sub_mul (2 * q) (2 ^ 61) d ∙ ap (λ (z : ℕ). z - 2 ^ 61 * d) (mul_assoc 2 q d)) ∙ ap (λ (z : ℕ). (2 * (q * d) - 2 ^ 61 * d) + z) (mul_assoc 2 513 d)

  bottom_part : Enclosure (2 ^ 62 + q) (2 ^ 62 + q + 513) ((2 * d + n) * 2 ^ 61) d
  bottom_part = record {
    low = le_trans (le_of_eq (add-mul (2 ^ 62) q d)) (lower d n (q * d) eq.low);
    high = le_trans (upper d n (q * d) (513 * d) (le_trans eq.high (le_of_eq (add-mul q 513 d)))) (le_of_eq (sym (add-mul (2 ^ 62 + q) 513 d ∙ ap (λ (z : ℕ). z + 513 * d) (add-mul (2 ^ 62) q d))));
  }
    where
      lower : (d n qd : ℕ) → qd ≤ n * 2 ^ 61 → 2 ^ 62 * d + qd ≤ (2 * d + n) * 2 ^ 61
      lower d n qd h = omega arith

      upper : (d n qd k : ℕ) → n * 2 ^ 61 ≤ qd + k → (2 * d + n) * 2 ^ 61 ≤ 2 ^ 62 * d + qd + k
      upper d n qd k h = omega arith

-- ---- x is c₁ / c₂ in units of 2 ^ -61 from below, to within 513, where c₁ and c₂ are the parts u and v of U and W, each rounded
module _ (U W d u v c₁ c₂ x : ℕ) (dp : 0 < d) (eu : Enclosure u (u + 1026) (U * 2 ^ 61) d) (ev : Enclosure v (v + 513) (W * 2 ^ 61) d) (vl : 2 ^ 62 ≤ v)
    (u₁ : c₁ ≤ u + 1024) (o₁ : u ≤ c₁ + 1024) (u₂ : c₂ ≤ v + 1024) (o₂ : v ≤ c₂ + 1024) (xl : x ≤ 2 ^ 60) (ex : Enclosure x (x + 513) (c₁ * 2 ^ 61) c₂) where
  -- W is at least 2 d
  wide : 2 * d ≤ W
  wide = le_of_mul-le-mul_right {m = 2 * d} {n = W} {k = 2 ^ 61} (le_trans (le_of_eq (is d)) (le_trans (mul-le-mul_right d vl) ev.low)) (pow_pos 61)
    where
      is : (d : ℕ) → 2 * d * 2 ^ 61 ≡ 2 ^ 62 * d
      is d = omega arith

  under : x * W ≤ U * 2 ^ 61 + 1793 * d
  under =
      le_of_mul-le-mul_right {m = x * W} {n = U * 2 ^ 61 + 1793 * d} {k = 2 ^ 61}
      (le_trans (le_of_eq (mul_assoc x W (2 ^ 61)))
      (le_trans (mul-le-mul_left x (le_trans ev.high (mul-le-mul_right d (room v c₂ o₂))))
      (le_trans (le_of_eq (sym (mul_assoc x (c₂ + 1537) d)))
      (le_trans (mul-le-mul_right d (le_trans (le_of_eq (mul-add x c₂ 1537)) (gather (x * c₂) x c₁ u ex.low xl u₁)))
      (le_trans (le_of_eq (mul_right_comm (u + 1793) (2 ^ 61) d))
      (mul-le-mul_right (2 ^ 61) (le_trans (le_of_eq (add-mul u 1793 d)) (add-le-add eu.low (le_refl (1793 * d))))))))))
      (pow_pos 61)
    where
      room : (v c : ℕ) → v ≤ c + 1024 → v + 513 ≤ c + 1537
      room v c h = omega arith

      gather : (xc x c u : ℕ) → xc ≤ c * 2 ^ 61 → x ≤ 2 ^ 60 → c ≤ u + 1024 → xc + x * 1537 ≤ (u + 1793) * 2 ^ 61
      gather xc x c u a b h = omega arith

  over : U * 2 ^ 61 ≤ (x + 1796) * W
  over =
      le_of_mul-le-mul_right {m = U * 2 ^ 61} {n = (x + 1796) * W} {k = 2 ^ 61}
      (le_trans (mul-le-mul_right (2 ^ 61) (le_trans eu.high (mul-le-mul_right d (room u c₁ o₁))))
      (le_trans (le_of_eq (mul_right_comm (c₁ + 2050) d (2 ^ 61)))
      (le_trans (mul-le-mul_right d (le_trans (gather c₁ c₂ (x * c₂) (le_trans ex.high (le_of_eq (add-mul x 513 c₂))) (large v c₂ vl o₂)) (le_of_eq (sym (add-mul x 1539 c₂)))))
      (le_trans (le_of_eq (mul_assoc (x + 1539) c₂ d))
      (le_trans (mul-le-mul_left (x + 1539) (le_trans (mul-le-mul_right d u₂) (le_trans (le_of_eq (add-mul v 1024 d)) (spread (v * d) d W ev.low wide))))
      (le_trans (le_of_eq (sym (mul_assoc (x + 1539) (2 ^ 61 + 512) W)))
      (le_trans (mul-le-mul_right W (grow x xl)) (le_of_eq (mul_right_comm (x + 1796) (2 ^ 61) W)))))))))
      (pow_pos 61)
    where
      room : (u c : ℕ) → u ≤ c + 1024 → u + 1026 ≤ c + 2050
      room u c h = omega arith

      large : (v c : ℕ) → 2 ^ 62 ≤ v → v ≤ c + 1024 → 2 ^ 62 ≤ c + 1024
      large v c a b = omega arith

      gather : (c k xk : ℕ) → c * 2 ^ 61 ≤ xk + 513 * k → 2 ^ 62 ≤ k + 1024 → (c + 2050) * 2 ^ 61 ≤ xk + 1539 * k
      gather c k xk a b = omega arith

      spread : (vd d W : ℕ) → vd ≤ W * 2 ^ 61 → 2 * d ≤ W → vd + 1024 * d ≤ (2 ^ 61 + 512) * W
      spread vd d W a b = omega arith

      grow : (x : ℕ) → x ≤ 2 ^ 60 → (x + 1539) * (2 ^ 61 + 512) ≤ (x + 1796) * 2 ^ 61
      grow x h = omega arith

  lowered : Enclosure (x - 2 ^ 10) (x - 2 ^ 10 + 2820) (U * 2 ^ 61) W
  lowered = record {
    low = le_trans (le_of_eq (sub_mul x (2 ^ 10) W)) (off (x * W) (U * 2 ^ 61) W d under wide);
    high = le_trans over (mul-le-mul_right W (fill x));
  }
    where
      off : (xw m w d : ℕ) → xw ≤ m + 1793 * d → 2 * d ≤ w → xw - 2 ^ 10 * w ≤ m
      off xw m w d a b = omega arith

      fill : (x : ℕ) → x + 1796 ≤ x - 2 ^ 10 + 2820
      fill x = omega arith

-- ---- the floats: two numbers of units of 2 ^ -61, c₁ and c₂ of them
module _ (a b : Float) (c₁ c₂ : ℕ) (va : HasValue a false c₁ (2 ^ 61)) (vb : HasValue b false c₂ (2 ^ 61)) (cp : 0 < c₂) (cl : 2 * c₁ ≤ c₂) where
  sign_of : (x : Float) (c : ℕ) → HasValue x false c (2 ^ 61) → T (nonnegative x)
  sign_of nan c v = absurd v
  sign_of (inf s) c v = absurd v
  sign_of (fin true m e) c v = absurd (subst (λ (b : Bool). T b) v.0 tt)
  sign_of (fin false m e) c v = tt

  a_is : num a * 2 ^ 61 ≡ c₁ * den a
  a_is = value→cross a c₁ (2 ^ 61) va

  b_is : num b * 2 ^ 61 ≡ c₂ * den b
  b_is = value→cross b c₂ (2 ^ 61) vb

  parts_proper : Proper a b
  parts_proper = record {
    left = sign_of a c₁ va;
    right = sign_of b c₂ vb;
    above = lib.Ieee.Positive.first_pos (num b) (2 ^ 61) (subst (λ (z : ℕ). 0 < z) (sym b_is) (mul-pos cp (den_pos b)));
    upto = transfer (num a) (num b) (den a) (den b) c₁ c₂ (2 ^ 61) (2 ^ 61) (pow_pos 61) (pow_pos 61) a_is b_is (mul-le-mul_right (2 ^ 61) (less c₁ c₂ cl));
  }
    where
      less : (x y : ℕ) → 2 * x ≤ y → x ≤ y
      less x y h = omega arith

  parts_ratio : Enclosure (ratio a b) (ratio a b + 513) (c₁ * 2 ^ 61) c₂
  parts_ratio =
      let k : ℕ = den b * den a in
      enclosure_cancel (c₁ * 2 ^ 61) c₂ k (mul-pos (den_pos b) (den_pos a))
      (enclosure_is (c₁ * 2 ^ 61 * k) (c₂ * k)
      (ap (λ (z : ℕ). z * 2 ^ 61) (mul_right_comm (num a) (den b) (2 ^ 61) ∙ ap (λ (z : ℕ). z * den b) a_is) ∙ shift c₁ (den a) (den b) (2 ^ 61))
      (mul_right_comm (num b) (den a) (2 ^ 61) ∙ ap (λ (z : ℕ). z * den a) b_is ∙ mul_assoc c₂ (den b) (den a))
      (enclosure_times (2 ^ 61) (ratio_near a b parts_proper)))
    where
      shift : (c x y p : ℕ) → c * x * y * p ≡ c * p * (y * x)
      shift c x y p = simp (mul_assoc, mul_comm, mul_left_comm) refl

  parts_upto : ratio a b ≤ 2 ^ 60
  parts_upto = le_of_mul-le-mul_right {m = ratio a b} {n = 2 ^ 60} {k = c₂} (le_trans parts_ratio.low (halve c₁ c₂ cl)) cp
    where
      halve : (x y : ℕ) → 2 * x ≤ y → x * 2 ^ 61 ≤ 2 ^ 60 * y
      halve x y h = omega arith

-- ---- the second quotient from q
abbrev unit : Float
unit = fin false 1 (negsuc 60)

abbrev top : ℕ → Float
top q = scaled (2 * q - 2 ^ 61) unit

abbrev bottom : ℕ → Float
bottom q = scaled (2 ^ 62 + q) unit

module _ (q : ℕ) (ql : q ≤ 2 ^ 61) where
  su : Scaled 61 (2 * q - 2 ^ 61) (top q)
  su = scaled_near 60 (2 * q - 2 ^ 61) (lit≤ tt) (few q ql)
    where
      few : (q : ℕ) → q ≤ 2 ^ 61 → 2 * q - 2 ^ 61 < 2 ^ 64
      few q h = omega arith

  sv : Scaled 61 (2 ^ 62 + q) (bottom q)
  sv = scaled_near 60 (2 ^ 62 + q) (lit≤ tt) (few q ql)
    where
      few : (q : ℕ) → q ≤ 2 ^ 61 → 2 ^ 62 + q < 2 ^ 64
      few q h = omega arith

  some : 0 < sv.c
  some = go q sv.c sv.over
    where
      go : (q c : ℕ) → 2 ^ 62 + q ≤ c + 1024 → 0 < c
      go q c h = omega arith

  twice : 2 * su.c ≤ sv.c
  twice = go q su.c sv.c ql su.under sv.over
    where
      go : (q c k : ℕ) → q ≤ 2 ^ 61 → c ≤ 2 * q - 2 ^ 61 + 1024 → 2 ^ 62 + q ≤ k + 1024 → 2 * c ≤ k
      go q c k h a b = omega arith

  pub second_proper : Proper (top q) (bottom q)
  second_proper = parts_proper (top q) (bottom q) su.c sv.c su.value sv.value some twice

  module _ (n d : ℕ) (dp : 0 < d) (more : d ≤ 2 * n) (eq : Enclosure q (q + 513) (n * 2 ^ 61) d) where
    pub second-near : Enclosure (second q) (second q + 2820) ((2 * n - d) * 2 ^ 61) (2 * d + n)
    unfolding second of_bits
    second-near =
        lowered (2 * n - d) (2 * d + n) d (2 * q - 2 ^ 61) (2 ^ 62 + q) su.c sv.c (ratio (top q) (bottom q)) dp (top_part n d q eq more) (bottom_part n d q eq) (native.Mathlib.Nat.le-add_right (2 ^ 62) q)
        su.under su.over sv.under sv.over (parts_upto (top q) (bottom q) su.c sv.c su.value sv.value some twice) (parts_ratio (top q) (bottom q) su.c sv.c su.value sv.value some twice)
