-- A power series between two arguments: its difference lies between the slopes at the two, times theirs. Over whole numbers.
use mathlib.Core.Path.{◌≡◌, refl, sym, ap, ◌∙◌, subst}
use Prim.Native.Nat.{ℕ, zero, suc, ◌+◌, ◌-◌, ◌*◌, ◌^◌, ◌≤◌, zero-le}
use native.Mathlib.Nat.{le_refl, le_trans, le_of_eq, add-suc, add_assoc, add_comm, mul_assoc, mul_comm, mul_left_comm, mul-add, add-mul, mul-one, mul-zero, mul-suc, zero-add, pow-zero, pow-suc, mul-le-mul_left, mul-le-mul_right, add-le-add, le-add_right}
use native.Mathlib.Omega.{arith}
use Rattle.elementary_fixed_point.specs.Series.{terms}
use Rattle.elementary_fixed_point.specs.Code.Bounds.{term}
use Rattle.elementary_fixed_point.proofs.PowerSums.{pow_one}

-- ---- one power

first : (y d z : ℕ) → (y + d) ^ 1 ≡ y ^ 1 + d * 1 * z ^ 0
first y d z = pow_one (y + d) ∙ ap (λ (w : ℕ). w + d) (sym (pow_one y)) ∙ ap (λ (w : ℕ). y ^ 1 + w) (sym (mul-one d) ∙ sym (mul-one (d * 1)) ∙ ap (λ (w : ℕ). d * 1 * w) (sym (pow-zero z)))

pub power_above : (y d i : ℕ) → (y + d) ^ suc i ≤ y ^ suc i + d * suc i * (y + d) ^ i
power_above y d zero = le_of_eq (first y d (y + d))
power_above y d (suc i) =
    let z : ℕ = y + d in
    let Z : ℕ = (y + d) ^ suc i in
    le_trans (le_of_eq (pow-suc z (suc i) ∙ mul-add Z y d))
    (le_trans (add-le-add (mul-le-mul_right y (power_above y d i)) (le_refl (Z * d)))
    (le_trans (le_of_eq (ap (λ (w : ℕ). w + Z * d) (add-mul (y ^ suc i) (d * suc i * z ^ i) y ∙ ap (λ (w : ℕ). w + d * suc i * z ^ i * y) (sym (pow-suc y (suc i))))))
    (le_trans (add-le-add (add-le-add (le_refl (y ^ suc (suc i))) (mul-le-mul_left (d * suc i * z ^ i) (le-add_right y d))) (le_refl (Z * d)))
    (le_of_eq (ap (λ (w : ℕ). y ^ suc (suc i) + w + Z * d) (mul_assoc (d * suc i) (z ^ i) z ∙ ap (λ (w : ℕ). d * suc i * w) (sym (pow-suc z i))) ∙ add_assoc (y ^ suc (suc i)) (d * suc i * Z) (Z * d) ∙ ap (λ (w : ℕ). y ^ suc (suc i) + w) (gather d (suc i) Z))))))
  where
    gather : (d n Z : ℕ) → d * n * Z + Z * d ≡ d * suc n * Z
    gather d n Z = ap (λ (w : ℕ). d * n * Z + w) (mul_comm Z d) ∙ sym (add-mul (d * n) d Z) ∙ ap (λ (w : ℕ). w * Z) (sym (mul-suc d n))

pub power_below : (y d i : ℕ) → y ^ suc i + d * suc i * y ^ i ≤ (y + d) ^ suc i
power_below y d zero = le_of_eq (sym (first y d y))
power_below y d (suc i) =
    let Y : ℕ = y ^ suc i in
    le_trans (le_of_eq (spread (suc i)))
    (le_trans (le-add_right (Y * y + d * suc i * y ^ i * y + Y * d) (d * suc i * y ^ i * d))
    (le_trans (le_of_eq (fold Y (d * suc i * y ^ i)))
    (le_trans (mul-le-mul_right (y + d) (power_below y d i)) (le_of_eq (sym (pow-suc (y + d) (suc i)))))))
  where
    spread : (n : ℕ) → y ^ suc (suc i) + d * suc n * y ^ suc i ≡ y ^ suc i * y + d * n * y ^ i * y + y ^ suc i * d
    spread n =
        ap (λ (w : ℕ). w + d * suc n * y ^ suc i) (pow-suc y (suc i))
        ∙ ap (λ (w : ℕ). y ^ suc i * y + w) (ap (λ (w : ℕ). w * y ^ suc i) (mul-suc d n) ∙ add-mul (d * n) d (y ^ suc i) ∙ ap (λ (w : ℕ). w + d * y ^ suc i) (ap (λ (w : ℕ). d * n * w) (pow-suc y i) ∙ sym (mul_assoc (d * n) (y ^ i) y)) ∙ ap (λ (w : ℕ). d * n * y ^ i * y + w) (mul_comm d (y ^ suc i)))
        ∙ sym (add_assoc (y ^ suc i * y) (d * n * y ^ i * y) (y ^ suc i * d))

    fold : (Y g : ℕ) → Y * y + g * y + Y * d + g * d ≡ (Y + g) * (y + d)
    fold Y g = simp (add-mul, mul-add, add_assoc, add_comm) refl

-- ---- the series with the coefficients k, and its slope's coefficients
abbrev pub slope : (ℕ → ℕ) → ℕ → ℕ
slope k i = k (suc i) * suc i

module _ (k : ℕ → ℕ) (c q y d Z : ℕ) where
  less : (i : ℕ) → suc c - suc i ≡ c - i
  less i = omega arith

  top : (kn Y D W : ℕ) → kn * (Y + D) * W ≡ kn * Y * W + kn * D * W
  top kn Y D W = ap (λ (w : ℕ). w * W) (mul-add kn Y D) ∙ add-mul (kn * Y) (kn * D) W

  turn : (kn n x W : ℕ) → kn * (d * n * x) * W ≡ d * (kn * n * x * W)
  turn kn n x W = simp (mul_assoc, mul_left_comm) refl

  both : (i x : ℕ) → k (suc i) * (y ^ suc i + d * suc i * x ^ i) * Z ^ (suc c - suc i) ≡ term k (suc c) y Z (suc i) + d * term (slope k) c x Z i
  both i x = top (k (suc i)) (y ^ suc i) (d * suc i * x ^ i) (Z ^ (suc c - suc i)) ∙ ap (λ (w : ℕ). k (suc i) * y ^ suc i * Z ^ (suc c - suc i) + w) (turn (k (suc i)) (suc i) (x ^ i) (Z ^ (suc c - suc i)) ∙ ap (λ (w : ℕ). d * (k (suc i) * suc i * x ^ i * Z ^ w)) (less i))

  term_above : (i : ℕ) → term k (suc c) (y + d) Z (suc i) ≤ term k (suc c) y Z (suc i) + d * term (slope k) c (y + d) Z i
  term_above i = le_trans (mul-le-mul_right (Z ^ (suc c - suc i)) (mul-le-mul_left (k (suc i)) (power_above y d i))) (le_of_eq (both i (y + d)))

  term_below : (i : ℕ) → term k (suc c) y Z (suc i) + d * term (slope k) c y Z i ≤ term k (suc c) (y + d) Z (suc i)
  term_below i = le_trans (le_of_eq (sym (both i y))) (mul-le-mul_right (Z ^ (suc c - suc i)) (mul-le-mul_left (k (suc i)) (power_below y d i)))

  pair : (t r g h : ℕ) → t + d * g + (r + d * h) ≡ t + r + d * (g + h)
  pair t r g h = ap (λ (w : ℕ). w) (shuffle t (d * g) r (d * h)) ∙ ap (λ (w : ℕ). t + r + w) (sym (mul-add d g h))
    where
      shuffle : (a b e f : ℕ) → a + b + (e + f) ≡ a + e + (b + f)
      shuffle a b e f = omega arith

  pub terms_above : (n i : ℕ) → terms k (suc c) q (y + d) Z n (suc i) ≤ terms k (suc c) q y Z n (suc i) + d * terms (slope k) c q (y + d) Z n i
  unfolding terms
  terms_above zero i = zero-le
  terms_above (suc n) i =
      subst (λ (j : ℕ). term k (suc c) (y + d) Z (suc i) + terms k (suc c) q (y + d) Z n j ≤ term k (suc c) y Z (suc i) + terms k (suc c) q y Z n j + d * (term (slope k) c (y + d) Z i + terms (slope k) c q (y + d) Z n (q + i))) (sym (add-suc q i))
      (le_trans (add-le-add (term_above i) (terms_above n (q + i)))
      (le_of_eq (pair (term k (suc c) y Z (suc i)) (terms k (suc c) q y Z n (suc (q + i))) (term (slope k) c (y + d) Z i) (terms (slope k) c q (y + d) Z n (q + i)))))

  pub terms_below : (n i : ℕ) → terms k (suc c) q y Z n (suc i) + d * terms (slope k) c q y Z n i ≤ terms k (suc c) q (y + d) Z n (suc i)
  unfolding terms
  terms_below zero i = le_of_eq (zero-add (d * 0) ∙ mul-zero d)
  terms_below (suc n) i =
      subst (λ (j : ℕ). term k (suc c) y Z (suc i) + terms k (suc c) q y Z n j + d * (term (slope k) c y Z i + terms (slope k) c q y Z n (q + i)) ≤ term k (suc c) (y + d) Z (suc i) + terms k (suc c) q (y + d) Z n j) (sym (add-suc q i))
      (le_trans (le_of_eq (sym (pair (term k (suc c) y Z (suc i)) (terms k (suc c) q y Z n (suc (q + i))) (term (slope k) c y Z i) (terms (slope k) c q y Z n (q + i)))))
      (add-le-add (term_below i) (terms_below n (q + i))))
