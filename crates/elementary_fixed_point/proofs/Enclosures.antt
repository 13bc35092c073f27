-- A fraction between two whole numbers: through sums, and through products whose lower 64 bits are dropped.
use Rattle.std.proofs.Common.{◌≡◌, ℕ, ◌+◌, ◌*◌, ◌/◌, ◌^◌, ◌<◌, ◌≤◌, sym, refl, ap, ◌∙◌, subst, le_trans, le_of_eq, le_refl, le_of_lt, add-le-add, mul-le-mul_right, mul_assoc, mul_comm, add-mul, mul-le-mul, mul-le-mul_left, le-div_iff_mul-le, mul-add, mul_right_comm, div-mul-le_self, le_of_mul-le-mul_right, mul_left_comm, arith, pow_pos, pow-add}
use native.Mathlib.Nat.{div-le_of_le-mul, lt-div-mul-add}
use Rattle.elementary_fixed_point.specs.Product.{hi}
use Rattle.elementary_fixed_point.specs.Code.Bounds.{Enclosure}

pub enclosure_cancel : {l h : ℕ} (n d k : ℕ) → 0 < k → Enclosure l h (n * k) (d * k) → Enclosure l h n d
enclosure_cancel {l} {h} n d k p e = record {
  low = le_of_mul-le-mul_right (le_trans (le_of_eq (mul_assoc l d k)) e.low) p;
  high = le_of_mul-le-mul_right (le_trans e.high (le_of_eq (sym (mul_assoc h d k)))) p;
}

pub enclosure_times : {l h n d : ℕ} (k : ℕ) → Enclosure l h n d → Enclosure l h (n * k) (d * k)
enclosure_times {l} {h} {n} {d} k e = record {
  low = le_trans (le_of_eq (sym (mul_assoc l d k))) (mul-le-mul_right k e.low);
  high = le_trans (mul-le-mul_right k e.high) (le_of_eq (mul_assoc h d k));
}

pub enclosure_add : {l h n l' h' n' d : ℕ} → Enclosure l h n d → Enclosure l' h' n' d → Enclosure (l + l') (h + h') (n + n') d
enclosure_add {l} {h} {n} {l'} {h'} {n'} {d} a b = record {
  low = le_trans (le_of_eq (add-mul l l' d)) (add-le-add a.low b.low);
  high = le_trans (add-le-add a.high b.high) (le_of_eq (sym (add-mul h h' d)));
}

-- with an equal numerator and an equal denominator
pub enclosure_is : {l h n d : ℕ} (n' d' : ℕ) → n ≡ n' → d ≡ d' → Enclosure l h n d → Enclosure l h n' d'
enclosure_is {l} {h} {n} {d} n' d' p q e = subst (λ (x : ℕ). Enclosure l h n' x) q (subst (λ (x : ℕ). Enclosure l h x d) p e)

pub enclosure_widen : {l n d : ℕ} (e f : ℕ) → e ≤ f → Enclosure l (l + e) n d → Enclosure l (l + f) n d
enclosure_widen {l} {n} {d} e f h x = record { low = x.low; high = le_trans x.high (mul-le-mul_right d (add-le-add (le_refl l) h)) }

-- in a unit t times as fine
pub enclosure_finer : (x k n d U t : ℕ) → Enclosure x (x + k) (n * U) d → Enclosure (x * t) (x * t + k * t) (n * (U * t)) d
enclosure_finer x k n d U t e = record {
  low = le_trans (le_of_eq (mul_right_comm x t d)) (le_trans (mul-le-mul_right t e.low) (le_of_eq (mul_assoc n U t)));
  high = le_trans (le_of_eq (sym (mul_assoc n U t))) (le_trans (mul-le-mul_right t e.high) (le_of_eq (mul_right_comm (x + k) d t ∙ ap (λ (z : ℕ). z * d) (add-mul x k t))));
}

-- ---- the upper half of a product

pub hi_le : (p w : ℕ) → p < 2 ^ 64 → hi p w ≤ w
hi_le p w h = div-le_of_le-mul (2 ^ 64) {m = p * w} {n = w} (mul-le-mul_right w (le_of_lt h))

pub hi_mono : (u v u' v' : ℕ) → u ≤ u' → v ≤ v' → hi u v ≤ hi u' v'
hi_mono u v u' v' a b = (le-div_iff_mul-le {k = 2 ^ 64} {x = u * v / 2 ^ 64} {y = u' * v'} (pow_pos 64)).1 (le_trans (div-mul-le_self (u * v) (2 ^ 64)) (mul-le-mul a b))

swap4 : (a b c d : ℕ) → a * b * (c * d) ≡ a * c * (b * d)
swap4 a b c d = simp (mul_assoc, mul_left_comm) refl

expand : (u e v f : ℕ) → (u + e) * (v + f) ≡ u * v + u * f + (e * v + e * f)
expand u e v f = add-mul u e (v + f) ∙ ap (λ (x : ℕ). x + e * (v + f)) (mul-add u v f) ∙ ap (λ (x : ℕ). u * v + u * f + x) (mul-add e v f)

collect : (q e f P : ℕ) → (q + (e + f + 2)) * P ≡ q * P + (e * P + f * P + 2 * P)
collect q e f P = add-mul q (e + f + 2) P ∙ ap (λ (x : ℕ). q * P + x) (add-mul (e + f) 2 P ∙ ap (λ (x : ℕ). x + 2 * P) (add-mul e f P))

parts : (uv uf ev ef qP eP fP P : ℕ) → uv < qP + P → uf ≤ fP → ev ≤ eP → ef ≤ P → uv + uf + (ev + ef) ≤ qP + (eP + fP + 2 * P)
parts uv uf ev ef qP eP fP P a b c d = omega arith

-- two numbers, each known from below to within e and f: their product without what is below P is known to within e + f + 2
wide : (P u e v f : ℕ) → 0 < P → u ≤ P → v ≤ P → e * f ≤ P → (u + e) * (v + f) ≤ (u * v / P + (e + f + 2)) * P
wide P u e v f p a b c =
    subst (λ (x : ℕ). x ≤ (u * v / P + (e + f + 2)) * P) (sym (expand u e v f))
    (subst (λ (x : ℕ). u * v + u * f + (e * v + e * f) ≤ x) (sym (collect (u * v / P) e f P))
    (parts (u * v) (u * f) (e * v) (e * f) (u * v / P * P) (e * P) (f * P) P (lt-div-mul-add p) (le_trans (mul-le-mul_right f a) (le_of_eq (mul_comm P f))) (mul-le-mul_left e b) c))

pub enclosure_hi : {u n d v n' d' : ℕ} (e f : ℕ) → u < 2 ^ 64 → v < 2 ^ 64 → e * f ≤ 2 ^ 64 → Enclosure u (u + e) n d → Enclosure v (v + f) n' d'
    → Enclosure (hi u v) (hi u v + (e + f + 2)) (n * n') (d * d' * 2 ^ 64)
enclosure_hi {u} {n} {d} {v} {n'} {d'} e f a b c x y =
    record {
      low = le_trans (le_of_eq (regroup (hi u v) (d * d') (2 ^ 64)))
          (le_trans (mul-le-mul_right (d * d') (div-mul-le_self (u * v) (2 ^ 64)))
          (le_trans (le_of_eq (swap4 u v d d')) (mul-le-mul x.low y.low)));
      high = le_trans (mul-le-mul x.high y.high)
          (le_trans (le_of_eq (swap4 (u + e) d (v + f) d'))
          (le_trans (mul-le-mul_right (d * d') (wide (2 ^ 64) u e v f (pow_pos 64) (le_of_lt a) (le_of_lt b) c))
          (le_of_eq (sym (regroup (hi u v + (e + f + 2)) (d * d') (2 ^ 64))))));
    }
  where
    regroup : (q z P : ℕ) → q * (z * P) ≡ q * P * z
    regroup q z P = ap (λ (x : ℕ). q * x) (mul_comm z P) ∙ sym (mul_assoc q P z)

-- ---- powers

pub twos : (s t k : ℕ) → s + t ≡ k + 64 → 2 ^ s * 2 ^ t ≡ 2 ^ k * 2 ^ 64
twos s t k h = sym (pow-add 2 s t) ∙ ap (λ (x : ℕ). 2 ^ x) h ∙ pow-add 2 k 64

-- one power of a / b times another: the units are 2 ^ -s, 2 ^ -t and 2 ^ -k
pub enclosure_power : (a b : ℕ) {u v : ℕ} (e f i j s t k : ℕ) → s + t ≡ k + 64 → u < 2 ^ 64 → v < 2 ^ 64 → e * f ≤ 2 ^ 64
    → Enclosure u (u + e) (a ^ i * 2 ^ s) (b ^ i) → Enclosure v (v + f) (a ^ j * 2 ^ t) (b ^ j) → Enclosure (hi u v) (hi u v + (e + f + 2)) (a ^ (i + j) * 2 ^ k) (b ^ (i + j))
enclosure_power a b e f i j s t k h ul vl ef x y =
    enclosure_cancel (a ^ (i + j) * 2 ^ k) (b ^ (i + j)) (2 ^ 64) (pow_pos 64)
    (enclosure_is (a ^ (i + j) * 2 ^ k * 2 ^ 64) (b ^ (i + j) * 2 ^ 64)
    (swap4 (a ^ i) (2 ^ s) (a ^ j) (2 ^ t) ∙ ap (λ (z : ℕ). z * (2 ^ s * 2 ^ t)) (sym (pow-add a i j)) ∙ ap (λ (z : ℕ). a ^ (i + j) * z) (twos s t k h) ∙ sym (mul_assoc (a ^ (i + j)) (2 ^ k) (2 ^ 64)))
    (ap (λ (z : ℕ). z * 2 ^ 64) (sym (pow-add b i j)))
    (enclosure_hi e f ul vl ef x y))
