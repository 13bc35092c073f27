-- An x above 0 is s / 2 ^ 52 * 2 ^ e for only one s from 2 ^ 52 to below 2 ^ 53 and one e.
use mathlib.Core.Path.{◌≡◌, sym, ap, ◌∙◌}
use Prim.Native.Nat.{ℕ, suc, ◌+◌, ◌*◌, ◌^◌, ◌≤◌, ◌<◌}
use native.Mathlib.Nat.{le_trans, le_of_eq, lt_of_lt_of_le, mul_assoc, mul_right_comm, mul-one, mul-le-mul_right, mul-lt-mul_of_pos_right, eq_of_mul-eq-mul_right}
use native.Mathlib.Omega.{arith}
use lib.IntN.{ℤ, pos, negsuc}
use lib.Pow.{pow-add, pow_pos}
use lib.Ieee.{Float, up, down, size, minus}
use lib.Ieee.Digits.{minus_val}
use lib.Ieee.Positive.{num, den, den_pos}
use Rattle.ieee754.proofs.Patterns.{size_is}
use Rattle.elementary_logarithm.specs.Promise.{Normal}

digits : (s p : ℕ) → 2 ^ 52 ≤ s → s < 2 ^ 53 → size (s * 2 ^ p) ≡ suc (52 + p)
digits s p a b = size_is (s * 2 ^ p) (52 + p) (le_trans (le_of_eq (pow-add 2 52 p)) (mul-le-mul_right (2 ^ p) a)) (lt_of_lt_of_le (mul-lt-mul_of_pos_right b (pow_pos p)) (le_of_eq (sym (pow-add 2 53 p) ∙ ap (λ (z : ℕ). 2 ^ z) (move p))))
  where
    move : (p : ℕ) → 53 + p ≡ suc (52 + p)
    move p = omega arith

pub one_form : (s p t q : ℕ) → 2 ^ 52 ≤ s → s < 2 ^ 53 → 2 ^ 52 ≤ t → t < 2 ^ 53 → s * 2 ^ p ≡ t * 2 ^ q → (p ≡ q) × (s ≡ t)
one_form s p t q a b c d h =
    let e : p ≡ q = cancel p q (sym (digits s p a b) ∙ ap size h ∙ digits t q c d) in
    (e, eq_of_mul-eq-mul_right (2 ^ p) (pow_pos p) s t (h ∙ ap (λ (z : ℕ). t * 2 ^ z) (sym e)))
  where
    cancel : (p q : ℕ) → suc (52 + p) ≡ suc (52 + q) → p ≡ q
    cancel p q h = omega arith

pub normal_unique : (x : Float) (s : ℕ) (e : ℤ) (t : ℕ) (g : ℤ) → Normal x s e → Normal x t g → (e ≡ g) × (s ≡ t)
normal_unique x s e t g m n = go e g cross
  where
    swap : (a b c : ℕ) → a * b * c ≡ a * c * b
    swap a b c = mul_right_comm a b c

    cross : s * up e * down g ≡ t * up g * down e
    cross = eq_of_mul-eq-mul_right (den x) (den_pos x) (s * up e * down g) (t * up g * down e) (swap (s * up e) (down g) (den x) ∙ ap (λ (z : ℕ). z * down g) (sym m.is) ∙ swap (num x * 2 ^ 52) (down e) (down g) ∙ ap (λ (z : ℕ). z * down e) n.is ∙ swap (t * up g) (den x) (down e))

    never : (i j : ℕ) → i + suc j ≡ 0 → ⊥
    never i j h = omega arith

    back : (j i : ℕ) → suc j ≡ suc i → i ≡ j
    back j i h = omega arith

    go : (e g : ℤ) → s * up e * down g ≡ t * up g * down e → (e ≡ g) × (s ≡ t)
    go (pos i) (pos j) h = let w = one_form s i t j m.from m.below n.from n.below (sym (mul-one (s * 2 ^ i)) ∙ h ∙ mul-one (t * 2 ^ j)) in (ap pos w.0, w.1)
    go (pos i) (negsuc j) h =
        let w = one_form s (i + suc j) t 0 m.from m.below n.from n.below (ap (λ (z : ℕ). s * z) (pow-add 2 i (suc j)) ∙ sym (mul_assoc s (2 ^ i) (2 ^ suc j)) ∙ h ∙ mul-one (t * 1)) in
        absurd (never i j w.0)
    go (negsuc i) (pos j) h =
        let w = one_form t (j + suc i) s 0 n.from n.below m.from m.below (ap (λ (z : ℕ). t * z) (pow-add 2 j (suc i)) ∙ sym (mul_assoc t (2 ^ j) (2 ^ suc i)) ∙ sym h ∙ mul-one (s * 1)) in
        absurd (never j i w.0)
    go (negsuc i) (negsuc j) h =
        let w = one_form s (suc j) t (suc i) m.from m.below n.from n.below (ap (λ (z : ℕ). z * 2 ^ suc j) (sym (mul-one s)) ∙ h ∙ ap (λ (z : ℕ). z * 2 ^ suc i) (mul-one t)) in
        (ap negsuc (back j i w.0), w.1)

-- from a biased exponent
pub biased : (x : Float) (s p : ℕ) → num x * 2 ^ 1126 ≡ s * 2 ^ p * den x → num x * 2 ^ 52 * down (minus p 1074) ≡ s * up (minus p 1074) * den x
biased x s p h =
    let e : ℤ = minus p 1074 in
    eq_of_mul-eq-mul_right (2 ^ 1074) (pow_pos 1074) (num x * 2 ^ 52 * down e) (s * up e * den x)
    (mul_right_comm (num x * 2 ^ 52) (down e) (2 ^ 1074) ∙ ap (λ (z : ℕ). z * down e) (mul_assoc (num x) (2 ^ 52) (2 ^ 1074) ∙ ap (λ (z : ℕ). num x * z) (sym (pow-add 2 52 1074)) ∙ h)
    ∙ mul_right_comm (s * 2 ^ p) (den x) (down e) ∙ ap (λ (z : ℕ). z * den x) (sym (minus_val s p 1074)) ∙ mul_right_comm (s * up e) (2 ^ 1074) (den x))
