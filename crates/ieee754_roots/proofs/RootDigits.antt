-- The nearest root by the whole one, and the arithmetic of the check of a guess. Assumes nothing.
use Rattle.std.proofs.Common.{◌≡◌, ℕ, zero, suc, ◌+◌, ◌*◌, ◌/◌, ◌%◌, ◌<◌, ◌≤◌, ltb, ◌⊎◌, refl, ap, subst, inl, inr, arith, le-ltb, lt-ltb}
use mir.Val.{bool_byte}
use Rattle.ieee754_rounding.proofs.Comparison.{lt_or_le}
use Rattle.ieee754.specs.Code.WholeRoot.{NearestRoot}

-- from the whole part q of the root of 4 * M to the nearest root of M
half_even : (M h rest : ℕ) → 0 < M → 2 * h * (2 * h) + rest ≡ 4 * M → rest ≤ 2 * (2 * h) → NearestRoot M h
half_even M zero rest P e l = absurd (none M rest P e l)
  where
    none : (M r : ℕ) → 0 < M → 0 + r ≡ 4 * M → r ≤ 0 → ⊥
    none M r P e l = omega arith
half_even M (suc h) rest P e l = record { above = omega arith; below = omega arith }

half_odd : (M h rest : ℕ) → (2 * h + 1) * (2 * h + 1) + rest ≡ 4 * M → rest ≤ 2 * (2 * h + 1) → NearestRoot M (h + 1)
half_odd M h rest e l = record { above = omega arith; below = omega arith }

parity : (q : ℕ) → (q ≡ 2 * (q / 2)) ⊎ (q ≡ 2 * (q / 2) + 1)
parity q = go (q % 2) refl
  where
    go : (b : ℕ) → q % 2 ≡ b → (q ≡ 2 * (q / 2)) ⊎ (q ≡ 2 * (q / 2) + 1)
    go zero e = inl (omega arith)
    go (suc zero) e = inr (omega arith)
    go (suc (suc b)) e = absurd (no q b e)
      where
        no : (x y : ℕ) → x % 2 ≡ suc (suc y) → ⊥
        no x y e = omega arith

pub half_near : (M q rest : ℕ) → 0 < M → q * q + rest ≡ 4 * M → rest ≤ 2 * q → NearestRoot M ((q + 1) / 2)
half_near M q rest P e l = elim (parity q) [
  | inl h ↦ subst (λ (z : ℕ). NearestRoot M z) (even q (q / 2) h) (half_even M (q / 2) rest P (subst (λ (z : ℕ). z * z + rest ≡ 4 * M) h e) (subst (λ (z : ℕ). rest ≤ 2 * z) h l))
  | inr h ↦ subst (λ (z : ℕ). NearestRoot M z) (odd q (q / 2) h) (half_odd M (q / 2) rest (subst (λ (z : ℕ). z * z + rest ≡ 4 * M) h e) (subst (λ (z : ℕ). rest ≤ 2 * z) h l))
]
  where
    even : (x y : ℕ) → x ≡ 2 * y → y ≡ (x + 1) / 2
    even x y e = omega arith

    odd : (x y : ℕ) → x ≡ 2 * y + 1 → y + 1 ≡ (x + 1) / 2
    odd x y e = omega arith

-- ---- the check of a guess: with q in two halves, H and Y are what is left of m * 2 ^ 52 after each product, X the last
pub excess_is : (m a b q H Y X : ℕ) → q ≡ a * 67108864 + b → H + a * a ≡ m → Y + 2 * a * b ≡ H * 67108864 → X + b * b ≡ Y * 67108864 → q * q + X ≡ m * 4503599627370496
excess_is m a b q H Y X eq eh ey ex =
    let s : q * q ≡ (a * 67108864 + b) * (a * 67108864 + b) = ap (λ (z : ℕ). z * z) eq in
    omega arith

-- the nearest root by what q * q falls short of M by
as_guessed : (M q x : ℕ) → 0 < M → q * q + x ≡ M → x ≤ q → NearestRoot M (q + 0 + 0)
as_guessed M zero x P e l = absurd (none M x P e l)
  where
    none : (M x : ℕ) → 0 < M → 0 + x ≡ M → x ≤ 0 → ⊥
    none M x P e l = omega arith
as_guessed M (suc q) x P e l = record { above = omega arith; below = omega arith }

one_more_lem : (M q x : ℕ) → q * q + x ≡ M → q < x → x ≤ 3 * q + 2 → NearestRoot M (q + 1 + 0)
one_more_lem M q x e h l = record { above = omega arith; below = omega arith }

two_more : (M q x : ℕ) → q * q + x ≡ M → 3 * q + 2 < x → x ≤ 5 * q + 6 → NearestRoot M (q + 1 + 1)
two_more M q x e h l = record { above = omega arith; below = omega arith }

pub counted : (M q x : ℕ) → 0 < M → q * q + x ≡ M → x ≤ 5 * q + 6 → NearestRoot M (q + bool_byte (ltb q x) + bool_byte (ltb (3 * q + 2) x))
counted M q x P e l = elim (lt_or_le q x) [
  | inl a ↦ elim (lt_or_le (3 * q + 2) x) [
    | inl b ↦ rw (lt-ltb q x a, lt-ltb (3 * q + 2) x b) (two_more M q x e b l)
    | inr b ↦ rw (lt-ltb q x a, le-ltb (3 * q + 2) x b) (one_more_lem M q x e a b)
  ]
  | inr a ↦ rw (le-ltb q x a, le-ltb (3 * q + 2) x (wide q x a)) (as_guessed M q x P e a)
]
  where
    wide : (q x : ℕ) → x ≤ q → x ≤ 3 * q + 2
    wide q x h = omega arith
