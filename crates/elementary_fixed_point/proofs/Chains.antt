-- A polynomial by Horner's rule in fixed point, each product's lower 64 bits dropped: how far below the exact one it is, by a table whose
-- entries are the coefficients rounded down.
use Rattle.std.proofs.Common.{◌≡◌, ℕ, zero, suc, ◌+◌, ◌*◌, ◌^◌, ◌<◌, ◌≤◌, Bool, true, false, ◌&&◌, T, ltb, leb, List, [], ◌∷◌, length, get_or, sym, refl, ap, ◌∙◌, subst, le_trans, le_of_eq, lt_of_le_of_lt, le_of_lt, le_of_suc-le-suc, not-suc-le-zero, add-zero, add-suc, suc-add, mul-le-mul_right, mul_assoc, suc-mul, mul-pos, pow-suc, mul-zero, zero-mul, mul-add, mul_left_comm, arith, lit<, ltb→lt, leb→le, pow_pos}
use Rattle.std.specs.List.{push}
use lib.Ieee.Fits.{and_l, and_r}
use Rattle.elementary_fixed_point.specs.Product.{hi, horner, tabulate}
use Rattle.elementary_fixed_point.specs.Code.Bounds.{below, Enclosure}
use Rattle.elementary_fixed_point.proofs.Enclosures.{enclosure_cancel, enclosure_times, enclosure_add, enclosure_is, enclosure_hi, hi_le}

-- ---- no step goes past 64 bits

pub step_lt : (c p w : ℕ) → c < 2 ^ 63 → p < 2 ^ 64 → w < 2 ^ 63 → c + hi p w < 2 ^ 64
step_lt c p w a b d = go c (hi p w) w a (hi_le p w b) d
  where
    go : (c h w : ℕ) → c < 2 ^ 63 → h ≤ w → w < 2 ^ 63 → c + h < 2 ^ 64
    go c h w a b d = omega arith

pub horner_lt : (w : ℕ) (cs : List ℕ) → w < 2 ^ 63 → T (below (2 ^ 63) cs) → horner w cs < 2 ^ 64
unfolding horner below
horner_lt w [] h t = pow_pos 64
horner_lt w (c ∷ cs) h t =
    step_lt c (horner w cs) w (ltb→lt c (2 ^ 63) (and_l (ltb c (2 ^ 63)) (below (2 ^ 63) cs) t)) (horner_lt w cs h (and_r (ltb c (2 ^ 63)) (below (2 ^ 63) cs) t)) h

-- ---- Horner's rule from the last entry down: the entries that are left, with p for what stands behind them
unfoldable pub horner_onto : ℕ → ℕ → List ℕ → ℕ
horner_onto w p [] = p
horner_onto w p (c ∷ cs) = c + hi (horner_onto w p cs) w

pub onto_none : (w : ℕ) (cs : List ℕ) → horner_onto w 0 cs ≡ horner w cs
unfolding horner_onto horner
onto_none w [] = refl
onto_none w (c ∷ cs) = ap (λ z. c + hi z w) (onto_none w cs)

pub onto_last : (w p c : ℕ) (cs : List ℕ) → horner_onto w p (push cs c) ≡ horner_onto w (c + hi p w) cs
unfolding horner_onto
onto_last w p c [] = refl
onto_last w p c (d ∷ cs) = ap (λ z. d + hi z w) (onto_last w p c cs)

pub below_last : (k c : ℕ) (cs : List ℕ) → T (below k (push cs c)) → T (below k cs) × (c < k)
unfolding below
below_last k c [] t = (tt, ltb→lt c k (and_l (ltb c k) true t))
below_last k c (d ∷ cs) t = let r = below_last k c cs (and_r (ltb d k) (below k (push cs c)) t) in (and_both (ltb d k) (below k cs) (and_l (ltb d k) (below k (push cs c)) t) r.0, r.1)
  where
    and_both : (p q : Bool) → T p → T q → T (p && q)
    and_both true q x y = y
    and_both false q x y = x

-- ---- a table made by a rule has the rule's number at each place

pub tabulate_at : (n i : ℕ) (f : ℕ → ℕ) (k : ℕ) → k < n → get_or (tabulate n i f) k 0 ≡ f (i + k)
unfolding tabulate
tabulate_at zero i f k h = absurd (not-suc-le-zero h)
tabulate_at (suc n) i f zero h = ap f (sym (add-zero i))
tabulate_at (suc n) i f (suc k) h = tabulate_at n (suc i) f k (le_of_suc-le-suc h) ∙ ap f (suc-add i k ∙ sym (add-suc i k))

-- ---- the exact polynomial, and the chain

-- the terms of degree j, j + q, .. over (a / b) ^ j, with A and B for a ^ q and b ^ q; n of them, over F * B ^ n
unfoldable pub polynomial : (ℕ → ℕ) → ℕ → ℕ → ℕ → ℕ → ℕ → ℕ
polynomial k q A B zero j = 0
polynomial k q A B (suc n) j = k j * B ^ suc n + A * polynomial k q A B n (q + j)

-- the test of a table: each entry is U * S ^ i * k (j + q i) / F rounded down
unfoldable pub rounded : (ℕ → ℕ) → ℕ → ℕ → ℕ → ℕ → ℕ → List ℕ → Bool
rounded k F q S U j [] = true
rounded k F q S U j (c ∷ cs) = leb (c * F) (U * k j) && (leb (U * k j) ((c + 1) * F) && rounded k F q S (U * S) (q + j) cs)

numer : (U S A g P : ℕ) → U * S * g * (A * P) ≡ U * (A * g) * (S * P)
numer U S A g P = simp (mul_assoc, mul_left_comm) refl

denom : (F bn B S P : ℕ) → F * bn * (B * S) * P ≡ F * (bn * B) * (S * P)
denom F bn B S P = simp (mul_assoc) refl

-- w is (a / b) ^ q / S in units of 2 ^ -64, to within δ. Each step adds at most δ + 3.
module _ (k : ℕ → ℕ) (F q S : ℕ) (Sp : 0 < S) (A B w δ : ℕ) (wl : w < 2 ^ 63) (ew : Enclosure w (w + δ) (A * 2 ^ 64) (B * S)) (N : ℕ) (room : N * (δ + 3) * δ ≤ 2 ^ 64) where
  pub enclosure_chain : (cs : List ℕ) (U j : ℕ) → length cs ≤ N → T (below (2 ^ 63) cs) → T (rounded k F q S U j cs)
      → Enclosure (horner w cs) (horner w cs + length cs * (δ + 3)) (U * polynomial k q A B (length cs) j) (F * B ^ length cs)
  unfolding horner below polynomial rounded
  enclosure_chain [] U j short t r = record { low = le_of_eq (zero-mul (F * B ^ 0) ∙ sym (mul-zero U)); high = le_of_eq (mul-zero U ∙ sym (ap (λ (z : ℕ). (0 + z) * (F * B ^ 0)) (zero-mul (δ + 3)) ∙ zero-mul (F * B ^ 0))) }
  enclosure_chain (c ∷ cs) U j short t r =
      let n : ℕ = length cs in
      let g : ℕ = polynomial k q A B n (q + j) in
      let p : ℕ = horner w cs in
      let E : ℕ = n * (δ + 3) in
      let D : ℕ = B ^ n * B in
      let q1 : Bool = leb (c * F) (U * k j) in
      let q2 : Bool = leb (U * k j) ((c + 1) * F) in
      let q3 : Bool = rounded k F q S (U * S) (q + j) cs in
      let r2 : T (q2 && q3) = and_r q1 (q2 && q3) r in
      let tl : T (below (2 ^ 63) cs) = and_r (ltb c (2 ^ 63)) (below (2 ^ 63) cs) t in
      let fewer : n ≤ N = le_of_lt short in
      let ih : Enclosure p (p + E) (U * S * g) (F * B ^ n) = enclosure_chain cs (U * S) (q + j) fewer tl (and_r q2 q3 r2) in
      let x : Enclosure (hi p w) (hi p w + (E + δ + 2)) (U * S * g * (A * 2 ^ 64)) (F * B ^ n * (B * S) * 2 ^ 64) =
      enclosure_hi E δ (horner_lt w cs wl tl) (lt_of_le_of_lt (le_of_lt wl) (lit< tt)) (le_trans (mul-le-mul_right δ (mul-le-mul_right (δ + 3) fewer)) room) ih ew in
      let y : Enclosure (hi p w) (hi p w + (E + δ + 2)) (U * (A * g)) (F * D) =
      enclosure_cancel (U * (A * g)) (F * D) (S * 2 ^ 64) (mul-pos Sp (pow_pos 64)) (enclosure_is (U * (A * g) * (S * 2 ^ 64)) (F * D * (S * 2 ^ 64)) (numer U S A g (2 ^ 64)) (denom F (B ^ n) B S (2 ^ 64)) x) in
      let z : Enclosure c (c + 1) (U * k j * D) (F * D) =
      enclosure_times D (record { low = leb→le (c * F) (U * k j) (and_l q1 (q2 && q3) r); high = leb→le (U * k j) ((c + 1) * F) (and_l q2 q3 r2) }) in
      let whole : U * k j * D + U * (A * g) ≡ U * (k j * B ^ suc n + A * g) =
      ap (λ (v : ℕ). v + U * (A * g)) (mul_assoc U (k j) D) ∙ sym (mul-add U (k j * D) (A * g)) ∙ ap (λ (v : ℕ). U * (k j * v + A * g)) (sym (pow-suc B n)) in
      enclosure_is (U * (k j * B ^ suc n + A * g)) (F * B ^ suc n) whole (ap (λ (v : ℕ). F * v) (sym (pow-suc B n)))
      (subst (λ (v : ℕ). Enclosure (c + hi p w) v (U * k j * D + U * (A * g)) (F * D)) (ends c (hi p w) E δ ∙ ap (λ (v : ℕ). c + hi p w + v) (sym (suc-mul n (δ + 3)))) (enclosure_add z y))
    where
      ends : (c h E δ : ℕ) → (c + 1) + (h + (E + δ + 2)) ≡ (c + h) + (E + (δ + 3))
      ends c h E δ = omega arith
