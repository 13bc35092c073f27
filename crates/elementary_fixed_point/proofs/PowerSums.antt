-- From a chain to the part of a power series that it stands for: one law for every series here, over its coefficients, the degree at which the
-- terms begin and the step from one degree to the next.
use Rattle.std.proofs.Common.{◌≡◌, ℕ, zero, suc, ◌+◌, ◌-◌, ◌*◌, ◌^◌, ◌<◌, ◌≤◌, T, List, length, sym, refl, ap, ◌∙◌, subst, le_trans, le_of_eq, le_refl, mul_assoc, mul_comm, add-mul, mul-pos, one-mul, pow-suc, mul-zero, zero-add, zero-mul, mul-suc, mul-add, mul_left_comm, arith, lit<, pow_pos, pow-add}
use native.Mathlib.Nat.{pow-zero}
use Rattle.elementary_fixed_point.specs.Series.{terms}
use Rattle.elementary_fixed_point.specs.Product.{hi, horner}
use Rattle.elementary_fixed_point.specs.Code.Bounds.{below, Enclosure}
use Rattle.elementary_fixed_point.proofs.Enclosures.{enclosure_cancel, enclosure_times, enclosure_is, enclosure_hi, twos}
use Rattle.elementary_fixed_point.proofs.Chains.{horner_lt, polynomial, rounded, enclosure_chain}

part₁ : (x k y b p q : ℕ) → p ≡ q * b → x * (k * y) * p ≡ k * x * q * (b * y)
part₁ x k y b p q e = ap (λ (v : ℕ). x * (k * y) * v) e ∙ go
  where
    go : x * (k * y) * (q * b) ≡ k * x * q * (b * y)
    go = simp (mul_assoc, mul_comm, mul_left_comm) refl

part₂ : (x a4 g p : ℕ) → x * (a4 * g) * p ≡ a4 * x * g * p
part₂ x a4 g p = simp (mul_assoc, mul_comm) refl

part₃ : (t b4 bj y : ℕ) → t * (b4 * bj * y) ≡ t * (bj * (y * b4))
part₃ t b4 bj y = simp (mul_assoc, mul_comm, mul_left_comm) refl

mixed : (x s c g : ℕ) → x * s * (c * g) ≡ x * g * (s * c)
mixed x s c g = simp (mul_assoc, mul_comm, mul_left_comm) refl

pub pos_pow : (b n : ℕ) → 0 < b → 0 < b ^ n
pos_pow b zero p = subst (λ (x : ℕ). 0 < x) (sym (pow-zero b)) (lit< tt)
pos_pow b (suc n) p = subst (λ (x : ℕ). 0 < x) (sym (pow-suc b n)) (mul-pos (pos_pow b n p) p)

pub pow_one : (n : ℕ) → n ^ 1 ≡ n
pow_one n = pow-suc n 0 ∙ ap (λ (x : ℕ). x * n) (pow-zero n) ∙ one-mul n

-- the series: coefficients k j / F, up to degree d, by steps of q, at a / b
module _ (k : ℕ → ℕ) (F d q : ℕ) (a b : ℕ) where
  -- the terms are the polynomial times (a / b) ^ j
  link : (n j : ℕ) → j + q * n ≤ d + q → a ^ j * polynomial k q (a ^ q) (b ^ q) n j * b ^ d ≡ terms k d q a b n j * (b ^ j * (b ^ q) ^ n)
  unfolding polynomial terms
  link zero j h = ap (λ (x : ℕ). x * b ^ d) (mul-zero (a ^ j)) ∙ zero-mul (b ^ d) ∙ sym (zero-mul (b ^ j * (b ^ q) ^ 0))
  link (suc n) j h =
      let g : ℕ = polynomial k q (a ^ q) (b ^ q) n (q + j) in
      let y : ℕ = (b ^ q) ^ n * b ^ q in
      let t : ℕ = terms k d q a b n (q + j) in
      let h' : j + (q * n + q) ≤ d + q = subst (λ (x : ℕ). j + x ≤ d + q) (mul-suc q n) h in
      let e : b ^ d ≡ b ^ (d - j) * b ^ j = ap (λ (x : ℕ). b ^ x) (fill j d (q * n) q h') ∙ pow-add b (d - j) j in
      let p : a ^ j * (k j * y) * b ^ d ≡ k j * a ^ j * b ^ (d - j) * (b ^ j * y) = part₁ (a ^ j) (k j) y (b ^ j) (b ^ d) (b ^ (d - j)) e in
      let o : a ^ j * (a ^ q * g) * b ^ d ≡ t * (b ^ j * y) =
      part₂ (a ^ j) (a ^ q) g (b ^ d)
      ∙ ap (λ (x : ℕ). x * g * b ^ d) (sym (pow-add a q j))
      ∙ link n (q + j) (later j d (q * n) q h')
      ∙ ap (λ (x : ℕ). t * (x * (b ^ q) ^ n)) (pow-add b q j)
      ∙ part₃ t (b ^ q) (b ^ j) ((b ^ q) ^ n) in
      ap (λ (x : ℕ). a ^ j * (k j * x + a ^ q * g) * b ^ d) (pow-suc (b ^ q) n)
      ∙ ap (λ (x : ℕ). x * b ^ d) (mul-add (a ^ j) (k j * y) (a ^ q * g))
      ∙ add-mul (a ^ j * (k j * y)) (a ^ j * (a ^ q * g)) (b ^ d)
      ∙ ap (λ (x : ℕ). x + a ^ j * (a ^ q * g) * b ^ d) p
      ∙ ap (λ (x : ℕ). k j * a ^ j * b ^ (d - j) * (b ^ j * y) + x) o
      ∙ sym (add-mul (k j * a ^ j * b ^ (d - j)) t (b ^ j * y))
      ∙ ap (λ (x : ℕ). (k j * a ^ j * b ^ (d - j) + t) * (b ^ j * x)) (sym (pow-suc (b ^ q) n))
    where
      fill : (j d z q : ℕ) → j + (z + q) ≤ d + q → d ≡ d - j + j
      fill j d z q h = omega arith

      later : (j d z q : ℕ) → j + (z + q) ≤ d + q → q + j + z ≤ d + q
      later j d z q h = omega arith

  -- a chain at degree j, times (a / b) ^ j, is that part of the sum in units of 1 / u
  to_terms : {l h : ℕ} (n j u : ℕ) → j + q * n ≤ d + q → 0 < b → Enclosure l h (a ^ j * polynomial k q (a ^ q) (b ^ q) n j * u) (b ^ j * (F * (b ^ q) ^ n)) → Enclosure l h (terms k d q a b n j * u) (F * b ^ d)
  to_terms n j u h p e =
      let c : ℕ = b ^ j * (b ^ q) ^ n in
      let cp : 0 < c = mul-pos (pos_pow b j p) (pos_pow (b ^ q) n (pos_pow b q p)) in
      enclosure_cancel (terms k d q a b n j * u) (F * b ^ d) c cp
      (enclosure_is (terms k d q a b n j * u * c) (F * b ^ d * c)
      (move (a ^ j * polynomial k q (a ^ q) (b ^ q) n j) u (b ^ d) ∙ ap (λ (x : ℕ). x * u) (link n j h) ∙ move (terms k d q a b n j) c u)
      (shift (b ^ j) F ((b ^ q) ^ n) (b ^ d))
      (enclosure_times (b ^ d) e))
    where
      move : (x y z : ℕ) → x * y * z ≡ x * z * y
      move x y z = simp (mul_assoc, mul_comm) refl

      shift : (x f y z : ℕ) → x * (f * y) * z ≡ f * z * (x * y)
      shift x f y z = simp (mul_assoc, mul_comm, mul_left_comm) refl

  -- w is (a / b) ^ q / S in units of 2 ^ -64, to within δ
  module _ (S w δ : ℕ) (Sp : 0 < S) (wl : w < 2 ^ 63) (ew : Enclosure w (w + δ) (a ^ q * 2 ^ 64) (b ^ q * S)) (bp : 0 < b) where
    -- A power of the argument times a chain is that part of the sum in units of 2 ^ -u: x is (a / b) ^ j in units of 2 ^ -s to within e, and the
    -- table is in units of 2 ^ -c.
    pub enclosure-terms : {x : ℕ} (e j s c u : ℕ) (cs : List ℕ) → x < 2 ^ 64 → e * (length cs * (δ + 3)) ≤ 2 ^ 64 → length cs * (δ + 3) * δ ≤ 2 ^ 64 → s + c ≡ u + 64 → j + q * length cs ≤ d + q → T (below (2 ^ 63) cs)
        → T (rounded k F q S (2 ^ c) j cs) → Enclosure x (x + e) (a ^ j * 2 ^ s) (b ^ j)
        → Enclosure (hi x (horner w cs)) (hi x (horner w cs) + (e + length cs * (δ + 3) + 2)) (terms k d q a b (length cs) j * 2 ^ u) (F * b ^ d)
    enclosure-terms e j s c u cs xl ef room h deg t r x =
        let n : ℕ = length cs in
        let g : ℕ = polynomial k q (a ^ q) (b ^ q) n j in
        to_terms n j (2 ^ u) deg bp
        (enclosure_cancel (a ^ j * g * 2 ^ u) (b ^ j * (F * (b ^ q) ^ n)) (2 ^ 64) (pow_pos 64)
        (enclosure_is (a ^ j * g * 2 ^ u * 2 ^ 64) (b ^ j * (F * (b ^ q) ^ n) * 2 ^ 64)
        (mixed (a ^ j) (2 ^ s) (2 ^ c) g ∙ ap (λ (z : ℕ). a ^ j * g * z) (twos s c u h) ∙ sym (mul_assoc (a ^ j * g) (2 ^ u) (2 ^ 64)))
        refl
        (enclosure_hi e (n * (δ + 3)) xl (horner_lt w cs wl t) ef x (enclosure_chain k F q S Sp (a ^ q) (b ^ q) w δ wl ew n room cs (2 ^ c) j (le_refl n) t r))))

    -- and at j = 0, where the chain is the sum
    pub enclosure-terms₀ : (c : ℕ) (cs : List ℕ) → length cs * (δ + 3) * δ ≤ 2 ^ 64 → q * length cs ≤ d + q → T (below (2 ^ 63) cs) → T (rounded k F q S (2 ^ c) 0 cs)
        → Enclosure (horner w cs) (horner w cs + length cs * (δ + 3)) (terms k d q a b (length cs) 0 * 2 ^ c) (F * b ^ d)
    enclosure-terms₀ c cs room deg t r =
        let n : ℕ = length cs in
        let g : ℕ = polynomial k q (a ^ q) (b ^ q) n 0 in
        to_terms n 0 (2 ^ c) (le_trans (le_of_eq (zero-add (q * n))) deg) bp
        (enclosure_is (a ^ 0 * g * 2 ^ c) (b ^ 0 * (F * (b ^ q) ^ n))
        (mul_comm (2 ^ c) g ∙ ap (λ (z : ℕ). z * 2 ^ c) (sym (one-mul g) ∙ ap (λ (z : ℕ). z * g) (sym (pow-zero a))))
        (sym (one-mul (F * (b ^ q) ^ n)) ∙ ap (λ (z : ℕ). z * (F * (b ^ q) ^ n)) (sym (pow-zero b)))
        (enclosure_chain k F q S Sp (a ^ q) (b ^ q) w δ wl ew n room cs (2 ^ c) 0 (le_refl n) t r))
