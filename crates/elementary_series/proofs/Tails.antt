-- The terms of a power series with coefficients that are not negative grow with its argument, so those that a shorter sum leaves out are at most what they are at the
-- largest argument: one computed comparison.
use mathlib.Core.Path.{◌≡◌, refl, sym, ap, ◌∙◌, subst}
use Prim.Native.Nat.{ℕ, zero, suc, ◌+◌, ◌-◌, ◌*◌, ◌^◌, ◌≤◌, ◌<◌, zero-le}
use native.Mathlib.Nat.{le_trans, le_of_eq, zero-add, add_assoc, suc-add, mul-suc, mul-zero, zero-mul, mul_assoc, mul_comm, mul_left_comm, mul_right_comm, mul-mul-mul_comm, add-mul, pow-zero, pow-suc, mul-le-mul, mul-le-mul_left, mul-le-mul_right, le_of_mul-le-mul_right, add-le-add, le-add_right}
use native.Mathlib.Omega.{arith}
use lib.Pow.{pow-add}
use Rattle.elementary_series.specs.Series.{terms}
use Rattle.elementary_series.specs.Code.Bounds.{Enclosure, term}
use Rattle.elementary_series.proofs.PowerSums.{pos_pow}

module _ (k : ℕ → ℕ) (d q : ℕ) where
  -- n terms and m more
  pub split : (a b n m j : ℕ) → terms k d q a b (n + m) j ≡ terms k d q a b n j + terms k d q a b m (q * n + j)
  unfolding terms
  split a b zero m j = ap (λ (z : ℕ). terms k d q a b z j) (zero-add m) ∙ ap (terms k d q a b m) (sym (ap (λ (z : ℕ). z + j) (mul-zero q) ∙ zero-add j)) ∙ sym (zero-add (terms k d q a b m (q * 0 + j)))
  split a b (suc n) m j =
      ap (λ (z : ℕ). terms k d q a b z j) (suc-add n m) ∙ ap (λ (z : ℕ). term k d a b j + z) (split a b n m (q + j) ∙ ap (λ (z : ℕ). terms k d q a b n (q + j) + terms k d q a b m z) (sym (add_assoc (q * n) q j) ∙ ap (λ (z : ℕ). z + j) (sym (mul-suc q n))))
      ∙ sym (add_assoc (term k d a b j) (terms k d q a b n (q + j)) (terms k d q a b m (q * suc n + j)))

  -- a / b is at most A / B
  module _ (a b A B : ℕ) (most : a * B ≤ A * b) where
    power : (j : ℕ) → a ^ j * B ^ j ≤ A ^ j * b ^ j
    power zero = le_of_eq (ap (λ (z : ℕ). z * B ^ 0) (pow-zero a) ∙ ap (λ (z : ℕ). 1 * z) (pow-zero B) ∙ sym (ap (λ (z : ℕ). z * b ^ 0) (pow-zero A) ∙ ap (λ (z : ℕ). 1 * z) (pow-zero b)))
    power (suc j) = le_trans (le_of_eq (each a B)) (le_trans (mul-le-mul (power j) most) (le_of_eq (sym (each A b))))
      where
        each : (x y : ℕ) → x ^ suc j * y ^ suc j ≡ x ^ j * y ^ j * (x * y)
        each x y = ap (λ (z : ℕ). z * y ^ suc j) (pow-suc x j) ∙ ap (λ (z : ℕ). x ^ j * x * z) (pow-suc y j) ∙ mul-mul-mul_comm (x ^ j) x (y ^ j) y

    term-mono : (j : ℕ) → j ≤ d → term k d a b j * B ^ d ≤ term k d A B j * b ^ d
    term-mono j h =
        le_trans (le_of_eq (ap (λ (z : ℕ). k j * a ^ j * b ^ (d - j) * z) (whole B) ∙ regroup (k j) (a ^ j) (b ^ (d - j)) (B ^ j) (B ^ (d - j))))
        (le_trans (mul-le-mul_right (b ^ (d - j) * B ^ (d - j)) (mul-le-mul_left (k j) (power j)))
        (le_of_eq (ap (λ (z : ℕ). k j * (A ^ j * b ^ j) * z) (mul_comm (b ^ (d - j)) (B ^ (d - j))) ∙ sym (ap (λ (z : ℕ). k j * A ^ j * B ^ (d - j) * z) (whole b) ∙ regroup (k j) (A ^ j) (B ^ (d - j)) (b ^ j) (b ^ (d - j))))))
      where
        back : (j d : ℕ) → j ≤ d → d ≡ j + (d - j)
        back j d h = omega arith

        whole : (x : ℕ) → x ^ d ≡ x ^ j * x ^ (d - j)
        whole x = ap (λ (z : ℕ). x ^ z) (back j d h) ∙ pow-add x j (d - j)

        regroup : (k x y z w : ℕ) → k * x * y * (z * w) ≡ k * (x * z) * (y * w)
        regroup k x y z w = simp (mul_assoc, mul_left_comm) refl

    pub terms-mono : (n j : ℕ) → j + q * n ≤ d + q → terms k d q a b n j * B ^ d ≤ terms k d q A B n j * b ^ d
    unfolding terms
    terms-mono zero j h = le_trans (le_of_eq (zero-mul (B ^ d))) zero-le
    terms-mono (suc n) j h =
        let h' : j + (q * n + q) ≤ d + q = subst (λ (x : ℕ). j + x ≤ d + q) (mul-suc q n) h in
        le_trans (le_of_eq (add-mul (term k d a b j) (terms k d q a b n (q + j)) (B ^ d)))
        (le_trans (add-le-add (term-mono j (first j d (q * n) q h')) (terms-mono n (q + j) (later j d (q * n) q h')))
        (le_of_eq (sym (add-mul (term k d A B j) (terms k d q A B n (q + j)) (b ^ d)))))
      where
        first : (j d z q : ℕ) → j + (z + q) ≤ d + q → j ≤ d
        first j d z q h = omega arith

        later : (j d z q : ℕ) → j + (z + q) ≤ d + q → q + j + z ≤ d + q
        later j d z q h = omega arith

    -- m terms more, which at A / B are at most t in units of 1 / U
    pub enclosure-longer : {x : ℕ} (F E U t n m j : ℕ) → 0 < B → q * n + j + q * m ≤ d + q → terms k d q A B m (q * n + j) * U ≤ t * (F * B ^ d)
        → Enclosure x (x + E) (terms k d q a b n j * U) (F * b ^ d) → Enclosure x (x + (E + t)) (terms k d q a b (n + m) j * U) (F * b ^ d)
    enclosure-longer {x} F E U t n m j Bp deg room e =
        let i : ℕ = q * n + j in
        let rest : ℕ = terms k d q a b m (q * n + j) in
        let D : ℕ = F * b ^ d in
        let small : rest * U ≤ t * D =
        le_of_mul-le-mul_right {m = rest * U} {n = t * D} {k = B ^ d}
        (le_trans (le_of_eq (mul_right_comm rest U (B ^ d)))
        (le_trans (mul-le-mul_right U (terms-mono m i deg))
        (le_trans (le_of_eq (mul_right_comm (terms k d q A B m i) (b ^ d) U)) (le_trans (mul-le-mul_right (b ^ d) room) (le_of_eq (turn t F (B ^ d) (b ^ d)))))))
        (pos_pow B d Bp) in
        let is : terms k d q a b (n + m) j * U ≡ terms k d q a b n j * U + rest * U = ap (λ (z : ℕ). z * U) (split a b n m j) ∙ add-mul (terms k d q a b n j) rest U in
        record {
          low = le_trans e.low (le_trans (le-add_right (terms k d q a b n j * U) (rest * U)) (le_of_eq (sym is)));
          high = le_trans (le_of_eq is) (le_trans (add-le-add e.high small) (le_of_eq (sym (add-mul (x + E) t D) ∙ ap (λ (z : ℕ). z * D) (add_assoc x E t))));
        }
      where
        turn : (t F x y : ℕ) → t * (F * x) * y ≡ t * (F * y) * x
        turn t F x y = simp (mul_assoc, mul_comm) refl
