-- Module 2: polynomials over signed whole numbers, and a polynomial shifted to another centre, by which tables have their rule. Definitions only.
use Rattle.std.specs.Prelude.{List, [], ◌∷◌, ℕ, zero, suc, ◌+◌, ◌*◌, ◌^◌}

-- plus - minus. A number is never reduced: sums and products of differences are sums and products of whole numbers.
pub record Signed : Type 0 where
  pub plus : ℕ
  pub minus : ℕ

abbrev pub at : ℕ → ℕ → Signed
at p q = record { plus = p; minus = q }

-- a polynomial is the list of its coefficients, that of degree 0 first. p + (k + x) * q, coefficient by coefficient:
unfoldable pub lin : ℕ → Signed → List Signed → List Signed
lin k p [] = p ∷ []
lin k p (q ∷ qs) = at (p.plus + k * q.plus) (p.minus + k * q.minus) ∷ lin k q qs

-- the polynomial of x whose value is that of cs at k + x
unfoldable pub shift : ℕ → List Signed → List Signed
unfolding lin
shift k [] = []
shift k (c ∷ cs) = lin k c (shift k cs)

-- n coefficients, that of degree i times r ^ (n - 1 - i)
unfoldable pub scale : ℕ → ℕ → List Signed → List Signed
scale r zero cs = []
scale r (suc n) [] = []
scale r (suc n) (c ∷ cs) = at (c.plus * r ^ n) (c.minus * r ^ n) ∷ scale r n cs

-- f j, 0, - f (j + 2), 0, ..: n times four, then what t gives for the degree that is reached
unfoldable pub alternating : (ℕ → ℕ) → ℕ → ℕ → (ℕ → List Signed) → List Signed
alternating f zero j t = t j
alternating f (suc n) j t = at (f j) 0 ∷ at 0 0 ∷ at 0 (f (2 + j)) ∷ at 0 0 ∷ alternating f n (4 + j) t
