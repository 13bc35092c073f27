-- Module 2: a power series at a fraction a / b, cut at some degree, over whole numbers. Definitions only.
use Rattle.std.specs.Prelude.{ℕ, zero, suc, ◌+◌, ◌-◌, ◌*◌, ◌/◌, ◌^◌}

-- 1 * 2 * .. * n
unfoldable pub factorial : ℕ → ℕ
factorial zero = 1
factorial (suc n) = factorial n * suc n

-- A series has the coefficient k j / F at degree j, and its argument is a / b. Times F * b ^ d, its term of each degree up to d is a whole
-- number. The sum of these for the degrees j, j + q, j + 2 q, .., n of them:
unfoldable pub terms : (ℕ → ℕ) → ℕ → ℕ → ℕ → ℕ → ℕ → ℕ → ℕ
terms k d q a b zero j = 0
terms k d q a b (suc n) j = k j * a ^ j * b ^ (d - j) + terms k d q a b n (q + j)

-- 1 / j! as a number of n!-ths, whole for every j up to n
unfoldable pub inverse_factorial : ℕ → ℕ → ℕ
inverse_factorial n j = factorial n / factorial j

-- 1 / j as a number of n!-ths, whole for every j from 1 to n
unfoldable pub reciprocal : ℕ → ℕ → ℕ
reciprocal n j = factorial n / j
