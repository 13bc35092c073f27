-- A number of at most 52 binary digits, shifted up past its leading zeros until it has 53. Assumes nothing.
use Rattle.std.proofs.Common.{◌≡◌, ℕ, suc, ◌+◌, ◌-◌, ◌*◌, ◌%◌, ◌^◌, ◌<◌, ◌≤◌, sym, ap, ◌∙◌, subst, le_trans, le_of_eq, lt_of_lt_of_le, lt_of_le_of_lt, lt_irrefl, mul-le-mul_right, mod-eq_of_lt, lt_of_not-le, arith, lit≤, pow_mono, pow-add, shl_lt}
use lib.Count.{count_leading_zeros, leading_top}

module _ (b : ℕ) (P : 0 < b) (S : b < 2 ^ 52) where
  abbrev lz : ℕ
  lz = count_leading_zeros 64 b

  t : (j : ℕ) × (lz + suc j ≡ 64) × (2 ^ j ≤ b) × (b < 2 ^ suc j)
  t = leading_top 64 b P (lt_of_lt_of_le S (lit≤ tt))

  pow_back : (i p : ℕ) → 2 ^ i < 2 ^ p → i < p
  pow_back i p h = lt_of_not-le (λ (g : p ≤ i). lt_irrefl (2 ^ i) (lt_of_lt_of_le h (pow_mono g)))

  pub zeros : (12 ≤ lz) × (lz ≤ 63)
  zeros = let e = t.1 in let l : t.0 < 52 = pow_back t.0 52 (lt_of_le_of_lt t.2 S) in (omega arith, omega arith)

  join : t.0 + (lz - 11) ≡ 52
  join = let e = t.1 in let z = zeros in omega arith

  pub up_lo : 2 ^ 52 ≤ b * 2 ^ (lz - 11)
  up_lo = le_trans (le_of_eq (ap (λ (z : ℕ). 2 ^ z) (sym join) ∙ pow-add 2 t.0 (lz - 11))) (mul-le-mul_right (2 ^ (lz - 11)) t.2)

  pub up_hi : b * 2 ^ (lz - 11) < 2 ^ 53
  up_hi = lt_of_lt_of_le (shl_lt (suc t.0) (lz - 11) t.3) (pow_mono sum)
    where
      sum : suc t.0 + (lz - 11) ≤ 53
      sum = let j = join in omega arith

  -- no digit is shifted out
  pub whole : b * 2 ^ (lz - 11) % 2 ^ 64 ≡ b * 2 ^ (lz - 11)
  whole = mod-eq_of_lt (lt_of_lt_of_le up_hi (lit≤ tt))

  pub shifted : (2 ^ 52 ≤ b * 2 ^ (lz - 11) % 2 ^ 64) × (b * 2 ^ (lz - 11) % 2 ^ 64 < 2 ^ 53)
  shifted = (subst (λ (z : ℕ). 2 ^ 52 ≤ z) (sym whole) up_lo, subst (λ (z : ℕ). z < 2 ^ 53) (sym whole) up_hi)
