-- A quotient that is rounded down, and products of which the lower 64 bits are dropped.
use mathlib.Core.Path.{◌≡◌, sym, subst}
use Prim.Native.Nat.{ℕ, ◌+◌, ◌*◌, ◌/◌, ◌^◌, ◌≤◌, ◌<◌}
use native.Mathlib.Nat.{le_trans, le_of_eq, le_of_lt, lt_of_lt_of_le, mul_assoc, mul-le-mul, mul-le-mul_right, div-mul-le_self, div-le_of_le-mul, lt-div-mul-add, le-div_iff_mul-le}
use native.Mathlib.Omega.{arith}
use lib.Pow.{pow_pos}
use Rattle.elementary_series.specs.Product.{hi}
use Rattle.elementary_series.specs.Code.Bounds.{Enclosure}

-- a quotient rounded down encloses it
pub floor_encloses : (n d : ℕ) → 0 < d → Enclosure (n / d) (n / d + 1) n d
floor_encloses n d dp = record { low = div-mul-le_self n d; high = le_of_lt (lt_of_lt_of_le (lt-div-mul-add {a = n} {b = d} dp) (le_of_eq (next (n / d) d))) }
  where
    next : (q d : ℕ) → q * d + d ≡ (q + 1) * d
    next q d = omega arith

pub enclosure_times : {l h n d : ℕ} (k : ℕ) → Enclosure l h n d → Enclosure l h (n * k) (d * k)
enclosure_times {l} {h} {n} {d} k e = record {
  low = le_trans (le_of_eq (sym (mul_assoc l d k))) (mul-le-mul_right k e.low);
  high = le_trans (mul-le-mul_right k e.high) (le_of_eq (mul_assoc h d k));
}

pub enclosure_is : {l h n d : ℕ} (n' d' : ℕ) → n ≡ n' → d ≡ d' → Enclosure l h n d → Enclosure l h n' d'
enclosure_is {l} {h} {n} {d} n' d' p q e = subst (λ (x : ℕ). Enclosure l h n' x) q (subst (λ (x : ℕ). Enclosure l h x d) p e)

pub hi_le : (p w : ℕ) → p < 2 ^ 64 → hi p w ≤ w
hi_le p w h = div-le_of_le-mul (2 ^ 64) {m = p * w} {n = w} (mul-le-mul_right w (le_of_lt h))

pub hi_mono : (u v u' v' : ℕ) → u ≤ u' → v ≤ v' → hi u v ≤ hi u' v'
hi_mono u v u' v' a b = (le-div_iff_mul-le {k = 2 ^ 64} {x = u * v / 2 ^ 64} {y = u' * v'} (pow_pos 64)).1 (le_trans (div-mul-le_self (u * v) (2 ^ 64)) (mul-le-mul a b))
