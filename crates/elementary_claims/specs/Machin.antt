-- Module 2: Machin's formula, π = 16 atan (1 / 5) - 4 atan (1 / 239), encloses π between two fractions, and by them the turn is 2π. So nobody has to trust its
-- digits. Definitions only.
use Rattle.std.specs.Prelude.{ℕ, zero, suc, ◌+◌, ◌*◌, ◌^◌, ◌≤◌}
use Rattle.elementary_fixed_point.specs.Fraction.{Fraction, sum, negated, times}
use Rattle.elementary_reduction.specs.Reduction.{turn}

-- n / d
abbrev pub ratio : ℕ → ℕ → Fraction
ratio n d = record { plus = n; minus = 0; over = d }

-- f ≤ g
pub record AtMost (f g : Fraction) : Type 0 where
  pub is : f.plus * g.over + g.minus * f.over ≤ g.plus * f.over + f.minus * g.over

-- the arctangent's term 1 / (j q ^ j)
abbrev pub term : ℕ → ℕ → Fraction
term q j = ratio 1 (j * q ^ j)

-- atan (1 / q) is 1 / q - 1 / (3 q ^ 3) + 1 / (5 q ^ 5) - .., whose terms become smaller. A sum that ends with a subtracted term is below it: of 2 n terms.
unfoldable pub atan_below : ℕ → ℕ → Fraction
atan_below q zero = ratio 0 1
atan_below q (suc n) = sum (sum (atan_below q n) (term q (1 + 4 * n))) (negated (term q (3 + 4 * n)))

-- and one that ends with an added term is above it: of 2 n + 1
unfoldable pub atan_above : ℕ → ℕ → Fraction
atan_above q n = sum (atan_below q n) (term q (1 + 4 * n))

unfoldable pub pi_below : ℕ → Fraction
pi_below n = sum (times 16 (atan_below 5 n)) (negated (times 4 (atan_above 239 n)))

unfoldable pub pi_above : ℕ → Fraction
pi_above n = sum (times 16 (atan_above 5 n)) (negated (times 4 (atan_below 239 n)))

-- the turn, and half a unit of 2 ^ -160 more
abbrev pub low : Fraction
low = ratio turn (2 ^ 160)

abbrev pub high : Fraction
high = ratio (2 * turn + 1) (2 ^ 161)

-- 2π is from one to the other, by the sums of every length from 36 terms on: rounded down or to the nearest it is the turn
pub record TurnIsTwoPi : Type 0 where
  pub from : (n : ℕ) → AtMost low (times 2 (pi_below (18 + n)))
  pub upto : (n : ℕ) → AtMost (times 2 (pi_above (18 + n))) high
