-- Module 1: the square root of IEEE 754-2019 (5.4.1), rounded to nearest, ties to even. For any format. Definitions only.
-- proofs/NearestRoot.antt shows of `sqrt` that every other value of the format is farther from the root.
use Rattle.std.specs.Prelude.{ℕ, zero, suc, ◌+◌, ◌-◌, ◌*◌, ◌/◌, ◌^◌, ◌<◌, false, cond, nat_le, Float}
use Prim.Native.Nat.{compare}
use Rattle.std.specs.Float.{nan, inf, fin, Format}
use Rattle.std.specs.Float.Ieee.{prec, low, up, down, size, nearest, units}

-- The whole part of √n, for an n below 4 ^ d: its binary digits, one for each two of n's, the highest first.
unfoldable pub root_digits : ℕ → ℕ → ℕ
root_digits zero n = 0
root_digits (suc d) n = let r = 2 * root_digits d (n / 4) in cond (nat_le ((r + 1) * (r + 1)) n) (r + 1) r

-- The value of the format f that is nearest to √n units of f's smallest value, in the shape of the logic's `round`: of the whole part i of √n the
-- format keeps the `prec` leading digits, q, and drops k. The result is q or q + 1 times 2 ^ k units, by how √n compares with what lies
-- halfway, (q + 1 / 2) * 2 ^ k. Both sides are squared, and taken four times, so that they are whole numbers.
unfoldable pub round_root : Format → ℕ → Float
round_root f n =
    let i = root_digits (size n) n in
    let k = size i - prec f in
    let q = i / 2 ^ k in
    units f false (nearest q (compare (4 * n) ((2 * q + 1) * (2 * q + 1) * (2 ^ k * 2 ^ k)))) k

-- The square root. Of either zero it is that zero; below, and of a NaN, it is a NaN. m * 2 ^ e is a whole number of units of 2 ^ -low,
-- so it is a whole number of their squares, and its root is counted in units.
unfoldable pub sqrt : Format → Float → Float
sqrt f nan = nan
sqrt f (inf s) = cond s nan (inf false)
sqrt f (fin s zero e) = fin s zero e
sqrt f (fin s (suc m) e) = cond s nan (round_root f (suc m * up e * 2 ^ low f / down e * 2 ^ low f))

-- g units of f's smallest value are nearer to √n units than any other value of the format, which is a * 2 ^ j units with an a below
-- 2 ^ prec: what lies halfway between the two is past √n. Both sides are squared, and taken four times.
pub record NearestValue (f : Format) (n g : ℕ) : Type 0 where
  pub above : (a j : ℕ) → a < 2 ^ prec f → g < a * 2 ^ j → 4 * n < (g + a * 2 ^ j) * (g + a * 2 ^ j)
  pub below : (a j : ℕ) → a < 2 ^ prec f → a * 2 ^ j < g → (g + a * 2 ^ j) * (g + a * 2 ^ j) < 4 * n
