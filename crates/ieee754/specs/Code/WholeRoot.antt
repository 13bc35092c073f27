-- Module 1: the whole number nearest to a square root, which the code of the root looks for. Definitions only.
use Rattle.std.specs.Prelude.{ℕ, ◌+◌, ◌*◌, ◌<◌, ◌≤◌}

-- r is the whole number nearest to √M: r - 1 / 2 < √M < r + 1 / 2, squared. (A whole M's root is never halfway.)
pub record NearestRoot (M r : ℕ) : Type 0 where
  pub above : M ≤ r * r + r
  pub below : r * r < M + r
