-- How far two whole numbers are apart. Definitions only.
use Rattle.std.specs.Prelude.{ℕ, ◌+◌, ◌-◌}

-- |p - q|
abbrev pub distance : ℕ → ℕ → ℕ
distance p q = p - q + (q - p)
