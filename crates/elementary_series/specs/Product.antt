-- Module 2: products of numbers below 2 ^ 64 of which the upper 64 bits are kept. Definitions only.
use Rattle.std.specs.Prelude.{ℕ, ◌*◌, ◌/◌, ◌^◌}

-- the upper half of a two-word product
abbrev pub hi : ℕ → ℕ → ℕ
hi u v = u * v / 2 ^ 64
