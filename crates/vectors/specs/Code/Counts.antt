-- How many lines were decided, and how many of them differ. Definitions only.
use Rattle.std.specs.Prelude.{Bool, cond, ℕ, ◌+◌, ◌-◌, ◌^◌, min}
use Rattle.vectors.specs.declared.tally.Tally.{Tally}

-- one more, and at the largest number of 64 bits no more
unfoldable pub one_more : ℕ → ℕ
one_more n = min (n + 1) (2 ^ 64 - 1)

-- one line more, and one more that differs unless it agrees
unfoldable pub with_line : Tally → Bool → Tally
with_line t agrees = record { lines = one_more t.lines; differ = cond agrees t.differ (one_more t.differ) }
