-- Module 1: a finite f64 in units of the smallest one, by its pattern without its sign: so many digits, and so many places behind them. Definitions only.
use Rattle.std.specs.Prelude.{ℕ, ◌+◌, ◌-◌, ◌/◌, ◌%◌, ◌^◌, cond, nat_lt}

unfoldable pub digits : ℕ → ℕ
digits a = cond (nat_lt a (2 ^ 52)) a (2 ^ 52 + a % 2 ^ 52)

unfoldable pub places : ℕ → ℕ
places a = cond (nat_lt a (2 ^ 52)) 0 (a / 2 ^ 52 - 1)
