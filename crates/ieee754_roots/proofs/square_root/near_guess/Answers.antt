-- `near_guess`: what is left after the three products says how many more than the guess.
use Rattle.std.proofs.Common.{◌≡◌, ℕ, ◌+◌, ◌-◌, ◌*◌, ◌/◌, ◌%◌, ◌^◌, ◌<◌, ◌≤◌, arith}
use Rattle.ieee754_roots.proofs.RootDigits.{excess_is, counted}
use Rattle.ieee754_roots.proofs.square_root.near_guess.Goals as goal

pub returns : goal.returns
returns c =
    let m = c.args.m in
    let q = c.args.q in
    let a = q / 67108864 in
    let b = q % 67108864 in
    let H = m - a * a in
    let Y = H * 67108864 - 2 * a * b in
    let x = Y * 67108864 - b * b in
    counted (m * 2 ^ 52) q x (some m c.requires.0)
    (excess_is m a b q H Y x (split q) (back (a * a) m c.if-m-square.false) (back (2 * a * b) (H * 67108864) c.if-whole-cross.false) (back (b * b) (Y * 67108864) c.if-last-off.false)) c.if-x-q.false
  where
    some : (m : ℕ) → 2 ^ 52 ≤ m → 0 < m * 2 ^ 52
    some m h = omega arith

    split : (x : ℕ) → x ≡ x / 67108864 * 67108864 + x % 67108864
    split x = omega arith

    back : (x y : ℕ) → x ≤ y → y - x + x ≡ y
    back x y h = omega arith
