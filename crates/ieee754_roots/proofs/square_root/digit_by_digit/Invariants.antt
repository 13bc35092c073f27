-- `digit_by_digit`: p is the whole root, with the rest, of the digits of m that went into it, and left has the others.
use Rattle.std.proofs.Common.{◌≡◌, ◌+◌, ◌*◌, ◌^◌, ◌≤◌}
use Rattle.ieee754_roots.proofs.square_root.digit_by_digit.Given as goal

abbrev pub invariant-loop : goal.invariant-loop
invariant-loop l = ((l.p.q * l.p.q + l.p.rest) * 2 ^ 64 + l.left ≡ l.m * 2 ^ (10 + 2 * l.counter)) × (l.p.rest ≤ 2 * l.p.q)
