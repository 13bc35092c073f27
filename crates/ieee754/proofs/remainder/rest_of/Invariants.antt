-- `rest_of`: a number with the same rest as what was shifted in so far.
use Rattle.std.proofs.Common.{◌≡◌, ◌*◌, ◌^◌, ◌%◌, ◌<◌}
use Rattle.ieee754.proofs.remainder.rest_of.Given as goal

abbrev pub invariant-loop : goal.invariant-loop
invariant-loop l = (l.r < 2 ^ 53) × (l.r % l.n ≡ l.m * 2 ^ (11 * l.counter) % l.n)
