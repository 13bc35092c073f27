-- As long as the mark stands, the items passed are the same.
use Rattle.std.proofs.Common.{◌≡◌, true, length, take}
use Rattle.bank_equal_trackers.proofs.same.same_lists.Given as goal

abbrev pub invariant-loop-x : goal.invariant-loop-x
invariant-loop-x g l = l.good ≡ true → take (length l.yielded) l.xs ≡ take (length l.yielded) l.ys
