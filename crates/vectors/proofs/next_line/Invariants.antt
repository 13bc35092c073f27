-- `vectors::next_line` meets its contract: the count stays within the list. Assumes nothing.
use Rattle.std.proofs.Common.{◌≤◌, length}
use Rattle.vectors.proofs.next_line.Given as goal

abbrev pub invariant-loop : goal.invariant-loop
invariant-loop l = l.n ≤ length l.words
