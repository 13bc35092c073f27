-- `vectors::line::fill` meets its contract: as much of the list as was written has what stands in the line. Assumes nothing.
use Rattle.std.proofs.Common.{◌≡◌, take, length}
use Rattle.vectors.specs.Code.Lines.{from_place}
use Rattle.vectors.proofs.line.fill.Given as goal

abbrev pub invariant-loop-k : goal.invariant-loop-k
invariant-loop-k g l = (take l.k l.list ≡ from_place (λ k. g.W.Word.at k l.words) 0 l.k) × (length l.list ≡ length l.initial.list)
