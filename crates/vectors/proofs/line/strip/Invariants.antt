-- `vectors::line::strip` meets its contract: what is left behind what is expected yet is what is left behind all. Assumes nothing.
use Rattle.std.proofs.Common.{◌≡◌, drop, map}
use Rattle.vectors.specs.Code.Lines.{strip}
use Rattle.vectors.proofs.line.strip.Given as goal

abbrev pub invariant-loop-x : goal.invariant-loop-x
invariant-loop-x g l =
    let f = g.W.Word.pattern in
    strip (map f (drop l.x-index l.expected)) l.left ≡ strip (map f l.expected) l.words
