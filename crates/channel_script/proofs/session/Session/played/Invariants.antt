-- `played` meets its contract: the fold of the letters that are left is the fold of all. Assumes nothing.
use Rattle.std.proofs.Common.{◌≡◌, drop}
use Rattle.sequences.specs.Folds.{fold}
use Rattle.channel_script.specs.Code.Playing.{after_letter}
use Rattle.channel_script.proofs.session.Session.played.Given as goal

abbrev pub invariant-loop-letter : goal.invariant-loop-letter
invariant-loop-letter l = fold after_letter l.s (drop l.letter-index l.script) ≡ fold after_letter l.initial.s l.script
