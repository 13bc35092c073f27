-- `samples` meets its contract: at each turn what is written, and the rule from here on, is the rule's whole list. Assumes nothing.
use Rattle.std.proofs.Common.{◌≡◌, ◌++◌, ◌-◌, length, take}
use Rattle.channel_words.specs.Code.Rules.{ruled_from, ruled_pairs}
use Rattle.channel_words.proofs.rules.Rule.samples.Given as goal

abbrev pub invariant-loop-pair : goal.invariant-loop-pair
invariant-loop-pair l =
    let n = length l.initial.list in
    (take l.pair-index l.list ++ ruled_from l.self l.t (n - l.pair-index) ≡ ruled_pairs l.self n) × (length l.list ≡ n)
