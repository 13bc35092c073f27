-- `normalise`: at each turn what is done, and what is left normalised, is the whole list normalised.
use mathlib.Core.Path.{◌≡◌}
use mathlib.Core.List.{◌++◌}
use Prim.Native.Nat.{◌*◌}
use lib.ListN.{length, take, drop}
use Rattle.sequences.specs.Pairs.{map_pairs}
use Rattle.channel_samples.specs.Normalisation.{unit}
use Rattle.channel_samples.proofs.normalisation.normalise.Given as goal

abbrev pub invariant-loop-k : goal.invariant-loop-k
invariant-loop-k l =
    (take (2 * l.k) l.samples ++ map_pairs unit (drop (2 * l.k) l.samples) ≡ map_pairs unit l.initial.samples) × (length l.samples ≡ length l.initial.samples)
