-- `normalise`: at each turn what is done, and what is left normalised, is the whole list normalised.
use mathlib.Core.Path.{◌≡◌, sym, ◌∙◌}
use Prim.Native.Nat.{◌+◌, ◌*◌}
use native.Mathlib.Omega.{arith}
use lib.ListN.{length-set}
use lib.Ieee.{nan}
use Rattle.sequences.proofs.PairLaws.{map_pairs_next, map_pairs_end}
use Rattle.channel_samples.specs.Normalisation.{unit, normalised}
use Rattle.channel_samples.proofs.normalisation.normalise.Goals as goal

pub loop-k-preserved : goal.loop-k-preserved
loop-k-preserved c =
    let l = c.loop-k in
    let two : 2 * (l.k + 1) ≡ 2 * l.k + 2 = omega arith in (
      rw two (map_pairs_next l.samples (2 * l.k) unit nan (omega arith) c.unit_of-re.ensures ∙ l.invariant.0),
      simp length-set l.invariant.1,
    )

pub returns : goal.returns
unfolding normalised
returns c = sym (map_pairs_end c.loop-k.samples (2 * c.loop-k.k) unit (omega arith)) ∙ c.loop-k.invariant.0
