-- Demand 3 of the exported functions: the same claim, over the calls of a channel that is a struct of C. proofs/Demand3C.antt proves it. Definitions only.
use Rattle.std.specs.Prelude.{◌≡◌}
use Rattle.std.proofs.Math.Option.{Option}
use Rattle.channel_model.specs.declared.Answer.{Answer}
use Rattle.channel_independence.specs.Demand3.{OneFrequency, Independent, IndependentOfOne, Reached}
use Rattle.gibsumac_claims.specs.Exported.{exported}

unfoldable pub Demand3C : Type 0
Demand3C = Independent exported (OneFrequency exported) (λ (a b : Option Answer). a ≡ b)

-- The same for one list of calls that both get, window memory with it.
unfoldable pub SameCallsC : Type 0
SameCallsC = IndependentOfOne exported (OneFrequency exported)

-- The demand speaks of every list of calls.
unfoldable pub EveryListC : Type 0
EveryListC = Reached exported
