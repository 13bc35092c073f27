-- The scope's value: nine samples estimate to 0, whichever they are, at any rate, squared or not.
use mathlib.Core.Path.{◌≡◌, sym}
use mathlib.Core.Bool.{Bool}
use mathlib.Core.List.{List}
use native.Mathlib.Omega.{arith}
use lib.ListN.{length}
use lib.Ieee.{Float}
use Rattle.ieee754.specs.Binary64.{zero}
use Rattle.estimate_correlation.specs.Correlation.{prepared}
use Rattle.estimate_esprit.specs.Esprit.{estimate}
use Rattle.estimate_esprit.proofs.EstimateCases.{too_few}
use Rattle.estimate_correlation.proofs.SampleLaws.{prepared_count}

pub nine_value : (xs : List Float) (squared : Bool) (fs : Float) → length xs ≡ 18 → estimate (prepared squared xs) fs ≡ zero
nine_value xs squared fs h = sym (too_few (prepared squared xs) fs (omega (arith, prepared_count squared xs)))
