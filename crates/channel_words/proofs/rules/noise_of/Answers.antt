-- `noise_of` meets its contract. Assumes nothing.
use mathlib.Core.Path.{ap}
use lib.Ieee.{Float, of_bits, of_int}
use Rattle.ieee754.specs.Binary64.{minus, over, half}
use Rattle.channel_model.specs.Opening.{whole}
use Rattle.channel_words.specs.Code.Rules.{noise_of}
use Rattle.channel_words.proofs.rules.noise_of.Goals as goal

pub returns : goal.returns
unfolding noise_of whole of_bits of_int
returns c = ap (λ (z : Float). minus (over z (whole 2147483648)) half) c.u64_to_f64.ensures
