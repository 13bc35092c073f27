-- What the line of values opens (the scope, "The pass text and its list"): "It opens and assigns a one-frequency channel, ratio 1, second target
-- and `frequency2` 0." The values stand in the order of their names: rate, factor, mod, adaptive, dual, bank, fade, nominal, target.
-- Definitions only.
use Rattle.std.specs.Prelude.{Bool, cond, false, List, ℕ, eqb, get_or}
use Rattle.ieee754.specs.Binary64 as float
use Rattle.channel_model.specs.declared.Settings.{Settings}
use Rattle.channel_model.specs.declared.Carriers.{Carriers}
use Rattle.channel_model.specs.Returns.{Returned}
use Rattle.channel_model.specs.Opening.{whole, opened}
use Rattle.channel_model.specs.Assigning.{assigned}

-- n i is value i, and a switch is on where it is 1; `dual` is dual lock
unfoldable pub settings_of : List ℕ → Settings
settings_of v =
    let n : ℕ → ℕ = λ i. get_or v i 0 in
    let on : ℕ → Bool = λ i. eqb (n i) 1 in
    record { rate = n 0; factor = n 1; modulation = n 2; adaptive = on 3; dual_lock = on 4; bank = on 5; two = false; fade = n 6; ratio = float.one }

unfoldable pub carriers_of : List ℕ → Carriers
carriers_of v = record { nominal = whole (get_or v 7 0); target = whole (get_or v 8 0); target2 = float.zero; frequency2 = float.zero }

-- opened, and after it assigned: the channel, or the first refusal of the two
unfoldable pub readied : List ℕ → Returned
readied v = let o = opened (settings_of v) in cond (eqb o.refusal 0) (assigned o.channel (carriers_of v)) o
