-- The four trackers of a channel. Definitions only.
use Rattle.std.specs.Prelude.{cond, List, [], ◌∷◌, ℕ, eqb}
use Prim.Native.Char.{code}
use Rattle.channel_script.specs.declared.place.Place.{Place}
use Rattle.channel_script.specs.declared.place.Place.TheVariants.{First, Second, Third, Pll}

-- "0 to 2 or 3 for pll_tracker", and above that too
abbrev pub place_of : ℕ → Place
place_of n = cond (eqb n 0) First (cond (eqb n 1) Second (cond (eqb n 2) Third Pll))

abbrev pub place_letters : List (ℕ × Place)
place_letters = (code "0", First) ∷ (code "1", Second) ∷ (code "2", Third) ∷ (code "3", Pll) ∷ []
