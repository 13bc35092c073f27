-- The test of a list of six.
use mathlib.Core.Path.{◌≡◌, refl}
use mathlib.Core.Bool.{Bool, true, false, ◌||◌, or-false}
use mathlib.Core.List.{List, [], ◌∷◌}
use native.Mathlib.Omega.{arith}
use lib.ListN.{length}
use lib.Ieee.{Float, is_nan}
use Rattle.std.specs.List.{list_any}
use Rattle.tracker.specs.Correction.{any_nan}

six : (a b c d e f : Bool) → (a || (b || (c || (d || (e || (f || false)))))) ≡ (((((a || b) || c) || d) || e) || f)
six true b c d e f = refl
six false true c d e f = refl
six false false true d e f = refl
six false false false true e f = refl
six false false false false true f = refl
six false false false false false f = or-false f

pub any_of_six : (x : List Float) → length x ≡ 6 → list_any is_nan x ≡ any_nan x
unfolding any_nan
any_of_six [] h = absurd (omega (arith, h))
any_of_six (a ∷ []) h = absurd (omega (arith, h))
any_of_six (a ∷ b ∷ []) h = absurd (omega (arith, h))
any_of_six (a ∷ b ∷ c ∷ []) h = absurd (omega (arith, h))
any_of_six (a ∷ b ∷ c ∷ d ∷ []) h = absurd (omega (arith, h))
any_of_six (a ∷ b ∷ c ∷ d ∷ e ∷ []) h = absurd (omega (arith, h))
any_of_six (a ∷ b ∷ c ∷ d ∷ e ∷ f ∷ []) h = six (is_nan a) (is_nan b) (is_nan c) (is_nan d) (is_nan e) (is_nan f)
any_of_six (a ∷ b ∷ c ∷ d ∷ e ∷ f ∷ g ∷ r) h = absurd (omega (arith, h))
