-- `plane::signed_unit` meets its contract: the two patterns, by computation.
use mathlib.Core.Path.{◌≡◌, refl, sym, ap, ◌∙◌, subst}
use mathlib.Core.Bool.{Bool, true, false, not, cond}
use Prim.Native.Nat.{ℕ, ◌+◌, ◌^◌}
use lib.Dec.{T}
use lib.Ieee.{binary64, neg, nan_bits, of_bits}
use Rattle.ieee754.specs.Sign.{sign_bit, signed}
use Rattle.ieee754.specs.Binary64.{two_to_minus62}
use Rattle.elementary_arctangent.proofs.plane.signed_unit.Goals as goal

is_number : (s : Bool) → T (not (nan_bits binary64 (0x3c10_0000_0000_0000 + cond s (2 ^ 63) 0)))
unfolding nan_bits
is_number true = tt
is_number false = tt

unit_is : (s : Bool) → of_bits binary64 (0x3c10_0000_0000_0000 + cond s (2 ^ 63) 0) ≡ signed s two_to_minus62
unfolding of_bits neg
unit_is true = refl
unit_is false = refl

pub float_from_bits-result : goal.float_from_bits-result
float_from_bits-result c = subst (λ (z : ℕ). T (not (nan_bits binary64 (0x3c10_0000_0000_0000 + z)))) (sym c.bit.ensures) (is_number (sign_bit c.args.y))

pub returns : goal.returns
returns c = ap (λ (z : ℕ). of_bits binary64 (0x3c10_0000_0000_0000 + z)) c.bit.ensures ∙ unit_is (sign_bit c.args.y)
