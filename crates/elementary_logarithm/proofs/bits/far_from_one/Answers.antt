-- `elementary_logarithm::bits::far_from_one` meets its contract.
use mathlib.Core.Path.{◌≡◌, ap, ◌∙◌}
use Prim.Native.Nat.{ℕ, ◌+◌, ◌-◌, ◌*◌, ◌/◌, ◌%◌, ◌^◌, ◌≤◌, ◌<◌}
use native.Mathlib.Omega.{arith}
use borrow.Author.Tests.{lt-ltb, le-ltb}
use lib.Count.{count_leading_zeros}
use lib.Ieee.{Float}
use Rattle.elementary_logarithm.specs.Steps.{log_at, far_from_one}
use Rattle.ieee754.proofs.LeadingZeros.{zeros, whole, shifted}
use Rattle.elementary_logarithm.proofs.bits.far_from_one.Goals.{Then-b-lt4503599627370496}
use Rattle.elementary_logarithm.proofs.bits.far_from_one.Goals as goal

low_is : (b : ℕ) {v : Float} → 0 < b → b < 2 ^ 52 → v ≡ log_at (b * 2 ^ (count_leading_zeros 64 b - 11) % 2 ^ 64) (52 - (count_leading_zeros 64 b - 11)) → v ≡ far_from_one b
unfolding far_from_one
low_is b p l e = rw (lt-ltb b (2 ^ 52) l) (e ∙ ap (λ (z : ℕ). log_at z (52 - (count_leading_zeros 64 b - 11))) (whole b p l))

high_is : (b : ℕ) {v : Float} → 2 ^ 52 ≤ b → v ≡ log_at (b % 2 ^ 52 + 2 ^ 52) (b / 2 ^ 52 + 51) → v ≡ far_from_one b
unfolding far_from_one
high_is b l e = rw (le-ltb b (2 ^ 52) l) e

range : (c : Then-b-lt4503599627370496) → (12 ≤ count_leading_zeros 64 c.args.b) × (count_leading_zeros 64 c.args.b ≤ 63)
range c = zeros c.args.b c.requires.0 c.if-b-lt4503599627370496.true

pub overflow_sub-z : goal.overflow_sub-z
overflow_sub-z c = let h = range (goal.at.overflow_sub-z c).Then-b-lt4503599627370496 in omega arith

pub overflow_cast-z : goal.overflow_cast-z
overflow_cast-z c = let h = range (goal.at.overflow_cast-z c).Then-b-lt4503599627370496 in omega arith

pub overflow_shl-b : goal.overflow_shl-b
overflow_shl-b c = let h = range (goal.at.overflow_shl-b c).Then-b-lt4503599627370496 in omega arith

pub overflow_sub-z-then-b-lt4503599627370496 : goal.overflow_sub-z-then-b-lt4503599627370496
overflow_sub-z-then-b-lt4503599627370496 c = let h = range (goal.at.overflow_sub-z-then-b-lt4503599627370496 c).Then-b-lt4503599627370496 in omega arith

pub log_at-requires : goal.log_at-requires
log_at-requires c = let h = shifted c.args.b c.requires.0 c.if-b-lt4503599627370496.true in (h.0, h.1, omega arith)

pub returns-then-b-lt4503599627370496 : goal.returns-then-b-lt4503599627370496
returns-then-b-lt4503599627370496 c = low_is c.args.b c.requires.0 c.if-b-lt4503599627370496.true c.log_at.ensures

pub returns : goal.returns
returns c = high_is c.args.b c.if-b-lt4503599627370496.false c.log_at-2.ensures
