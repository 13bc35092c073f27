-- Module 2: numbers of four limbs, and the remainder by the turn in limbs of 41 bits. Definitions only.
use Rattle.std.specs.Prelude.{◌≡◌, ℕ, ◌+◌, ◌*◌, ◌%◌, ◌^◌, ◌<◌}
use Rattle.elementary_reduction.specs.Reduction.{turn}

-- in the base B, the lowest limb first
unfoldable pub limbs : ℕ → ℕ → ℕ → ℕ → ℕ → ℕ
limbs B w0 w1 w2 w3 = ((w3 * B + w2) * B + w1) * B + w0

-- the four limbs are v's remainder by the turn
pub record RestLimbs (v w0 w1 w2 w3 : ℕ) : Type 0 where
  pub is : limbs (2 ^ 41) w0 w1 w2 w3 ≡ v % turn
  pub fits0 : w0 < 2 ^ 41
  pub fits1 : w1 < 2 ^ 41
  pub fits2 : w2 < 2 ^ 41
  pub fits3 : w3 < 2 ^ 40
