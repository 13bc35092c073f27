-- The remainder by the turn as a fraction: it is below 44 / 7; of a whole number of 2 ^ -160 it is that of the whole numbers; up to the f64 nearest 2π, which
-- is below 2π, it is the angle. `reduced` encloses it.
use mathlib.Core.Path.{◌≡◌, sym, ap, ◌∙◌}
use Prim.Native.Nat.{ℕ, ◌*◌, ◌/◌, ◌%◌, ◌^◌, ◌≤◌, ◌<◌}
use native.Mathlib.Nat.{le_trans, le_of_eq, le_of_lt, lt_of_le_of_lt, mul_assoc, mul_comm, mul_right_comm, mul-pos, mul-le-mul_right, mul-lt-mul_of_pos_right, mod-lt, mod-eq_of_lt, mul-div-mul_right}
use lib.Dec.{lit<, lit≤}
use lib.Pow.{pow_pos}
use Rattle.ieee754.proofs.RemainderSteps.{mul_mod}
use Rattle.elementary_reduction.specs.Reduction.{turn}

-- the f64 nearest 2π is this number of 2 ^ -47
abbrev pub turns : ℕ
turns = 884279719003555

turn_pos : 0 < turn
unfolding turn
turn_pos = lit< tt

-- an angle a / d
module _ (a d : ℕ) (dp : 0 < d) where
  pub rest_den_lem : 0 < d * 2 ^ 160
  rest_den_lem = mul-pos dp (pow_pos 160)

  pub rest_upto : a * 2 ^ 160 % (turn * d) * 7 ≤ 44 * (d * 2 ^ 160)
  unfolding turn
  rest_upto =
      le_trans (mul-le-mul_right 7 (le_of_lt (mod-lt (a * 2 ^ 160) (mul-pos turn_pos dp))))
      (le_trans (le_of_eq (mul_right_comm turn d 7)) (le_trans (mul-le-mul_right d (lit≤ {m = turn * 7} {n = 44 * 2 ^ 160} tt)) (le_of_eq (mul_assoc 44 (2 ^ 160) d ∙ ap (λ (z : ℕ). 44 * z) (mul_comm (2 ^ 160) d)))))

  -- a whole number A of 2 ^ -160
  pub whole_units : (A : ℕ) → a * 2 ^ 160 ≡ A * d → a * 2 ^ 160 % (turn * d) * 2 ^ 61 / (d * 2 ^ 160) ≡ A % turn / 2 ^ 99
  whole_units A e =
      ap (λ (z : ℕ). z * 2 ^ 61 / (d * 2 ^ 160)) (ap (λ (z : ℕ). z % (turn * d)) e ∙ mul_mod A turn d turn_pos dp)
      ∙ ap (λ (z : ℕ). z / (d * 2 ^ 160)) (mul_right_comm (A % turn) d (2 ^ 61))
      ∙ ap (λ (z : ℕ). A % turn * 2 ^ 61 * d / z) (mul_comm d (2 ^ 160))
      ∙ mul-div-mul_right (A % turn * 2 ^ 61) (2 ^ 160) dp
      ∙ mul-div-mul_right {m = 2 ^ 61} (A % turn) (2 ^ 99) (pow_pos 61)

  -- within one turn
  module _ (h : a * 2 ^ 47 ≤ turns * 1 * d) where
    pub within : a * 2 ^ 160 % (turn * d) ≡ a * 2 ^ 160
    unfolding turn
    within =
        mod-eq_of_lt
        (lt_of_le_of_lt (le_of_eq (sym (mul_assoc a (2 ^ 47) (2 ^ 113))))
        (lt_of_le_of_lt (mul-le-mul_right (2 ^ 113) h) (lt_of_le_of_lt (le_of_eq (mul_right_comm (turns * 1) d (2 ^ 113))) (mul-lt-mul_of_pos_right (lit< {m = turns * 1 * 2 ^ 113} {n = turn} tt) dp))))

    pub within-units : a * 2 ^ 160 % (turn * d) * 2 ^ 61 / (d * 2 ^ 160) ≡ a * 2 ^ 61 / d
    within-units =
        ap (λ (z : ℕ). z * 2 ^ 61 / (d * 2 ^ 160)) within
        ∙ ap (λ (z : ℕ). z / (d * 2 ^ 160)) (mul_right_comm a (2 ^ 160) (2 ^ 61))
        ∙ mul-div-mul_right {m = 2 ^ 160} (a * 2 ^ 61) d (pow_pos 160)
