-- The window memory as a line sets it. Assumes nothing.
use mathlib.Core.Path.{◌≡◌, sym, ap, ◌∙◌}
use Prim.Native.Nat.{ℕ, ◌+◌, ◌*◌, ◌/◌, ◌%◌}
use native.Mathlib.Nat.{mod-add-div, add-mul-mod_self_left}
use native.Mathlib.Omega.{arith}
use lib.Ieee.{Float, of_int, binary64}
use lib.IntN.{pos}
use Rattle.ieee754.specs.Binary64.{over}
use Rattle.channel_model.specs.Opening.{whole}
use Rattle.channel_vectors.specs.Code.Memory.{sixty_fourths}

-- cut before the product and the sum, or after them
pub cut_first : (s i : ℕ) → (i % 64 * 7 + s % 64) % 64 ≡ (7 * i + s) % 64
cut_first s i =
    let di = mod-add-div i 64 in
    let ds = mod-add-div s 64 in
    let e : 7 * i + s ≡ (i % 64 * 7 + s % 64) + 64 * (i / 64 * 7 + s / 64) = omega (arith, di, ds) in
    sym (ap (λ (n : ℕ). n % 64) e ∙ add-mul-mod_self_left (i % 64 * 7 + s % 64) 64 (i / 64 * 7 + s / 64))

pub sixty_fourths_are : (s i : ℕ) {y : Float} → y ≡ of_int binary64 (pos ((i % 64 * 7 + s % 64) % 64)) → over y (whole 64) ≡ sixty_fourths s i
unfolding sixty_fourths whole
sixty_fourths_are s i e = ap (λ (z : Float). over z (whole 64)) (e ∙ ap (λ (n : ℕ). of_int binary64 (pos n)) (cut_first s i))
