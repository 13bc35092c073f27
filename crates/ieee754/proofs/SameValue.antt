-- A value of a format is written in one way. For any format.
use Rattle.std.proofs.Common.{◌≡◌, ℕ, ◌*◌, ◌^◌, ◌<◌, Bool, false, T, sym, ap, ◌∙◌, le_antisymm, mul_right_comm}
use native.Mathlib.Nat.{eq_of_mul-eq-mul_right}
use lib.Ieee.{Float, nan, inf, fin, Format, low, up, down, le, fits, of_bits, to_bits}
use lib.Ieee.Bits.{of_bits-to_bits}
use lib.Ieee.Fits.{down_pos}
use lib.Ieee.Exact.{HasValue}
use lib.Ieee.Positive.{positive, num, den, den_pos, own_value, le→cross}
use Rattle.ieee754_rounding.proofs.FormatValues.{grid_of, rescale}
use Rattle.ieee754.proofs.Patterns.{bits_of}

pub same_value : (f : Format) (x y : Float) (s : Bool) (n c : ℕ) → 0 < c → T (fits f x) → T (fits f y) → HasValue x s n c → HasValue y s n c → x ≡ y
same_value f nan y s n c cp p q v w = absurd v
same_value f (inf t) y s n c cp p q v w = absurd v
same_value f (fin t m e) y s n c cp p q v w =
    let g = grid_of f t m e p in
    let u : ℕ = m * 2 ^ g.places in
    let over : u * c ≡ n * 2 ^ low f =
    eq_of_mul-eq-mul_right (down e) (down_pos e) (u * c) (n * 2 ^ low f)
    (mul_right_comm u c (down e) ∙ ap (λ (z : ℕ). z * c) (sym g.is) ∙ mul_right_comm (m * up e) (2 ^ low f) c ∙ ap (λ (z : ℕ). z * 2 ^ low f) v.1 ∙ mul_right_comm n (down e) (2 ^ low f)) in
    let same : to_bits f (fin t m e) ≡ to_bits f y = bits_of f (fin t m e) s u (v.0, g.is) ∙ sym (bits_of f y s u (rescale y s n c u (2 ^ low f) cp over w)) in
    sym (of_bits-to_bits f (fin t m e) p) ∙ ap (of_bits f) same ∙ of_bits-to_bits f y q

-- what is neither above nor below
pub same_of_le : (f : Format) (x y : Float) → T (fits f x) → T (fits f y) → T (positive x) → T (positive y) → T (le x y) → T (le y x) → x ≡ y
same_of_le f x y fx fy px py h k =
    same_value f x y false (num x) (den x) (den_pos x) fx fy (own_value x px)
    (rescale y false (num y) (den y) (num x) (den x) (den_pos y) (le_antisymm (le→cross x y px py h) (le→cross y x py px k)) (own_value y py))
