-- The start and a step of Goldschmidt's iteration, by which the code guesses a square root. No other definition names them. Definitions only.
use Rattle.std.specs.Prelude.{ℕ, ◌-◌, ◌/◌, from_bits, Float}
use Rattle.std.specs.Float.{binary64}
use Rattle.std.specs.Float.Ieee.{sub, mul}
use Rattle.ieee754_roots.specs.declared.goldschmidt.Estimate.{Estimate}

-- 1.5
abbrev one_point5 : Float
one_point5 = from_bits binary64 0x3ff8_0000_0000_0000

-- 0.5
abbrev one_half : Float
one_half = from_bits binary64 0x3fe0_0000_0000_0000

-- at x, with y for the inverse of the root, which half of the pattern of x gives
abbrev pub start_at : Float → ℕ → Estimate
start_at x bits =
    let y = from_bits binary64 (0x5fe6_eb50_c7b5_37a9 - bits / 2) in
    record { root = mul binary64 x y; half = mul binary64 one_half y }

-- both times 1.5 - root * half
abbrev pub refinement : Estimate → Estimate
refinement e =
    let t = sub binary64 one_point5 (mul binary64 e.root e.half) in
    record { root = mul binary64 e.root t; half = mul binary64 e.half t }
