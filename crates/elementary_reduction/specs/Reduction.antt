-- Module 2: the angle whose sine and cosine are taken is the exact truncated remainder of θ by 2π to 160 binary places, which is a fraction and no float.
-- Definitions only.
use Rattle.std.specs.Prelude.{ℕ, ◌*◌, ◌/◌, ◌%◌, ◌^◌, Float}
use Rattle.std.specs.Float.Ieee.Positive.{num, den}

-- 2π in units of 2 ^ -160, rounded down; to the nearest it is the same. It is twice π, whose published hexadecimal digits are
-- 3.243F6A88 85A308D3 13198A2E 03707344 A4093822 2.. That it is 2π is shown (`TurnIsTwoPi` in elementary_claims).
unfoldable pub turn : ℕ
turn = 0x6487ed5110b4611a62633145c06e0e68948127044

-- the size of the remainder of a finite θ, as a fraction: θ is num θ / den θ in size. The remainder has the sign of θ.
abbrev pub rest_num : Float → ℕ
rest_num θ = num θ * 2 ^ 160 % (turn * den θ)

abbrev pub rest_den : Float → ℕ
rest_den θ = den θ * 2 ^ 160

-- the same in units of 2 ^ -61, rounded down
unfoldable pub reduced : Float → ℕ
reduced θ = rest_num θ * 2 ^ 61 / rest_den θ
