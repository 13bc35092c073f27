-- Module 8: two carriers f1 and f2 of one satellite. The ionosphere delays them by their frequency squared, so two measurements tell its
-- part from the rest (`AppletonHartreeDispersion::cancel`), and how many electrons were on the way. All in binary64. Definitions only.
use Rattle.std.specs.Prelude.{cond, ◌&&◌, Float}
use Rattle.std.specs.Float.Ieee.{lt, ne}
use Rattle.ieee754.specs.Binary64.{minus, times, over, square, zero, ten_to_minus6, electron_scale}
use Rattle.ieee754.specs.Sign.{absolute}

-- (f1² d1 - f2² d2) / (f1² - f2²), and d1 where the two squares are within 1e-6 of each other
unfoldable pub dispersion_free : Float → Float → Float → Float → Float
dispersion_free f1 f2 d1 d2 =
    let apart = minus (square f1) (square f2) in
    cond (lt (absolute apart) ten_to_minus6) d1 (over (minus (times (square f1) d1) (times (square f2) d2)) apart)

-- The electron content, |1.1839e-10 (f1² f2² / (f1² - f2²)) (θ1 / f1 - θ2 / f2)|, multiplied from the left. The two carriers tell it where
-- neither is 0 and they are more than 1e-6 apart; otherwise it stays the old one.
unfoldable pub electron_content : Float → Float → Float → Float → Float → Float
electron_content f1 f2 theta1 theta2 old =
    let scale = times electron_scale (over (times (square f1) (square f2)) (minus (square f1) (square f2))) in
    cond (ne f1 zero && (ne f2 zero && lt ten_to_minus6 (absolute (minus f1 f2))))
    (absolute (times scale (minus (over theta1 f1) (over theta2 f2))))
    old
