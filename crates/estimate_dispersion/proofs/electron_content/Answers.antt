-- `estimate_dispersion::electron_content` meets its contract, by the three tests. Assumes nothing.
use mathlib.Core.Path.{◌≡◌}
use mathlib.Core.Bool.{true, false}
use lib.Ieee.{Float, binary64, sub, lt, eq, ne}
use Rattle.ieee754.specs.Binary64.{minus, times, over, square, zero, ten_to_minus6, electron_scale}
use Rattle.ieee754.specs.Sign.{absolute}
use Rattle.estimate_dispersion.specs.Dispersion.{electron_content}
use Rattle.estimate_dispersion.proofs.electron_content.Goals as goal

module _ (f1 f2 theta1 theta2 old : Float) where
  -- what the carriers tell
  abbrev content : Float
  content = absolute (times (times electron_scale (over (times (square f1) (square f2)) (minus (square f1) (square f2)))) (minus (over theta1 f1) (over theta2 f2)))

  first_zero : eq f1 zero ≡ true → old ≡ electron_content f1 f2 theta1 theta2 old
  unfolding electron_content ne
  first_zero h = rw h

  module _ (h1 : eq f1 zero ≡ false) where
    second-zero : eq f2 zero ≡ true → old ≡ electron_content f1 f2 theta1 theta2 old
    unfolding electron_content ne
    second-zero h = rw (h1, h)

    module _ (h2 : eq f2 zero ≡ false) {apart : Float} (e : apart ≡ absolute (sub binary64 f1 f2)) where
      too-near : lt ten_to_minus6 apart ≡ false → old ≡ electron_content f1 f2 theta1 theta2 old
      unfolding electron_content ne
      too-near h = rw (h1, h2, ← e, h)

      told : lt ten_to_minus6 apart ≡ true → {r : Float} → r ≡ content → r ≡ electron_content f1 f2 theta1 theta2 old
      unfolding electron_content ne
      told h er = rw (h1, h2, ← e, h) er

pub returns-then-f1 : goal.returns-then-f1
returns-then-f1 c = first_zero _ _ _ _ _ c.if-f1.true

pub returns-then-f2 : goal.returns-then-f2
returns-then-f2 c = second-zero _ _ _ _ _ c.if-f1.false c.if-f2.true

pub returns-then-not-abs : goal.returns-then-not-abs
returns-then-not-abs c = too-near _ _ _ _ _ c.if-f1.false c.if-f2.false c.abs.ensures c.if-not-abs.true

pub returns : goal.returns
returns c =
    told _ _ _ _ _ c.if-f1.false c.if-f2.false c.abs.ensures c.if-not-abs.false
    c.abs-2.ensures
