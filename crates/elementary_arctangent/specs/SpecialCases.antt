-- Module 2: the special cases of atan2. Definitions only.
use Rattle.std.specs.Prelude.{zero, suc, true, false, Float}
use Rattle.std.specs.Float.{nan, inf, fin}
use Rattle.ieee754.specs.Binary64.{pi, half_pi, quarter_pi, three_quarters_pi}
use Rattle.ieee754.specs.Sign.{plus_zero, signed}

-- IEEE 754-2019, 9.2.1: the value of atan2(y, x) in each special case, and v itself at any other y and x. s is y's sign; `inf false` is +∞ and
-- `inf true` -∞, `fin s zero e` a zero, `fin s (suc m) e` another finite number.
unfoldable pub special : Float → Float → Float → Float
special nan x v = nan
special (inf s) nan v = nan
special (fin s m e) nan v = nan
special (inf s) (inf false) v = signed s quarter_pi
special (inf s) (inf true) v = signed s three_quarters_pi
special (inf s) (fin t n d) v = signed s half_pi
special (fin s m e) (inf false) v = signed s plus_zero
special (fin s m e) (inf true) v = signed s pi
special (fin s zero e) (fin false n d) v = signed s plus_zero
special (fin s zero e) (fin true n d) v = signed s pi
special (fin s (suc m) e) (fin t zero d) v = signed s half_pi
special (fin s (suc m) e) (fin t (suc n) d) v = v
