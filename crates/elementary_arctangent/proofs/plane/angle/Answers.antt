-- `plane::angle` meets its contract: the tests of the special cases, in the order of the definition.
use mathlib.Core.Path.{◌≡◌, refl, sym, ap, ◌∙◌, subst}
use mathlib.Core.Bool.{Bool, true, false, not, cond}
use lib.Dec.{T}
use lib.Ieee.{Float, binary64, eq, is_nan, of_bits, inf}
use lib.Ieee.Positive.{positive}
use Rattle.ieee754.specs.Binary64.{zero, pi, half_pi, quarter_pi, three_quarters_pi}
use Rattle.ieee754.specs.Sign.{absolute, plus_zero, sign_bit, signed}
use Rattle.elementary_arctangent.specs.Steps.{regular_angle}
use Rattle.elementary_arctangent.specs.Code.Tests.{upper_angle}
use Rattle.ieee754.proofs.SizeBits.{absolute_no_nan}
use Rattle.elementary_arctangent.proofs.SignBits.{absolute_sign}
use Rattle.elementary_arctangent.proofs.Cases.{positive_of}
use Rattle.elementary_arctangent.proofs.plane.angle.Goals.{After-negative-left, Start, then-a-3-via-then-a-3, then-a-3-via-else-a-3+then-b-2}
use Rattle.elementary_arctangent.proofs.plane.angle.Goals as goal

-- 0.0, and INFINITY
abbrev zero_text : Float
zero_text = zero

abbrev infinity_text : Float
infinity_text = of_bits binary64 0x7ff0_0000_0000_0000

zero_is : zero_text ≡ plus_zero
unfolding of_bits
zero_is = refl

infinity_is : infinity_text ≡ (inf false)
unfolding of_bits
infinity_is = refl

is_zero : (a : Float) {t : Bool} → eq a zero_text ≡ t → eq a plus_zero ≡ t
is_zero a h = sym (ap (eq a) zero_is) ∙ h

is_infinite : (a : Float) {t : Bool} → eq a infinity_text ≡ t → eq a (inf false) ≡ t
is_infinite a h = sym (ap (eq a) infinity_is) ∙ h

module _ (a b : Float) (left : Bool) where
  at_zero : {v : Float} → eq a zero_text ≡ true → v ≡ cond left pi zero_text → v ≡ upper_angle left a b
  unfolding upper_angle
  at_zero p e = rw (is_zero a p) (e ∙ ap (cond left pi) zero_is)

  module _ (za : eq a zero_text ≡ false) where
    both-far : {v : Float} → eq b infinity_text ≡ true → eq a infinity_text ≡ true → v ≡ cond left three_quarters_pi quarter_pi → v ≡ upper_angle left a b
    unfolding upper_angle
    both-far q r e = rw (is_zero a za, is_infinite b q, is_infinite a r) e

    far : {v : Float} → eq b infinity_text ≡ true → eq a infinity_text ≡ false → v ≡ cond left pi zero_text → v ≡ upper_angle left a b
    unfolding upper_angle
    far q r e = rw (is_zero a za, is_infinite b q, is_infinite a r) (e ∙ ap (cond left pi) zero_is)

    high : eq b infinity_text ≡ false → eq a infinity_text ≡ true → half_pi ≡ upper_angle left a b
    unfolding upper_angle
    high q r = rw (is_zero a za, is_infinite b q, is_infinite a r)

    module _ (ib : eq b infinity_text ≡ false) (ia : eq a infinity_text ≡ false) where
      upright : eq b zero_text ≡ true → half_pi ≡ upper_angle left a b
      unfolding upper_angle
      upright z = rw (is_zero a za, is_infinite b ib, is_infinite a ia, is_zero b z)

      other : eq b zero_text ≡ false → regular_angle left a b ≡ upper_angle left a b
      unfolding upper_angle
      other z = rw (is_zero a za, is_infinite b ib, is_infinite a ia, is_zero b z)

-- what is known once the signs and sizes are read
module _ (s : After-negative-left) where
  abbrev start : Start
  start = s.before.before.before.before

  abbrev y : Float
  y = start.args.y

  abbrev x : Float
  x = start.args.x

  abbrev ay : Float
  ay = s.magnitude-a.result

  abbrev ax : Float
  ax = s.magnitude-b.result

  abbrev below : Bool
  below = s.negative-below.result

  abbrev left : Bool
  left = s.negative-left.result

  -- from these to the definition's
  moved : {r v : Float} → r ≡ signed below v → v ≡ upper_angle left ay ax → r ≡ signed (sign_bit y) (upper_angle (sign_bit x) (absolute y) (absolute x))
  moved {r} {v} e f =
      e ∙ ap (λ (b : Bool). signed b v) s.negative-below.ensures
      ∙ ap (signed (sign_bit y)) (f ∙ ap (λ (b : Bool). upper_angle b ay ax) s.negative-left.ensures ∙ ap (λ (z : Float). upper_angle (sign_bit x) z ax) s.magnitude-a.ensures ∙ ap (upper_angle (sign_bit x) (absolute y)) s.magnitude-b.ensures)

  whole : regular_angle left ay ax ≡ upper_angle left ay ax → regular_angle (sign_bit x) (absolute y) (absolute x) ≡ upper_angle (sign_bit x) (absolute y) (absolute x)
  whole f =
      subst (λ (z : Float). regular_angle (sign_bit x) (absolute y) z ≡ upper_angle (sign_bit x) (absolute y) z) s.magnitude-b.ensures
      (subst (λ (z : Float). regular_angle (sign_bit x) z ax ≡ upper_angle (sign_bit x) z ax) s.magnitude-a.ensures (subst (λ (b : Bool). regular_angle b ay ax ≡ upper_angle b ay ax) s.negative-left.ensures f))

  size_of : (z : Float) {w : Float} → T (not (is_nan z)) → w ≡ absolute z → eq w zero_text ≡ false → eq w infinity_text ≡ false → T (positive (absolute z))
  size_of z {w} n e p q = positive_of (absolute z) (absolute_no_nan z n) (absolute_sign z) (ap (λ (k : Float). eq k plus_zero) (sym e) ∙ is_zero w p) (ap (λ (k : Float). eq k (inf false)) (sym e) ∙ is_infinite w q)

pub returns-then-a : goal.returns-then-a
returns-then-a c = let s = (goal.at.returns-then-a c).After-negative-left in moved s c.with_sign.ensures (at_zero (ay s) (ax s) (left s) c.if-a.true c.either.ensures)

pub returns-then-a-2 : goal.returns-then-a-2
returns-then-a-2 c =
    let s = (goal.at.returns-then-a-2 c).After-negative-left in
    moved s c.with_sign-then-a-2.ensures (both-far (ay s) (ax s) (left s) c.if-a.false c.if-b.true c.if-a-2.true c.either-then-a-2.ensures)

pub returns-then-b : goal.returns-then-b
returns-then-b c =
    let s = (goal.at.returns-then-b c).After-negative-left in
    moved s c.with_sign-then-b.ensures (far (ay s) (ax s) (left s) c.if-a.false c.if-b.true c.if-a-2.false c.either-then-b.ensures)

pub returns-then-a-3 : goal.returns-then-a-3
returns-then-a-3 c =
    let s = (goal.at.returns-then-a-3 c).After-negative-left in
    moved s c.with_sign-then-a-3.ensures (elim c.then-a-3.branch [
      | then-a-3-via-then-a-3 w ↦ high (ay s) (ax s) (left s) c.if-a.false c.if-b.false w.if-a-3.true
      | then-a-3-via-else-a-3+then-b-2 w ↦ upright (ay s) (ax s) (left s) c.if-a.false c.if-b.false w.if-a-3.false w.if-b-2.true
    ])

pub regular_angle-requires : goal.regular_angle-requires
regular_angle-requires c =
    let s = (goal.at.regular_angle-requires c).After-negative-left in (
      size_of s (y s) (start s).requires.0 c.magnitude-a.ensures c.if-a.false c.if-a-3.false,
      size_of s (x s) (start s).requires.1 c.magnitude-b.ensures c.if-b-2.false c.if-b.false,
    )

pub returns : goal.returns
returns c =
    let s = (goal.at.returns c).After-negative-left in
    c.regular_angle.ensures ∙ ap (signed (sign_bit (y s))) (whole s (other (ay s) (ax s) (left s) c.if-a.false c.if-b.false c.if-a-3.false c.if-b-2.false))
