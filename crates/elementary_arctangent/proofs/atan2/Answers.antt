-- `atan2` meets its contract.
use mathlib.Core.Path.{◌≡◌, sym, ap, ◌∙◌, subst}
use mathlib.Core.Bool.{Bool, false, cond, ◌||◌}
use lib.Dec.{T}
use lib.Ieee.{Float, nan, binary64, fits, is_nan}
use Rattle.ieee754.specs.Sign.{absolute, sign_bit, signed}
use Rattle.ieee754.proofs.Fields.{nan_found}
use Rattle.elementary_arctangent.specs.Promise.{Arctangent}
use Rattle.elementary_arctangent.specs.Steps.{atan2_of}
use Rattle.elementary_arctangent.specs.Code.Tests.{upper_angle, atan2_by_tests}
use Rattle.elementary_arctangent.proofs.Cases.{by_tests, promise_holds}
use Rattle.elementary_arctangent.proofs.atan2.Goals.{Start}
use Rattle.elementary_arctangent.proofs.atan2.Goals as goal

held_y : (c : Start) → T (fits binary64 c.args.y)
held_y c = subst T (sym c.well_formed.0.1) tt

held_x : (c : Start) → T (fits binary64 c.args.x)
held_x c = subst T (sym c.well_formed.1.0.1) tt

-- the tests come to the steps, and the promise holds of these, so it holds of what is equal to them
both : (c : Start) {v : Float} → v ≡ atan2_by_tests c.args.y c.args.x → (v ≡ atan2_of c.args.y c.args.x) × Arctangent c.args.y c.args.x v
both c t =
    let e = t ∙ sym (by_tests c.args.y c.args.x) in
    (e, subst (Arctangent c.args.y c.args.x) (sym e) (promise_holds c.args.y c.args.x (held_y c) (held_x c)))

y_nan : (y x : Float) → y ≡ nan → y ≡ atan2_by_tests y x
unfolding atan2_by_tests is_nan
y_nan y x e = rw e

x_nan : (y x : Float) → is_nan y ≡ false → x ≡ nan → x ≡ atan2_by_tests y x
unfolding atan2_by_tests is_nan
x_nan y x p e = rw (p, e)

steps_are : (y x : Float) {r : Float} → is_nan y ≡ false → is_nan x ≡ false → r ≡ signed (sign_bit y) (upper_angle (sign_bit x) (absolute y) (absolute x)) → r ≡ atan2_by_tests y x
unfolding atan2_by_tests
steps_are y x p q e =
    e
    ∙ sym (ap (λ (k : Bool). cond (k || is_nan x) nan (signed (sign_bit y) (upper_angle (sign_bit x) (absolute y) (absolute x)))) p ∙ ap (λ (k : Bool). cond k nan (signed (sign_bit y) (upper_angle (sign_bit x) (absolute y) (absolute x)))) q)

pub returns-then-is_nan : goal.returns-then-is_nan
returns-then-is_nan c =
    let both = both (goal.at.returns-then-is_nan c).Start (y_nan c.args.y c.args.x (nan_found c.args.y c.is_nan.ensures.value c.if-is_nan.true)) in
    record { bits = both.0; promised = both.1 }

pub returns-then-is_nan-2 : goal.returns-then-is_nan-2
returns-then-is_nan-2 c =
    let both = both (goal.at.returns-then-is_nan-2 c).Start (x_nan c.args.y c.args.x (sym c.is_nan.ensures.value ∙ c.if-is_nan.false) (nan_found c.args.x c.is_nan-2.ensures.value c.if-is_nan-2.true)) in
    record { bits = both.0; promised = both.1 }

pub returns : goal.returns
returns c =
    let both = both (goal.at.returns c).Start (steps_are c.args.y c.args.x (sym c.is_nan.ensures.value ∙ c.if-is_nan.false) (sym c.is_nan-2.ensures.value ∙ c.if-is_nan-2.false) c.angle.ensures) in
    record { bits = both.0; promised = both.1 }
