-- `plane::turned` meets its contract.
use mathlib.Core.Path.{◌≡◌, sym, ap, ◌∙◌}
use mathlib.Core.Bool.{Bool, true, cond}
use Prim.Native.Nat.{ℕ, ◌-◌}
use native.Mathlib.Nat.{le_trans, le_of_eq}
use lib.Dec.{lit≤}
use Rattle.elementary_arctangent.specs.Steps.{straight_angle}
use Rattle.elementary_arctangent.proofs.Tables.{right_angle_is, straight_angle_is}
use Rattle.elementary_arctangent.proofs.plane.turned.Goals as goal

on_left : (left : Bool) (d : ℕ) → left ≡ true → 14488038916154245684 - d ≡ cond left (straight_angle - d) d
on_left left d h = sym (ap (λ (t : Bool). cond t (straight_angle - d) d) h ∙ ap (λ (z : ℕ). z - d) straight_angle_is)

pub overflow_sub-result : goal.overflow_sub-result
overflow_sub-result c = le_trans c.requires (le_trans (le_of_eq right_angle_is) (lit≤ tt))

pub returns-then-left : goal.returns-then-left
returns-then-left c = on_left c.args.left c.args.d c.if-left.true
