-- `quotient::second_quotient` meets its contract.
use mathlib.Core.Path.{◌≡◌, sym, ap, ◌∙◌, subst}
use Prim.Native.Nat.{ℕ, ◌+◌, ◌-◌, ◌*◌, ◌^◌, ◌≤◌}
use lib.Ieee.{Float, of_bits}
use Rattle.ieee754.specs.Binary64.{two_to_minus61}
use Rattle.elementary_fixed_point.specs.Conversion.{scaled}
use Rattle.elementary_fixed_point.specs.Ratio.{ratio}
use Rattle.elementary_fixed_point.specs.Code.Bounds.{Proper}
use Rattle.elementary_arctangent.specs.Steps.{second}
use Rattle.elementary_arctangent.proofs.SecondQuotient.{second_proper}
use Rattle.elementary_arctangent.proofs.quotient.second_quotient.Goals as goal

parts : (q u : ℕ) {a b : Float} → q ≤ 2 ^ 61 → u ≡ 2 * q - 2 ^ 61 → a ≡ scaled u two_to_minus61 → b ≡ scaled (2 ^ 62 + q) two_to_minus61 → Proper a b
unfolding of_bits
parts q u {a} {b} h e f g = subst (λ (z : Float). Proper z b) (sym (f ∙ ap (λ (z : ℕ). scaled z two_to_minus61) e)) (subst (λ (z : Float). Proper (scaled (2 * q - 2 ^ 61) two_to_minus61) z) (sym g) (second_proper q h))

second_is : (q u x r : ℕ) {a b : Float} → u ≡ 2 * q - 2 ^ 61 → a ≡ scaled u two_to_minus61 → b ≡ scaled (2 ^ 62 + q) two_to_minus61 → x ≡ ratio a b → r ≡ x - 2 ^ 10 → r ≡ second q
unfolding second
second_is q u x r {a} {b} e f g h k =
    k ∙ ap (λ (z : ℕ). z - 2 ^ 10) (h ∙ ap (λ (z : Float). ratio z b) (f ∙ ap (λ (z : ℕ). scaled z two_to_minus61) e) ∙ ap (λ (z : Float). ratio (scaled (2 * q - 2 ^ 61) two_to_minus61) z) g)

pub ratio-requires : goal.ratio-requires
ratio-requires c = parts c.args.q c.saturating_sub-excess.result c.requires c.saturating_sub-excess.ensures c.to_f64-u.ensures c.to_f64-v.ensures

pub returns : goal.returns
returns c =
    second_is c.args.q c.saturating_sub-excess.result c.ratio.result c.saturating_sub.result c.saturating_sub-excess.ensures c.to_f64-u.ensures c.to_f64-v.ensures c.ratio.ensures.bits c.saturating_sub.ensures
