-- `ieee754::conversion::rounded_quotient` meets its contract.
use Rattle.std.proofs.Common.{◌≡◌, ℕ, ◌+◌, ◌*◌, ◌/◌, ◌%◌, ◌^◌, ◌<◌, ◌≤◌, Bool, true, false, cond, not, T, ltb, sym, refl, ap, ◌∙◌, subst, le_trans, le_of_eq, add-zero, arith, ltb→lt, nltb→le}
use Rattle.ieee754.specs.Code.Quotients.{nearest_quotient, rounding_carry}
use Rattle.ieee754.proofs.ConversionCases.{rounded_lt, rounded_gt, rounded_eq, quotient_le}
use Rattle.ieee754.proofs.conversion.rounded_quotient.Goals as goal

carry_le : (q r h : ℕ) → rounding_carry q r h ≤ 1
unfolding rounding_carry
carry_le q r h = go (ltb r h) (ltb h r)
  where
    go : (x y : Bool) → cond x 0 (cond y 1 (q % 2)) ≤ 1
    go true y = omega arith
    go false true = omega arith
    go false false = omega arith

summed : (m s k : ℕ) → 0 < s → s < 64 → k ≡ rounding_carry (m / (1 * 2 ^ s % 2 ^ 64)) (m % (1 * 2 ^ s % 2 ^ 64)) (1 * 2 ^ s % 2 ^ 64 / 2)
    → m / (1 * 2 ^ s % 2 ^ 64) + k ≡ nearest_quotient m (2 ^ s)
unfolding rounding_carry
summed m s k S H e =
    ap (λ (z : ℕ). m / (1 * 2 ^ s % 2 ^ 64) + z) e ∙ go (ltb (m % (1 * 2 ^ s % 2 ^ 64)) (1 * 2 ^ s % 2 ^ 64 / 2)) (ltb (1 * 2 ^ s % 2 ^ 64 / 2) (m % (1 * 2 ^ s % 2 ^ 64))) refl refl
  where
    go : (x y : Bool) → ltb (m % (1 * 2 ^ s % 2 ^ 64)) (1 * 2 ^ s % 2 ^ 64 / 2) ≡ x → ltb (1 * 2 ^ s % 2 ^ 64 / 2) (m % (1 * 2 ^ s % 2 ^ 64)) ≡ y
        → m / (1 * 2 ^ s % 2 ^ 64) + cond x 0 (cond y 1 (m / (1 * 2 ^ s % 2 ^ 64) % 2)) ≡ nearest_quotient m (2 ^ s)
    go true y p q = add-zero (m / (1 * 2 ^ s % 2 ^ 64)) ∙ rounded_lt m s S H (ltb→lt _ _ (subst T (sym p) tt))
    go false true p q = rounded_gt m s S H (ltb→lt _ _ (subst T (sym q) tt))
    go false false p q = rounded_eq m s S H (nltb→le _ _ (subst (λ (b : Bool). T (not b)) (sym p) tt)) (nltb→le _ _ (subst (λ (b : Bool). T (not b)) (sym q) tt))

pub overflow_add-result : goal.overflow_add-result
overflow_add-result c =
    let h = quotient_le c.args.m c.args.s c.requires.1 c.requires.2 in
    let k : c.rounding_carry.result ≤ 1 = le_trans (le_of_eq c.rounding_carry.ensures) (carry_le _ _ _) in
    omega arith

pub returns : goal.returns
returns c = summed c.args.m c.args.s c.rounding_carry.result c.requires.1 c.requires.2 c.rounding_carry.ensures
