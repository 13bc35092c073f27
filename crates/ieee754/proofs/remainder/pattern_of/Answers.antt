-- `pattern_of` meets its contract, by the digits that r has and the places that there are.
use Rattle.std.proofs.Common.{◌≡◌, ℕ, ◌+◌, ◌-◌, ◌*◌, ◌^◌, ◌<◌, subst, sym, arith, lt_of_lt_of_le, lit≤}
use lib.Count.{count_leading_zeros}
use Rattle.ieee754.specs.Code.Units.{digits, places}
use Rattle.ieee754.proofs.LeadingZeros.{zeros, whole, shifted}
use Rattle.ieee754.proofs.UnitPatterns.{full_digits, no_digits, few_fit, few_whole, few_digits, more_digits}
use Rattle.ieee754.proofs.remainder.pattern_of.Goals.{Else-r-eq0}
use Rattle.ieee754.proofs.remainder.pattern_of.Goals as goal

some : (c : Else-r-eq0) → 0 < c.args.r
some c = more c.args.r c.if-r-eq0.false
  where
    more : (r : ℕ) → (r ≡ 0 → ⊥) → 0 < r
    more r h = omega arith

pub returns-then-r-ge4503599627370496-clause-value : goal.returns-then-r-ge4503599627370496-clause-value
returns-then-r-ge4503599627370496-clause-value c = full_digits c.args.r c.args.i c.if-r-ge4503599627370496.true c.requires.0

pub returns-then-r-eq0-clause-value : goal.returns-then-r-eq0-clause-value
returns-then-r-eq0-clause-value c = rw c.if-r-eq0.true (no_digits c.args.i)

pub overflow_sub-z : goal.overflow_sub-z
overflow_sub-z c = let h = zeros c.args.r (some (goal.at.overflow_sub-z c).Else-r-eq0) c.if-r-ge4503599627370496.false in omega arith

pub returns-then-i-z-clause-below : goal.returns-then-i-z-clause-below
returns-then-i-z-clause-below c =
    let s = some (goal.at.returns-then-i-z-clause-below c).Else-r-eq0 in let low = c.if-r-ge4503599627370496.false in
    subst (λ (n : ℕ). n < 9218868437227405312) (sym (few_whole c.args.r c.args.i s low c.if-i-z.true)) (lt_of_lt_of_le (few_fit c.args.r c.args.i s low c.if-i-z.true) (lit≤ tt))

pub returns-then-i-z-clause-value : goal.returns-then-i-z-clause-value
returns-then-i-z-clause-value c =
    let s = some (goal.at.returns-then-i-z-clause-value c).Else-r-eq0 in let low = c.if-r-ge4503599627370496.false in
    subst (λ (n : ℕ). digits n * 2 ^ places n ≡ c.args.r * 2 ^ c.args.i) (sym (few_whole c.args.r c.args.i s low c.if-i-z.true)) (few_digits c.args.r c.args.i s low c.if-i-z.true)

pub overflow_add-result-2 : goal.overflow_add-result-2
overflow_add-result-2 c = let h = shifted c.args.r (some (goal.at.overflow_add-result-2 c).Else-r-eq0) c.if-r-ge4503599627370496.false in record { fits = omega (arith, h, c.requires.1) }

pub returns-clause-below : goal.returns-clause-below
returns-clause-below c = let h = shifted c.args.r (some (goal.at.returns-clause-below c).Else-r-eq0) c.if-r-ge4503599627370496.false in omega (arith, h, c.requires.1)

pub returns-clause-value : goal.returns-clause-value
returns-clause-value c =
    let s = some (goal.at.returns-clause-value c).Else-r-eq0 in let low = c.if-r-ge4503599627370496.false in let z = count_leading_zeros 64 c.args.r - 11 in
    subst (λ (n : ℕ). digits ((c.args.i - z) * 4503599627370496 + n) * 2 ^ places ((c.args.i - z) * 4503599627370496 + n) ≡ c.args.r * 2 ^ c.args.i) (sym (whole c.args.r s low)) (more_digits c.args.r c.args.i s low c.if-i-z.false)
