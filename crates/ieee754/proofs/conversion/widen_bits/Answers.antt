-- `ieee754::conversion::widen_bits` meets its contract. Assumes nothing.
use Rattle.std.proofs.Common.{◌≡◌, ℕ, ◌<◌, ◌≤◌, Bool, sym, subst, lt_of_lt_of_le, arith, lit≤}
use lib.Arith.{lt_of_le-ne}
use lib.Count.{count_leading_zeros}
use lib.Ieee.{binary32, binary64, of_bits}
use Rattle.ieee754.proofs.Fields.{signed}
use Rattle.ieee754.proofs.LeadingZeros.{zeros, shifted}
use Rattle.ieee754.proofs.WideningCases.{zero_widened, widened}
use Rattle.ieee754.proofs.conversion.widen_bits.Goals.{Else-a-eq0}
use Rattle.ieee754.proofs.conversion.widen_bits.Goals as goal

some : (c : Else-a-eq0) → 0 < c.args.a
some c = lt_of_le-ne (omega arith) (λ (e : 0 ≡ c.args.a). c.if-a-eq0.false (sym e))

low : (c : Else-a-eq0) → (12 ≤ count_leading_zeros 64 c.args.a) × (count_leading_zeros 64 c.args.a ≤ 63)
low c = zeros c.args.a (some c) (lt_of_lt_of_le c.requires (lit≤ tt))

pub returns-then-a-eq0 : goal.returns-then-a-eq0
returns-then-a-eq0 c = (at_zero, omega arith)
  where
    at_zero : (s : Bool) → of_bits binary64 (signed binary64 s 0) ≡ of_bits binary32 (signed binary32 s c.args.a)
    at_zero s = subst (λ (z : ℕ). of_bits binary64 (signed binary64 s 0) ≡ of_bits binary32 (signed binary32 s z)) (sym c.if-a-eq0.true) (zero_widened s)

pub overflow_sub-result-2 : goal.overflow_sub-result-2
overflow_sub-result-2 c = let h = low (goal.at.overflow_sub-result-2 c).Else-a-eq0 in omega arith

pub overflow_add-result : goal.overflow_add-result
overflow_add-result c = let g = shifted c.args.a (some (goal.at.overflow_add-result c).Else-a-eq0) (lt_of_lt_of_le c.requires (lit≤ tt)) in omega arith

pub returns : goal.returns
returns c =
    let g = shifted c.args.a (some (goal.at.returns c).Else-a-eq0) (lt_of_lt_of_le c.requires (lit≤ tt)) in
    (widened c.args.a (some (goal.at.returns c).Else-a-eq0) c.requires, omega arith)
