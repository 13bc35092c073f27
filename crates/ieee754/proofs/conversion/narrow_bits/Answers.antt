-- `ieee754::conversion::narrow_bits` meets its contract. Assumes nothing.
use Rattle.std.proofs.Common.{ℕ, ◌+◌, ◌-◌, ◌*◌, ◌/◌, ◌%◌, ◌^◌, ◌<◌, ◌≤◌, cond, sym, ap, ◌∙◌, subst, arith, lit≤}
use lib.Ieee.{binary32, of_bits}
use Rattle.ieee754.proofs.ConversionCases.{narrow_large, narrow_tiny, narrow_normal, narrow_subnormal, small_pattern}
use Rattle.ieee754.proofs.conversion.narrow_bits.Goals.{After-rounded_quotient-2}
use Rattle.ieee754.proofs.conversion.narrow_bits.Goals as goal

lead : (y : ℕ) → y % 2 ^ 52 + 2 ^ 52 < 2 ^ 53
lead y = omega arith

few : (c : After-rounded_quotient-2) → c.rounded_quotient-2.result ≤ 2 ^ 24
few c = let a = c.args.a in subst (λ (z : ℕ). z ≤ 2 ^ 24) (sym c.rounded_quotient-2.ensures) (small_pattern (a % 2 ^ 52 + 2 ^ 52) 29 (lead a) (lit≤ tt))

pub returns-then-a-ge5183643171103440896 : goal.returns-then-a-ge5183643171103440896
returns-then-a-ge5183643171103440896 c = (λ s. narrow_large s c.args.a c.if-a-ge5183643171103440896.true c.requires, omega arith)

pub returns-then-e-lt872 : goal.returns-then-e-lt872
returns-then-e-lt872 c = (λ s. narrow_tiny s c.args.a c.if-e-lt872.true, omega arith)

pub returns-then-e-lt897 : goal.returns-then-e-lt897
returns-then-e-lt897 c =
    let a = c.args.a in
    let e = c.rounded_quotient.ensures in (
      λ s. ap (λ (z : ℕ). of_bits binary32 (cond s (2 ^ 31) 0 + z)) e ∙ narrow_subnormal s a c.if-e-lt872.false c.if-e-lt897.true,
      (let h : c.rounded_quotient.result ≤ 2 ^ 24 = subst (λ (z : ℕ). z ≤ 2 ^ 24) (sym e) (small_pattern (a % 2 ^ 52 + 2 ^ 52) (926 - a / 2 ^ 52) (lead a) (shift a c.if-e-lt897.true)) in omega arith),
    )
  where
    shift : (y : ℕ) → y / 2 ^ 52 < 897 → 29 ≤ 926 - y / 2 ^ 52
    shift y h = omega arith

pub returns : goal.returns
returns c =
    let a = c.args.a in
    let e = c.rounded_quotient-2.ensures in (
      λ s. ap (λ (z : ℕ). of_bits binary32 (cond s (2 ^ 31) 0 + ((a / 2 ^ 52 - 897) * 2 ^ 23 + z))) e ∙ narrow_normal s a c.if-e-lt897.false c.if-a-ge5183643171103440896.false,
      (let h = few (goal.at.returns c).After-rounded_quotient-2 in let k = c.if-a-ge5183643171103440896.false in omega arith),
    )
