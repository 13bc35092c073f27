-- `ieee754_roots::square_root::sqrt` meets its contract, by the ranges of the pattern. Assumes nothing.
use Rattle.std.proofs.Common.{◌≡◌, ℕ, ◌<◌, T, sym, ◌∙◌, subst, arith}
use lib.Ieee.{Float, binary64, fits, to_bits}
use lib.Arith.{lt_of_le-ne}
use Rattle.ieee754.specs.SquareRoot.{sqrt}
use Rattle.ieee754.proofs.Fields.{nan_64, nan_found}
use Rattle.ieee754.proofs.SquareRootCases.{sqrt_nan, when_plus_zero, when_minus_zero, when_negative, when_top, when_normal, when-subnormal}
use Rattle.ieee754.proofs.LeadingZeros.{zeros, shifted}
use Rattle.ieee754_roots.proofs.square_root.sqrt.Goals.{Else-b-eq0, Start}
use Rattle.ieee754_roots.proofs.square_root.sqrt.Goals as goal

held : (c : Start) → T (fits binary64 c.args.x)
held c = subst T (sym c.well_formed.0.1) tt

some : (c : Else-b-eq0) → 0 < to_bits binary64 c.args.x
some c = pos (to_bits binary64 c.args.x) c.if-b-eq0.false
  where
    pos : (n : ℕ) → (n ≡ 0 → ⊥) → 0 < n
    pos n h = lt_of_le-ne (omega arith) (λ (e : 0 ≡ n). h (sym e))

pub returns-then-is_nan : goal.returns-then-is_nan
returns-then-is_nan c =
    let e = nan_found c.args.x c.is_nan.ensures.value c.if-is_nan.true in
    subst (λ (z : Float). z ≡ sqrt binary64 z) (sym e) (sym sqrt_nan)

pub returns-then-b-eq0 : goal.returns-then-b-eq0
returns-then-b-eq0 c = when_plus_zero c.args.x (held (goal.at.returns-then-b-eq0 c).Start) c.if-b-eq0.true

pub returns-then-b : goal.returns-then-b
returns-then-b c = when_minus_zero c.args.x (held (goal.at.returns-then-b c).Start) c.if-b.true

pub returns-then-b-gt9223372036854775808 : goal.returns-then-b-gt9223372036854775808
returns-then-b-gt9223372036854775808 c = nan_64 ∙ sym (when_negative c.args.x (held (goal.at.returns-then-b-gt9223372036854775808 c).Start) c.if-b-gt9223372036854775808.true)

pub returns-then-b-ge9218868437227405312 : goal.returns-then-b-ge9218868437227405312
returns-then-b-ge9218868437227405312 c = when_top c.args.x (held (goal.at.returns-then-b-ge9218868437227405312 c).Start) c.if-b-ge9218868437227405312.true (lt_of_le-ne c.if-b-gt9223372036854775808.false c.if-b.false)

pub overflow_sub-z : goal.overflow_sub-z
overflow_sub-z c = let h = zeros (to_bits binary64 c.args.x) (some (goal.at.overflow_sub-z c).Else-b-eq0) c.if-b-lt4503599627370496.true in omega arith

pub root_bits-requires : goal.root_bits-requires
root_bits-requires c =
    let g = shifted (to_bits binary64 c.args.x) (some (goal.at.root_bits-requires c).Else-b-eq0) c.if-b-lt4503599627370496.true in
    (g.0, g.1, omega arith)

pub returns-then-b-lt4503599627370496 : goal.returns-then-b-lt4503599627370496
returns-then-b-lt4503599627370496 c =
    c.root_bits.ensures.0 ∙ sym (when-subnormal c.args.x (held (goal.at.returns-then-b-lt4503599627370496 c).Start) (some (goal.at.returns-then-b-lt4503599627370496 c).Else-b-eq0) c.if-b-lt4503599627370496.true)

pub returns : goal.returns
returns c =
    c.root_bits-2.ensures.0 ∙ sym (when_normal c.args.x (held (goal.at.returns c).Start) c.if-b-lt4503599627370496.false c.if-b-ge9218868437227405312.false)
