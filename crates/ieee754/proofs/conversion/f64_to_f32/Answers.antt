-- `ieee754::conversion::f64_to_f32` meets its contract. Assumes nothing.
use Rattle.std.proofs.Common.{ℕ, true, false, not, T, sym, ap, ◌∙◌, subst, add_comm, zero-add}
use lib.Ieee.{binary32, binary64, fits, of_bits, nan_bits}
use Rattle.ieee754.specs.Conversion.{convert}
use Rattle.ieee754.proofs.Fields.{nan_32, nan_found, none_found, no_nan, by_plus, by_minus, at_most_infinity}
use Rattle.ieee754.proofs.ConversionCases.{convert_nan}
use Rattle.ieee754.proofs.conversion.f64_to_f32.Goals.{Start}
use Rattle.ieee754.proofs.conversion.f64_to_f32.Goals as goal

held : (c : Start) → T (fits binary64 c.args.x)
held c = subst T (sym c.well_formed.0.1) tt

pub returns-then-is_nan : goal.returns-then-is_nan
returns-then-is_nan c = nan_32 ∙ convert_nan ∙ ap (convert binary32) (sym (nan_found c.args.x c.is_nan.ensures.value c.if-is_nan.true))

pub float_to_bits-b : goal.float_to_bits-b
float_to_bits-b c = none_found c.args.x c.is_nan.ensures.value c.if-is_nan.false

pub narrow_bits-r-requires : goal.narrow_bits-r-requires
narrow_bits-r-requires c = at_most_infinity binary64 c.args.x (held (goal.at.narrow_bits-r-requires c).Start) (float_to_bits-b c)

pub returns-then-b-lt9223372036854775808 : goal.returns-then-b-lt9223372036854775808
returns-then-b-lt9223372036854775808 c =
    ap (of_bits binary32) (sym (zero-add c.narrow_bits-r.result)) ∙ c.narrow_bits-r.ensures.0 false ∙ ap (convert binary32) (by_plus binary64 c.args.x (held (goal.at.returns-then-b-lt9223372036854775808 c).Start) c.if-b-lt9223372036854775808.true)

pub float_from_bits-result-2 : goal.float_from_bits-result-2
float_from_bits-result-2 c = subst (λ (z : ℕ). T (not (nan_bits binary32 z))) (add_comm 0x8000_0000 c.narrow_bits-r.result) (no_nan binary32 true c.narrow_bits-r.result c.narrow_bits-r.ensures.1)

pub returns : goal.returns
returns c =
    ap (of_bits binary32) (add_comm c.narrow_bits-r.result 0x8000_0000) ∙ c.narrow_bits-r.ensures.0 true ∙ ap (convert binary32) (by_minus binary64 c.args.x (held (goal.at.returns c).Start) c.if-b-lt9223372036854775808.false)
