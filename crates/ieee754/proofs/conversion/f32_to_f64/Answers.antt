-- `ieee754::conversion::f32_to_f64` meets its contract. Assumes nothing.
use Rattle.std.proofs.Common.{ℕ, true, false, not, T, sym, ap, ◌∙◌, subst, le_of_lt, add_comm, zero-add}
use lib.Ieee.{binary32, binary64, fits, of_bits, nan_bits}
use Rattle.ieee754.proofs.Fields.{nan_64, nan_found, no_nan, by_plus, by_minus}
use Rattle.ieee754.proofs.conversion.f32_to_f64.Goals.{Start}
use Rattle.ieee754.proofs.conversion.f32_to_f64.Goals as goal

held : (c : Start) → T (fits binary32 c.args.x)
held c = subst T (sym c.well_formed.0.1) tt

pub returns-then-is_nan : goal.returns-then-is_nan
returns-then-is_nan c = nan_64 ∙ sym (nan_found c.args.x c.is_nan.ensures.value c.if-is_nan.true)

pub returns-then-b-lt2147483648 : goal.returns-then-b-lt2147483648
returns-then-b-lt2147483648 c =
    ap (of_bits binary64) (sym (zero-add c.widen_bits-r.result)) ∙ c.widen_bits-r.ensures.0 false ∙ by_plus binary32 c.args.x (held (goal.at.returns-then-b-lt2147483648 c).Start) c.if-b-lt2147483648.true

pub float_from_bits-result-2 : goal.float_from_bits-result-2
float_from_bits-result-2 c =
    subst (λ (z : ℕ). T (not (nan_bits binary64 z))) (add_comm 0x8000_0000_0000_0000 c.widen_bits-r.result)
    (no_nan binary64 true c.widen_bits-r.result (le_of_lt c.widen_bits-r.ensures.1))

pub returns : goal.returns
returns c =
    ap (of_bits binary64) (add_comm c.widen_bits-r.result 0x8000_0000_0000_0000) ∙ c.widen_bits-r.ensures.0 true ∙ by_minus binary32 c.args.x (held (goal.at.returns c).Start) c.if-b-lt2147483648.false
