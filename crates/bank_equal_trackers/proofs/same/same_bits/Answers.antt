-- `same_bits`, from two patterns that are the same number.
use mathlib.Core.Path.{sym, subst}
use lib.Dec.{T}
use Rattle.bank_equal_trackers.proofs.EqualBits.{is_number, bits_tell}
use Rattle.bank_equal_trackers.proofs.same.same_bits.Goals as goal

pub float_to_bits-result-then-x-y : goal.float_to_bits-result-then-x-y
float_to_bits-result-then-x-y c = is_number _ _ c.if-x-y.true

pub returns-then-x-y : goal.returns-then-x-y
returns-then-x-y c = λ h. bits_tell _ _ (subst T (sym c.well_formed.0.1) tt) (subst T (sym c.well_formed.1.0.1) tt) h
