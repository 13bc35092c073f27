-- `ieee754::integral::round` meets its contract. Assumes nothing.
use Rattle.std.proofs.Common.{◌≡◌, true, false, T, sym, ap, ◌∙◌, subst}
use lib.Ieee.{Float, binary64, fits}
use Rattle.ieee754.specs.Integral.{rounded_away}
use Rattle.ieee754.proofs.Fields.{nan_found, by_plus, by_minus}
use Rattle.ieee754.proofs.RoundAwayCases.{round_away_nan, stays_whole, away_in, away_plus, away_minus}
use Rattle.ieee754.proofs.integral.round.Goals.{Start}
use Rattle.ieee754.proofs.integral.round.Goals as goal

held : (c : Start) → T (fits binary64 c.args.x)
held c = subst T (sym c.well_formed.0.1) tt

pub returns-then-is_nan : goal.returns-then-is_nan
returns-then-is_nan c = subst (λ (z : Float). z ≡ rounded_away binary64 z) (sym (nan_found c.args.x c.is_nan.ensures.value c.if-is_nan.true)) (round_away_nan binary64)

pub returns-then-a-ge4841369599423283200 : goal.returns-then-a-ge4841369599423283200
returns-then-a-ge4841369599423283200 c = stays_whole binary64 c.args.x (held (goal.at.returns-then-a-ge4841369599423283200 c).Start) c.if-a-ge4841369599423283200.true

pub int_to_float-result : goal.int_to_float-result
int_to_float-result c = away_in binary64 c.whole_away-w.result c.whole_away-w.ensures.1

pub returns-then-b-lt9223372036854775808 : goal.returns-then-b-lt9223372036854775808
returns-then-b-lt9223372036854775808 c =
    away_plus binary64 _ c.whole_away-w.result c.if-a-ge4841369599423283200.false (c.whole_away-w.ensures.0 false) ∙ ap (rounded_away binary64) (by_plus binary64 c.args.x (held (goal.at.returns-then-b-lt9223372036854775808 c).Start) c.if-b-lt9223372036854775808.true)

pub int_to_float-result-2 : goal.int_to_float-result-2
int_to_float-result-2 c = away_in binary64 c.whole_away-w.result c.whole_away-w.ensures.1

pub returns : goal.returns
returns c =
    away_minus binary64 _ c.whole_away-w.result c.if-a-ge4841369599423283200.false (c.whole_away-w.ensures.0 true) ∙ ap (rounded_away binary64) (by_minus binary64 c.args.x (held (goal.at.returns c).Start) c.if-b-lt9223372036854775808.false)
