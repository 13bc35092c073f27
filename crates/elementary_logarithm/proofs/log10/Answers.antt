-- `elementary_logarithm::log10` meets its contract.
use mathlib.Core.Path.{◌≡◌, refl, sym, ◌∙◌, subst}
use mathlib.Core.Bool.{true, false, true≢false}
use lib.Dec.{T}
use lib.Ieee.{Float, nan, inf, fin, binary64, fits, eq, of_bits}
use Rattle.ieee754.proofs.Fields.{nan_found}
use Rattle.elementary_logarithm.specs.Steps.{log10_of}
use Rattle.elementary_logarithm.specs.Promise.{CommonLogarithm}
use Rattle.elementary_logarithm.proofs.Cases.{nan_is, zero_is, negative_is, infinity_is, other_is, promised, asked}
use Rattle.elementary_logarithm.proofs.log10.Goals.{Start}
use Rattle.elementary_logarithm.proofs.log10.Goals as goal

held : (c : Start) → T (fits binary64 c.args.x)
held c = subst T (sym c.well_formed.0.1) tt

-- the second statement follows from the first
both : (x : Float) → T (fits binary64 x) → (v : Float) → v ≡ log10_of x → (v ≡ log10_of x) × CommonLogarithm x v
both x F v e = (e, subst (CommonLogarithm x) (sym e) (promised x F))

is_infinite : (x : Float) → eq x (inf false) ≡ true → x ≡ inf false
unfolding eq
is_infinite nan h = absurd (true≢false (sym h))
is_infinite (inf true) h = absurd (true≢false (sym h))
is_infinite (inf false) h = refl
is_infinite (fin s m e) h = absurd (true≢false (sym h))

pub returns-then-is_nan : goal.returns-then-is_nan
returns-then-is_nan c =
    let both = both c.args.x (held (goal.at.returns-then-is_nan c).Start) c.args.x (nan_is c.args.x (nan_found c.args.x c.is_nan.ensures.value c.if-is_nan.true)) in
    record { bits = both.0; promised = both.1 }

pub returns-then-x : goal.returns-then-x
unfolding of_bits
returns-then-x c =
    let both = both c.args.x (held (goal.at.returns-then-x c).Start) _ (zero_is c.args.x (sym c.is_nan.ensures.value ∙ c.if-is_nan.false) c.if-x.true) in
    record { bits = both.0; promised = both.1 }

pub returns-then-x-2 : goal.returns-then-x-2
unfolding of_bits
returns-then-x-2 c =
    let both = both c.args.x (held (goal.at.returns-then-x-2 c).Start) _ (negative_is c.args.x (sym c.is_nan.ensures.value ∙ c.if-is_nan.false) c.if-x.false c.if-x-2.true) in
    record { bits = both.0; promised = both.1 }

pub returns-then-x-3 : goal.returns-then-x-3
unfolding of_bits
returns-then-x-3 c =
    let both = both c.args.x (held (goal.at.returns-then-x-3 c).Start) _ (is_infinite c.args.x c.if-x-3.true ∙ infinity_is c.args.x (sym c.is_nan.ensures.value ∙ c.if-is_nan.false) c.if-x.false c.if-x-2.false c.if-x-3.true) in
    record { bits = both.0; promised = both.1 }

pub log_of_bits-requires : goal.log_of_bits-requires
unfolding of_bits
log_of_bits-requires c = asked c.args.x (held (goal.at.log_of_bits-requires c).Start) (sym c.is_nan.ensures.value ∙ c.if-is_nan.false) c.if-x.false c.if-x-2.false c.if-x-3.false

pub returns : goal.returns
unfolding of_bits
returns c =
    let both = both c.args.x (held (goal.at.returns c).Start) _ (other_is c.args.x (sym c.is_nan.ensures.value ∙ c.if-is_nan.false) c.if-x.false c.if-x-2.false c.if-x-3.false c.log_of_bits.ensures) in
    record { bits = both.0; promised = both.1 }
