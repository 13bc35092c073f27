-- `quotient::ratio` meets its contract.
use Rattle.std.proofs.Common.{◌≡◌, ℕ, ◌-◌, ◌^◌, sym, ap, ◌∙◌, subst}
use lib.Ieee.{Float, binary64, div}
use Rattle.elementary_fixed_point.specs.Conversion.{fixed}
use Rattle.elementary_fixed_point.specs.Ratio.{ratio}
use Rattle.elementary_fixed_point.specs.Code.Bounds.{Proper, NearRatio}
use Rattle.elementary_fixed_point.proofs.RatioBound.{ratio_near, quotient_fixable}
use Rattle.elementary_fixed_point.proofs.quotient.ratio.Goals as goal

both : (a b : Float) → Proper a b → (x : ℕ) → x ≡ fixed (div binary64 a b) - 2 ^ 8 → (x ≡ ratio a b) × NearRatio a b x
unfolding ratio
both a b h x e = (e, subst (NearRatio a b) (sym e) (ratio_near a b h))

pub from_f64-x-requires : goal.from_f64-x-requires
from_f64-x-requires c = quotient_fixable c.args.a c.args.b c.requires

pub returns : goal.returns
returns c =
    let both = both c.args.a c.args.b c.requires _ (c.saturating_sub.ensures ∙ ap (λ (x : ℕ). x - 256) c.from_f64-x.ensures) in
    record { bits = both.0; near = both.1 }
