-- `sign::negative` meets its contract: the library reads the sign as `sign_bit` does.
use mathlib.Core.Path.{◌≡◌, refl, ◌∙◌}
use Rattle.std.specs.Float.{Float, nan, inf, fin, is_sign_negative}
use Rattle.ieee754.specs.Sign.{sign_bit}
use Rattle.elementary_arctangent.proofs.sign.negative.Goals as goal

same : (x : Float) → is_sign_negative x ≡ sign_bit x
unfolding is_sign_negative
same nan = refl
same (inf s) = refl
same (fin s m e) = refl

pub returns : goal.returns
returns c = c.is_sign_negative.ensures ∙ same c.args.x
