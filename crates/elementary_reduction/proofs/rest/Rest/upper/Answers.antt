-- `Rest::upper` meets its contract.
use mathlib.Core.Path.{sym}
use Rattle.elementary_reduction.proofs.ShiftedBits.{upper_is}
use Rattle.elementary_reduction.proofs.rest.Rest.upper.Goals as goal

pub returns : goal.returns
returns c = let r = c.args.self in sym (upper_is r.w.w0 r.w.w1 r.w.w2 r.w.w3 r.below_turn.fits0 r.below_turn.fits1)
