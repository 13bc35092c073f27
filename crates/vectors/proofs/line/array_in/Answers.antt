-- `vectors::line::array_in` meets its contract: each call reads one number. Assumes nothing.
use Rattle.std.proofs.Common.{rules}
use Rattle.vectors.specs.Code.Lines.{values_in}
use Rattle.vectors.proofs.Made.{made_by}
use Rattle.vectors.proofs.line.array_in.Goals as goal

pub returns : goal.returns
unfolding values_in
returns g c = made_by _ _ _ (λ i y q h. (search rules, search rules)) _ _ c.from_fn.ensures.items
