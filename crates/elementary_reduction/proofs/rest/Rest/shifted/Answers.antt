-- `Rest::shifted` meets its contract.
use Rattle.elementary_reduction.proofs.ShiftedBits.{all_digits}
use Rattle.elementary_reduction.proofs.rest.Rest.shifted.Goals as goal

pub returns : goal.returns
returns c =
    all_digits c.args.k c.args.self c.where_odd-r1.result c.where_odd-r2.result c.where_odd-r3.result c.where_odd-r4.result c.where_odd-r5.result c.where_odd.result c.requires c.where_odd-r1.ensures c.where_odd-r2.ensures c.where_odd-r3.ensures c.where_odd-r4.ensures c.where_odd-r5.ensures c.where_odd.ensures
