-- `limbs::less_turn` meets its contract.
use Rattle.elementary_reduction.proofs.ShiftedBits.{own}
use Rattle.elementary_reduction.proofs.TurnLimbs.{stays, goes}
use Rattle.elementary_reduction.proofs.limbs.less_turn.Goals as goal

pub invariant_of-result : goal.invariant_of-result
invariant_of-result c = record {
  below_turn = stays c.args.w.w0 c.args.w.w1 c.args.w.w2 c.args.w.w3 c.requires.0 c.requires.1 c.requires.2 c.requires.3 c.column-s0.result c.column-s1.result c.column-s2.result c.column-s0.ensures c.column-s1.ensures c.column-s2.ensures c.if-s3-le-TURN3.true;
}

pub returns : goal.returns
returns c =
    goes c.args.w.w0 c.args.w.w1 c.args.w.w2 c.args.w.w3 c.requires.0 c.requires.1 c.requires.2 c.requires.3 c.column-s0.result c.column-s1.result c.column-s2.result c.column-s0.ensures c.column-s1.ensures c.column-s2.ensures c.if-s3-le-TURN3.false

pub invariant_of-result-2 : goal.invariant_of-result-2
invariant_of-result-2 c = record {
  below_turn = own (goes c.args.w.w0 c.args.w.w1 c.args.w.w2 c.args.w.w3 c.requires.0 c.requires.1 c.requires.2 c.requires.3 c.column-s0.result c.column-s1.result c.column-s2.result c.column-s0.ensures c.column-s1.ensures c.column-s2.ensures c.if-s3-le-TURN3.false);
}
