-- `limbs::remainder` meets its contract.
use mathlib.Core.Path.{refl}
use Prim.Native.Nat.{ℕ, ◌+◌, ◌/◌, ◌^◌, ◌<◌, ◌≤◌}
use lib.Dec.{lit<}
use Rattle.elementary_reduction.proofs.TurnLimbs.{B, T0, T1, T2, T3, quotient, Back, first_back, next_back, carried}
use Rattle.elementary_reduction.proofs.limbs.remainder.Goals.{After-column-t0, After-column-t1, After-column-t2}
use Rattle.elementary_reduction.proofs.limbs.remainder.Goals as goal

abbrev q : ℕ → ℕ
q a = a / (T3 + 1)

few : (a : ℕ) → a < 2 ^ 60 → q a ≤ 1335088
few a h = quotient a (q a) h refl

-- what each column gives back
back0 : (k : After-column-t0) → Back (q k.args.a.w3) (k.column-t0.result / B)
back0 k = let q = q k.args.a.w3 in next_back k.args.a.w0 2097152 q T0 k.column-t0.result k.requires.0 (few _ k.requires.3) (lit< tt) (first_back q) k.column-t0.ensures

back1 : (k : After-column-t1) → Back (q k.args.a.w3) (k.column-t1.result / B)
back1 k = next_back k.args.a.w1 (k.column-t0.result / B) (q k.args.a.w3) T1 k.column-t1.result k.requires.1 (few _ k.requires.3) (lit< tt) (back0 k.before) k.column-t1.ensures

back2 : (k : After-column-t2) → Back (q k.args.a.w3) (k.column-t2.result / B)
back2 k = next_back k.args.a.w2 (k.column-t1.result / B) (q k.args.a.w3) T2 k.column-t2.result k.requires.2 (few _ k.requires.3) (lit< tt) (back1 k.before) k.column-t2.ensures

pub returns : goal.returns
returns c =
    let a = c.args.a in
    carried a.w0 a.w1 a.w2 a.w3 c.requires.3 (q a.w3) c.column-t0.result c.column-t1.result c.column-t2.result refl (back2 (goal.at.returns c).After-column-t2) _ _ _ _ c.column-t0.ensures c.column-t1.ensures c.column-t2.ensures c.less_turn.ensures
