-- `shifted` meets its contract.
use mathlib.Core.Path.{sym, subst}
use Prim.Native.Nat.{ℕ, ◌+◌, ◌*◌, ◌%◌, ◌^◌, ◌<◌}
use lib.Dec.{lit<}
use Rattle.elementary_reduction.specs.Code.Rests.{Held}
use Rattle.elementary_reduction.proofs.ShiftedBits.{low_lt, high_lt, low_is, high_is, start, finish, finish_far}
use Rattle.elementary_reduction.proofs.shifted.Goals.{After-remainder-r}
use Rattle.elementary_reduction.proofs.shifted.Goals as goal

-- after the first step
first : (k : After-remainder-r) → Held (k.args.m * 2 ^ (110 + k.args.n % 20)) k.remainder-r.result
first k = let s = k.before in start s.args.m s.args.n k.remainder-r.result s.requires.0 k.remainder-r.ensures

pub remainder-r-requires : goal.remainder-r-requires
remainder-r-requires c =
    let a = c.args in (
      lit< tt,
      lit< tt,
      subst (λ (z : ℕ). z < 2 ^ 61) (sym (low_is a.m a.n)) (low_lt a.m a.n),
      subst (λ (z : ℕ). z < 2 ^ 60) (sym (high_is a.m a.n c.requires.0)) (high_lt a.m a.n c.requires.0),
    )

pub returns-then-n-lt20 : goal.returns-then-n-lt20
returns-then-n-lt20 c =
    finish c.args.m c.args.n c.upper.result c.remainder-r.result c.if-n-lt20.true (first (goal.at.returns-then-n-lt20 c).After-remainder-r) c.upper.ensures

pub returns : goal.returns
returns c =
    finish_far c.args.m c.args.n c.upper-2.result c.remainder-r.result c.shifted.result (first (goal.at.returns c).After-remainder-r) c.shifted.ensures c.upper-2.ensures
