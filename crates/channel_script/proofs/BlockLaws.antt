-- The memory that a block is lent: what a call on the front of three memories says of the whole of them. Assumes nothing.
use mathlib.Core.Path.{◌≡◌, refl, ap, sym, ◌∙◌}
use mathlib.Core.Bool.{Bool, true, false}
use mathlib.Core.List.{List, ◌∷◌, ◌++◌}
use Prim.Native.Nat.{ℕ, suc, ◌≤◌, ◌<◌}
use native.Mathlib.Omega.{arith}
use borrow.Author.Tests.{ltb-true, ltb-false}
use lib.Dec.{ltb}
use lib.Ieee.{Float}
use lib.ListN.{length, take, drop, set, replicate, drop_of_length-le}
use lib.Seq.{take_all}
use Rattle.channel_model.specs.declared.Blocked.{Blocked}
use Rattle.channel_model.specs.declared.Channel.{Channel}
use Rattle.channel_model.specs.Blocks.{Outcome, outcome, blocked}
use Rattle.channel_script.specs.declared.session.Lists.{Lists}
use Rattle.channel_script.specs.Code.Blocks.{lent_block}

-- no more is lent than there is
module _ (r n : ℕ) (l : List Float) (h : (r ≤ length l) × (r ≤ n) × (r < n → r ≡ length l)) where
  pub front_is : take r l ≡ take n l
  front_is = go (ltb r n) refl
    where
      go : (t : Bool) → ltb r n ≡ t → take r l ≡ take n l
      go true e = let q = h.2 (ltb-true r n e) in take_all r l (omega arith) ∙ sym (take_all n l (omega arith))
      go false e = let q : r ≡ n = omega (arith, ltb-false r n e) in rw q

  pub back_is : drop r l ≡ drop n l
  back_is = go (ltb r n) refl
    where
      go : (t : Bool) → ltb r n ≡ t → drop r l ≡ drop n l
      go true e =
          let q = h.2 (ltb-true r n e) in
          let hr : length l ≤ r = omega arith in
          let hn : length l ≤ n = omega arith in
          drop_of_length-le l hr ∙ sym (drop_of_length-le l hn)
      go false e = let q : r ≡ n = omega (arith, ltb-false r n e) in rw q

-- a call on the fronts of three memories, said of the whole of them
pub lent_is : (c : Channel) (l : Lists) (first second windows : List Float) (n m k : ℕ) (r : Blocked) (first' second' windows' : List Float)
    → (n ≤ length first) × (n ≤ l.first) × (n < l.first → n ≡ length first)
    → (m ≤ length second) × (m ≤ l.second) × (m < l.second → m ≡ length second)
    → (k ≤ length windows) × (k ≤ l.windows) × (k < l.windows → k ≡ length windows)
    → outcome r first' second' windows' ≡ blocked c (record { flag = l.flag; first = take n first; second = take m second }) (take k windows)
    → outcome r (first' ++ drop n first) (second' ++ drop m second) (windows' ++ drop k windows) ≡ lent_block c l first second windows
unfolding lent_block outcome
lent_is c l first second windows n m k r first' second' windows' hn hm hk e =
    let e' = rw (front_is n l.first first hn, front_is m l.second second hm, front_is k l.windows windows hk) at e in
    rw (back_is n l.first first hn, back_is m l.second second hm, back_is k l.windows windows hk)
    (ap (λ (o : Outcome Channel).
    whole_of o (drop l.first first) (drop l.second second) (drop l.windows windows)) e')
  where
    whole_of : Outcome Channel → List Float → List Float → List Float → Outcome Channel
    whole_of o a b d = record { answer = o.answer; channel = o.channel; first = o.first ++ a; second = o.second ++ b; windows = o.windows ++ d }

-- a memory of one number, with its first or its first two written
pub one_written : (n : ℕ) (x y : Float) → set (replicate (suc n) x) 0 y ≡ y ∷ replicate n x
one_written n x y = refl

pub two_written : (n : ℕ) (x y z : Float) → set (set (replicate (suc (suc n)) x) 0 y) 1 z ≡ y ∷ z ∷ replicate n x
two_written n x y z = refl
