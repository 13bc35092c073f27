-- A ring is read only where it is live, at the pairs pushed since the count was last 0: with other contents elsewhere the sums go the same way,
-- and what is live then is the same again. Assumes nothing.
use Prim.Native.Nat.{ℕ, ◌+◌, ◌*◌, ◌%◌, ◌<◌, ◌≤◌}
use native.Mathlib.Omega.{arith}
use native.Mathlib.Decide.{ℕ_discrete}
use mathlib.Core.Logic.{◌≢◌}
use mathlib.Core.Path.{◌≡◌, refl, sym, ◌∙◌}
use mathlib.Core.Bool.{Bool, true, false, cond}
use mathlib.Core.List.{List}
use lib.ListN.{length, get_or, set, length-set}
use lib.Seq.{get_or-set_same, get_or-set_other}
use lib.Dec.{ltb}
use lib.Ieee.{Float, nan}
use borrow.Author.Tests.{ltb-false, leb-true}
use Rattle.tracker_power_ratio.specs.declared.PowerSums.{PowerSums}
use Rattle.tracker_power_ratio.specs.Ring.{slot, full, later, abs_i_at, q_sq_at, with_pair}
use Rattle.tracker_power_ratio.specs.PowerRatio.{moved_sum, pushed}

-- two rings of the same count n agree at the pairs that were pushed
pub record Live (n : ℕ) (r q : List Float) : Type 0 where
  pub size₁ : length r ≡ 2048
  pub size₂ : length q ≡ 2048
  pub agrees : (k : ℕ) → k < 2 * n → k < 2048 → get_or r k nan ≡ get_or q k nan

-- nothing is live at the count 0
pub none_live : (r q : List Float) → length r ≡ 2048 → length q ≡ 2048 → Live 0 r q
none_live r q h g = record { size₁ = h; size₂ = g; agrees = λ k l m. absurd (omega arith) }

-- a ring agrees with itself
pub self_live : (n : ℕ) (r : List Float) → length r ≡ 2048 → Live n r r
self_live n r h = record { size₁ = h; size₂ = h; agrees = λ k l m. refl }

-- the same number written at the same place of two lists: they agree there, and where they agreed before
set_agrees : (r q : List Float) (i : ℕ) (v : Float) (k : ℕ) → length r ≡ length q → k < length r → (k ≢ i → get_or r k nan ≡ get_or q k nan)
    → get_or (set r i v) k nan ≡ get_or (set q i v) k nan
set_agrees r q i v k s h f = go (ℕ_discrete k i)
  where
    go : Dec (k ≡ i) → get_or (set r i v) k nan ≡ get_or (set q i v) k nan
    go (yes e) = rw (e, get_or-set_same r i v nan (omega arith), get_or-set_same q i v nan (omega arith))
    go (no d) = get_or-set_other r i k v nan d ∙ f d ∙ sym (get_or-set_other q i k v nan d)

-- a number that is live after one more pair was so before, or is one of the two that were written
was_live : (n k : ℕ) → k < 2 * later n → k < 2048 → k ≢ 2 * slot n → k ≢ 2 * slot n + 1 → k < 2 * n
unfolding later
was_live n k l m d d' = go (ltb n 2047) refl l
  where
    go : (b : Bool) → ltb n 2047 ≡ b → k < 2 * cond b (n + 1) 1024 → k < 2 * n
    go true e g = omega arith
    go false e g = let h : 2047 ≤ n = ltb-false n 2047 e in omega arith

-- one more pair, at the same slot of both
pair_live : (n : ℕ) (r q : List Float) (u v : Float) → Live n r q → Live (later n) (with_pair r (slot n) u v) (with_pair q (slot n) u v)
pair_live n r q u v h =
    let i = 2 * slot n in
    record {
      size₁ = length-set (set r i u) (i + 1) v ∙ length-set r i u ∙ h.size₁;
      size₂ = length-set (set q i u) (i + 1) v ∙ length-set q i u ∙ h.size₂;
      agrees = λ k l m.
          set_agrees (set r i u) (set q i u) (i + 1) v k (simp length-set (h.size₁ ∙ sym h.size₂)) (simp length-set (omega (arith, h.size₁)))
          (λ d'. set_agrees r q i u k (h.size₁ ∙ sym h.size₂) (omega (arith, h.size₁)) (λ d. h.agrees k (was_live n k l m d d') m));
    }

-- the pair that leaves a full ring is live
old_agrees : (n : ℕ) (r q : List Float) → Live n r q → full n ≡ true → (abs_i_at r (slot n) ≡ abs_i_at q (slot n)) × (q_sq_at r (slot n) ≡ q_sq_at q (slot n))
old_agrees n r q h e =
    let f : 1024 ≤ n = leb-true 1024 n e in
    (h.agrees (2 * (n % 1024)) (omega arith) (omega arith), h.agrees (2 * (n % 1024) + 1) (omega arith) (omega arith))

-- a sum with an old number in it that counts only in a full ring
sum_same : (f : Bool) (sum new a b : Float) → (f ≡ true → a ≡ b) → moved_sum f sum new a ≡ moved_sum f sum new b
unfolding moved_sum
sum_same true sum new a b e = rw (e refl)
sum_same false sum new a b e = refl

pub pushed_same : (s : PowerSums) (r q : List Float) (i j : Float) → Live s.pushed r q → (pushed s r i j).0 ≡ (pushed s q i j).0
unfolding pushed
pushed_same s r q i j h =
    let n = s.pushed in
    let a = sum_same (full n) s.sum_abs_i i (abs_i_at r (slot n)) (abs_i_at q (slot n)) (λ e. (old_agrees n r q h e).0) in
    let b = sum_same (full n) s.sum_q_sq j (q_sq_at r (slot n)) (q_sq_at q (slot n)) (λ e. (old_agrees n r q h e).1) in
    λ k. record { pushed = later n; sum_abs_i = a k; sum_q_sq = b k }

pub pushed_live : (s : PowerSums) (r q : List Float) (i j : Float) → Live s.pushed r q
    → Live (pushed s r i j).0.pushed (pushed s r i j).1 (pushed s q i j).1
unfolding pushed
pushed_live s r q i j h = pair_live s.pushed r q i j h
