-- A loop that adds: before turn k its sum is `sum_from op z f k`. Its start, a turn, and its end.
use mathlib.Core.Path.{◌≡◌, refl}
use Prim.Native.Nat.{ℕ, zero, suc, ◌+◌, ◌≤◌, ◌<◌}
use native.Mathlib.Numerals.{add-one}
use native.Mathlib.Omega.{arith}
use Rattle.sums.specs.Ascending.{sum_from}

module _ {ℓ} {A : Type ℓ} (op : A → A → A) (z : A) (f : ℕ → A) where
  pub sum_start : z ≡ sum_from op z f 0
  unfolding sum_from
  sum_start = refl

  pub sum_next : (k : ℕ) {s t : A} → s ≡ sum_from op z f k → t ≡ f k → op s t ≡ sum_from op z f (k + 1)
  unfolding sum_from
  sum_next k es et = rw (add-one, es, et)

  pub sum_end : (k n : ℕ) {s : A} → s ≡ sum_from op z f k → k ≤ n → n ≤ k → s ≡ sum_from op z f n
  sum_end k n h a b = let e : k ≡ n = omega arith in rw e at h

-- sums of the same terms
pub sum_same {ℓ} : {A : Type ℓ} (op : A → A → A) (z : A) (f g : ℕ → A) (n : ℕ) → ((k : ℕ) → k < n → f k ≡ g k) → sum_from op z f n ≡ sum_from op z g n
unfolding sum_from
sum_same op z f g zero h = refl
sum_same op z f g (suc n) h = rw (sum_same op z f g n (λ k l. h k (omega arith)), h n (omega arith))
