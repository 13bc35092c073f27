-- Lists of the program's complex numbers: what a write leaves, a slice's parts as pairs, and an array that is made by calls.
use mathlib.Core.Path.{◌≡◌, refl, ap, ◌∙◌, subst}
use mathlib.Core.List.{List, []}
use Prim.Native.Nat.{ℕ, zero, suc, ◌+◌, ◌*◌, ◌≤◌, ◌<◌}
use native.Mathlib.Nat.{add-zero}
use native.Mathlib.Omega.{arith}
use native.Mathlib.Decide.{ℕ_discrete, dec_lt}
use denote.Param.Members.{Mut, Called}
use lib.ListN.{get_or, take, drop}
use lib.Seq.{get_or-take, get_or-drop, drop-drop}
use lib.Ieee.{Float, nan}
use Rattle.std.specs.Array.{IsFromFnResultFrom}
use Rattle.std.specs.Simd.{first_chunks}
use Rattle.sums.specs.Interleaved.{at}

-- ---- the chunks of two numbers are the numbers of an interleaved list

pub chunk_at : (xs : List Float) (n k : ℕ) → k < n → get_or (first_chunks 2 n xs) k [] ≡ take 2 (drop (2 * k) xs)
chunk_at xs zero k h = absurd (omega arith)
chunk_at xs (suc n) zero h = refl
chunk_at xs (suc n) (suc k) h = chunk_at (drop 2 xs) n k (omega arith) ∙ ap (take 2) (drop-drop (2 * k) 2 xs ∙ ap (λ (m : ℕ). drop m xs) (two k))
  where
    two : (k : ℕ) → 2 + 2 * k ≡ 2 * suc k
    two k = omega arith

pub chunk_parts : (xs : List Float) (n k : ℕ) {chunks : List (List Float)} → chunks ≡ first_chunks 2 n xs → k < n
    → (get_or (get_or chunks k []) 0 nan, get_or (get_or chunks k []) 1 nan) ≡ at xs k
chunk_parts xs n k e h =
    rw (
      e,
      chunk_at xs n k h,
      get_or-take 2 (drop (2 * k) xs) 0 nan (omega arith),
      get_or-take 2 (drop (2 * k) xs) 1 nan (omega arith),
      get_or-drop (2 * k) xs 0 nan,
      get_or-drop (2 * k) xs 1 nan,
      add-zero,
    )

-- ---- an array of m that calls of a function made, which stays as it is

module _ {F B : Type 0} (g : Mut F (ℕ × Unit {0}) B) (P : ℕ → B → Type 0) (f : F) (m : ℕ)
    (one : (i : ℕ) (y : B) (q : F) → i < m → Called g f (i, tt) y q → P i y × (q ≡ f)) (ys : List B) (d : B) where
  made_from : (i n : ℕ) → i + n ≤ m → IsFromFnResultFrom g f ys i n → (j : ℕ) → i ≤ j → j < i + n → P j (get_or ys j d)
  made_from i zero le t j lo hi = absurd (omega arith)
  made_from i (suc n) le t j lo hi =
      let first = one i t.1 t.0 (omega arith) t.3 in
      let rest : IsFromFnResultFrom g f ys (i + 1) n = subst (λ (q : F). IsFromFnResultFrom g q ys (i + 1) n) first.1 t.4 in
      by first.0 (made_from (i + 1) n (omega arith) rest j) (ℕ_discrete j i)
    where
      by : P i t.1 → (i + 1 ≤ j → j < i + 1 + n → P j (get_or ys j d)) → Dec (j ≡ i) → P j (get_or ys j d)
      by p r (yes e) = rw (e, t.2.1 d) p
      by p r (no ne) = elim (dec_lt i j) [ yes lt ↦ r (omega arith) (omega arith) | no ge ↦ absurd (ne (omega arith)) ]

  pub made : IsFromFnResultFrom g f ys 0 m → (j : ℕ) → j < m → P j (get_or ys j d)
  made t j h = made_from 0 m (omega arith) t j (omega arith) (omega arith)
