-- The samples or their squares: sample k of the prepared list is made of sample k of the list, and there are as many.
use mathlib.Core.Path.{◌≡◌, refl, ap, sym, ◌∙◌}
use mathlib.Core.Bool.{Bool, true, false}
use mathlib.Core.List.{List, []}
use Prim.Native.Nat.{ℕ, ◌+◌, ◌*◌, ◌/◌, ◌≤◌, ◌<◌}
use native.Mathlib.Omega.{arith}
use lib.ListN.{length, get_or, take, drop}
use lib.Seq.{get_or-take, get_or-drop}
use lib.Ieee.{Float, nan, binary32}
use Rattle.std.specs.Simd.{first_chunks}
use Rattle.sums.specs.Complex.{mul_c}
use Rattle.sums.specs.Interleaved.{at}
use Rattle.sums.proofs.Tables.{length_table, at_table}
use Rattle.sums.proofs.Numbers.{chunk_parts}
use Rattle.estimate_correlation.specs.Correlation.{prepared}
use Rattle.estimate_correlation.specs.Code.RunningSums.{sample_of}

pub sample_at : (b : Bool) (xs : List Float) (k : ℕ) → 2 * k + 1 < length xs → sample_of b (at xs k) ≡ at (prepared b xs) k
unfolding prepared
sample_at false xs k h = refl
sample_at true xs k h = sym (at_table (length xs / 2) (λ k. mul_c binary32 (at xs k) (at xs k)) k (omega arith))

-- sample k of those from the a-th on, of n chunks of two numbers
pub sample_next : (b : Bool) (xs : List Float) (n a k m : ℕ) {chunks : List (List Float)} → chunks ≡ first_chunks 2 (length xs / 2) xs → k < n → a + n ≤ length xs / 2 → a + k ≡ m
    → sample_of b (get_or (get_or (take n (drop a chunks)) k []) 0 nan, get_or (get_or (take n (drop a chunks)) k []) 1 nan) ≡ at (prepared b xs) m
sample_next b xs n a k m {chunks} e h le em =
    rw (get_or-take n (drop a chunks) k [] h, get_or-drop a chunks k [])
    (ap (sample_of b) (chunk_parts xs (length xs / 2) (a + k) e (omega arith)) ∙ sample_at b xs (a + k) (omega arith) ∙ ap (at (prepared b xs)) em)

pub prepared_count : (b : Bool) (xs : List Float) → length (prepared b xs) / 2 ≡ length xs / 2
unfolding prepared
prepared_count false xs = refl
prepared_count true xs = let l = length_table (length xs / 2) (λ k. mul_c binary32 (at xs k) (at xs k)) in ap (λ (n : ℕ). n / 2) l ∙ half (length xs / 2)
  where
    half : (n : ℕ) → 2 * n / 2 ≡ n
    half n = omega arith
