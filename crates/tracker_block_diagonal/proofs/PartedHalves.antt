-- A list of 36 numbers as four blocks, and as two halves where the other blocks are +0.
use Prim.Native.Nat.{ℕ, ◌+◌}
use mathlib.Core.Path.{◌≡◌, refl, sym, ◌∙◌}
use mathlib.Core.List.{List}
use lib.ListN.{length, get_or}
use lib.Ieee.{Float, nan}
use Rattle.ieee754.specs.Binary64.{zero}
use Rattle.tracker_covariance.proofs.Filling.{listed}
use Rattle.tracker_block_diagonal.specs.declared.half.Half.{Half}
use Rattle.tracker_block_diagonal.proofs.Blocks.{blocks, alike}

-- the block whose first number stands at place i
abbrev block_at : List Float → ℕ → Half
block_at p i =
    record {
      pp = get_or p i nan;
      pf = get_or p (i + 1) nan;
      pc = get_or p (i + 2) nan;
      fp = get_or p (i + 6) nan;
      ff = get_or p (i + 6 + 1) nan;
      fc = get_or p (i + 6 + 2) nan;
      cp = get_or p (i + 12) nan;
      cf = get_or p (i + 12 + 1) nan;
      cc = get_or p (i + 12 + 2) nan;
    }

of_blocks : (p : List Float) → length p ≡ 36 → p ≡ blocks (block_at p 0) (block_at p 3) (block_at p 18) (block_at p 21)
of_blocks p l = listed 36 (λ k. get_or p k nan) p l (λ k m. refl)

-- three numbers from place i on
abbrev None : List Float → ℕ → Type 0
None p i = (get_or p i nan ≡ zero) × (get_or p (i + 1) nan ≡ zero) × (get_or p (i + 2) nan ≡ zero)

nothing : (p : List Float) (i : ℕ) → None p i → None p (i + 6) → None p (i + 12) → block_at p i ≡ alike zero
nothing p i a b c =
    λ j.
    record {
      pp = a.0 j;
      pf = a.1 j;
      pc = a.2 j;
      fp = b.0 j;
      ff = b.1 j;
      fc = b.2 j;
      cp = c.0 j;
      cf = c.1 j;
      cc = c.2 j;
    }

pub parted : (p : List Float) → length p ≡ 36 → None p 3 → None p 9 → None p 15 → None p 18 → None p 24 → None p 30
    → blocks (block_at p 0) (alike zero) (alike zero) (block_at p 21) ≡ p
parted p l a b c d e f = sym (of_blocks p l ∙ (λ j. blocks (block_at p 0) (nothing p 3 a b c j) (nothing p 18 d e f j) (block_at p 21)))
