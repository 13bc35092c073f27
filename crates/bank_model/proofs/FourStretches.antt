-- The window memory of 8,192 numbers by its four stretches of 2,048: they settle it, and what is put into the last three stays there. Assumes nothing.
use Prim.Native.Nat.{ℕ, ◌+◌, ◌-◌, ◌*◌, ◌≤◌, ◌<◌}
use mathlib.Core.Path.{◌≡◌, sym, ap, ◌∙◌}
use mathlib.Core.List.{List}
use mathlib.Core.Logic.{◌⊎◌, inl, inr}
use native.Mathlib.Omega.{arith}
use native.Mathlib.Decide.{dec_lt}
use lib.ListN.{length, get_or}
use lib.Seq.{ext_get_or}
use lib.Ieee.{Float, nan}
use Rattle.sequences.specs.Stretches.{stretch, replaced}
use Rattle.sequences.proofs.StretchLaws.{stretch_at, length_stretch, length-replaced, stretch-replaced, stretch-apart}

-- stretch i, and the memory with p there
abbrev pub part : ℕ → List Float → List Float
part i w = stretch (2048 * i) 2048 w

abbrev pub put : ℕ → List Float → List Float → List Float
put i w p = replaced (2048 * i) 2048 w p

-- equal stretches make equal memories
module _ (v w : List Float) (lv : length v ≡ 8192) (lw : length w ≡ 8192) where
  within_part : (a : ℕ) → stretch a 2048 v ≡ stretch a 2048 w → (i : ℕ) → a ≤ i → i < a + 2048 → get_or v i nan ≡ get_or w i nan
  within_part a s i lo hi =
      let e : i ≡ a + (i - a) = omega arith in
      let l : i - a < 2048 = omega arith in
      ap (λ (m : ℕ). get_or v m nan) e
      ∙ sym (stretch_at a 2048 v (i - a) nan l)
      ∙ ap (λ (z : List Float). get_or z (i - a) nan) s
      ∙ stretch_at a 2048 w (i - a) nan l
      ∙ ap (λ (m : ℕ). get_or w m nan) (sym e)

  pub same_parts : part 0 v ≡ part 0 w → part 1 v ≡ part 1 w → part 2 v ≡ part 2 w → part 3 v ≡ part 3 w → v ≡ w
  same_parts s0 s1 s2 s3 = ext_get_or nan v w (lv ∙ sym lw) (λ i h. below-2 i (omega arith) (dec_lt i 4096))
    where
      below-1 : (i : ℕ) → i < 4096 → Dec (i < 2048) → get_or v i nan ≡ get_or w i nan
      below-1 i h (yes l) = within_part 0 s0 i (omega arith) (omega arith)
      below-1 i h (no l) = within_part 2048 s1 i (omega arith) (omega arith)

      below-3 : (i : ℕ) → 4096 ≤ i → i < 8192 → Dec (i < 6144) → get_or v i nan ≡ get_or w i nan
      below-3 i g h (yes l) = within_part 4096 s2 i (omega arith) (omega arith)
      below-3 i g h (no l) = within_part 6144 s3 i (omega arith) (omega arith)

      below-2 : (i : ℕ) → i < 8192 → Dec (i < 4096) → get_or v i nan ≡ get_or w i nan
      below-2 i h (yes l) = below-1 i l (dec_lt i 2048)
      below-2 i h (no l) = below-3 i (omega arith) h (dec_lt i 6144)

pub length_part : (w : List Float) → length w ≡ 8192 → (i : ℕ) → i < 4 → length (part i w) ≡ 2048
length_part w lw i i4 = length_stretch (2048 * i) 2048 w (omega arith)

-- one stretch put in
module _ (w : List Float) (lw : length w ≡ 8192) (i : ℕ) (i4 : i < 4) (p : List Float) (lp : length p ≡ 2048) where
  fits : 2048 * i + 2048 ≤ length w
  fits = omega arith

  pub length_put : length (put i w p) ≡ 8192
  length_put = length-replaced w (2048 * i) 2048 p nan fits lp ∙ lw

  pub part_put : part i (put i w p) ≡ p
  part_put = stretch-replaced w (2048 * i) 2048 p nan fits lp

  pub part_other : (j : ℕ) → j < 4 → (j < i) ⊎ (i < j) → part j (put i w p) ≡ part j w
  part_other j j4 side = stretch-apart w (2048 * i) 2048 p nan fits lp (2048 * j) 2048 (omega arith) (apart side)
    where
      apart : (j < i) ⊎ (i < j) → (2048 * j + 2048 ≤ 2048 * i) ⊎ (2048 * i + 2048 ≤ 2048 * j)
      apart (inl l) = inl (omega arith)
      apart (inr l) = inr (omega arith)

-- the last three put in
abbrev pub laid : List Float → List Float → List Float → List Float → List Float
laid w p q r = put 3 (put 2 (put 1 w p) q) r

module _ (w : List Float) (lw : length w ≡ 8192) (p q r : List Float) (lp : length p ≡ 2048) (lq : length q ≡ 2048) (lr : length r ≡ 2048) where
  abbrev w1 : List Float
  w1 = put 1 w p

  abbrev w2 : List Float
  w2 = put 2 w1 q

  l1 : length w1 ≡ 8192
  l1 = length_put w lw 1 (omega arith) p lp

  l2 : length w2 ≡ 8192
  l2 = length_put w1 l1 2 (omega arith) q lq

  pub length_laid : length (laid w p q r) ≡ 8192
  length_laid = length_put w2 l2 3 (omega arith) r lr

  pub part_0 : part 0 (laid w p q r) ≡ part 0 w
  part_0 =
      part_other w2 l2 3 (omega arith) r lr 0 (omega arith) (inl (omega arith))
      ∙ part_other w1 l1 2 (omega arith) q lq 0 (omega arith) (inl (omega arith))
      ∙ part_other w lw 1 (omega arith) p lp 0 (omega arith) (inl (omega arith))

  pub part_1 : part 1 (laid w p q r) ≡ p
  part_1 =
      part_other w2 l2 3 (omega arith) r lr 1 (omega arith) (inl (omega arith))
      ∙ part_other w1 l1 2 (omega arith) q lq 1 (omega arith) (inl (omega arith))
      ∙ part_put w lw 1 (omega arith) p lp

  pub part_2 : part 2 (laid w p q r) ≡ q
  part_2 = part_other w2 l2 3 (omega arith) r lr 2 (omega arith) (inl (omega arith)) ∙ part_put w1 l1 2 (omega arith) q lq

  pub part_3 : part 3 (laid w p q r) ≡ r
  part_3 = part_put w2 l2 3 (omega arith) r lr

  -- a stretch not yet put in
  pub ahead_2 : part 2 w1 ≡ part 2 w
  ahead_2 = part_other w lw 1 (omega arith) p lp 2 (omega arith) (inr (omega arith))

  pub ahead_3 : part 3 w2 ≡ part 3 w
  ahead_3 =
      part_other w1 l1 2 (omega arith) q lq 3 (omega arith) (inr (omega arith))
      ∙ part_other w lw 1 (omega arith) p lp 3 (omega arith) (inr (omega arith))

-- what is put in later counts
module _ (w : List Float) (lw : length w ≡ 8192) (p q r : List Float) (lp : length p ≡ 2048) (lq : length q ≡ 2048) (lr : length r ≡ 2048) where
  pub laid_again : (p' q' r' : List Float) → length p' ≡ 2048 → length q' ≡ 2048 → length r' ≡ 2048 → laid (laid w p q r) p' q' r' ≡ laid w p' q' r'
  laid_again p' q' r' lp' lq' lr' =
      let v = laid w p q r in
      let lv : length v ≡ 8192 = length_laid w lw p q r lp lq lr in
      same_parts (laid v p' q' r') (laid w p' q' r') (length_laid v lv p' q' r' lp' lq' lr') (length_laid w lw p' q' r' lp' lq' lr')
      (part_0 v lv p' q' r' lp' lq' lr' ∙ part_0 w lw p q r lp lq lr ∙ sym (part_0 w lw p' q' r' lp' lq' lr'))
      (part_1 v lv p' q' r' lp' lq' lr' ∙ sym (part_1 w lw p' q' r' lp' lq' lr'))
      (part_2 v lv p' q' r' lp' lq' lr' ∙ sym (part_2 w lw p' q' r' lp' lq' lr'))
      (part_3 v lv p' q' r' lp' lq' lr' ∙ sym (part_3 w lw p' q' r' lp' lq' lr'))

-- what is there already changes nothing
pub laid_same : (w : List Float) → length w ≡ 8192 → laid w (part 1 w) (part 2 w) (part 3 w) ≡ w
laid_same w lw =
    let l1 = length_part w lw 1 (omega arith) in
    let l2 = length_part w lw 2 (omega arith) in
    let l3 = length_part w lw 3 (omega arith) in
    same_parts (laid w (part 1 w) (part 2 w) (part 3 w)) w (length_laid w lw (part 1 w) (part 2 w) (part 3 w) l1 l2 l3) lw
    (part_0 w lw (part 1 w) (part 2 w) (part 3 w) l1 l2 l3)
    (part_1 w lw (part 1 w) (part 2 w) (part 3 w) l1 l2 l3)
    (part_2 w lw (part 1 w) (part 2 w) (part 3 w) l1 l2 l3)
    (part_3 w lw (part 1 w) (part 2 w) (part 3 w) l1 l2 l3)
