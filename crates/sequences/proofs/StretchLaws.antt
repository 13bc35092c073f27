-- What replacing one stretch of a memory leaves: the memory's length, that stretch, and every other that does not meet it. Assumes nothing.
use mathlib.Core.Path.{◌≡◌, ap, sym, ◌∙◌}
use mathlib.Core.List.{List, ◌++◌}
use mathlib.Core.Logic.{◌⊎◌, inl, inr}
use Prim.Native.Nat.{ℕ, ◌+◌, ◌-◌, ◌<◌, ◌≤◌}
use native.Mathlib.Omega.{arith}
use lib.ListN.{length, get_or, take, drop, length-append, length-drop, get_or-append}
use lib.Seq.{length-take-le, get_or-take, get_or-drop, get_or-append-add, ext_get_or}
use Rattle.sequences.specs.Stretches.{stretch, replaced, within}

module _ {ℓ} {A : Type ℓ} where
  -- element i of a stretch
  pub stretch_at : (a n : ℕ) (w : List A) (i : ℕ) (d : A) → i < n → get_or (stretch a n w) i d ≡ get_or w (a + i) d
  unfolding stretch
  stretch_at a n w i d h = rw (get_or-take n (drop a w) i d h, get_or-drop a w i d)

  pub length_stretch : (a n : ℕ) (w : List A) → a + n ≤ length w → length (stretch a n w) ≡ n
  unfolding stretch
  length_stretch a n w h = let l = length-drop a w in length-take-le n (drop a w) (omega (arith, l))

  module _ (w : List A) (a n : ℕ) (p : List A) (d : A) (fits : a + n ≤ length w) (lp : length p ≡ n) where
    head-length : length (take a w) ≡ a
    head-length = length-take-le a w (omega arith)

    pub length-replaced : length (replaced a n w p) ≡ length w
    unfolding replaced
    length-replaced = simp (length-append, length-drop) (omega (arith, head-length))

    inside : (i : ℕ) → i < n → get_or (replaced a n w p) (a + i) d ≡ get_or p i d
    unfolding replaced
    inside i h =
        let e : a + i ≡ length (take a w) + i = ap (λ (m : ℕ). m + i) (sym head-length) in
        let h' : i < length p = omega arith in
        ap (λ (m : ℕ). get_or (take a w ++ (p ++ drop n (drop a w))) m d) e ∙ get_or-append-add (take a w) (p ++ drop n (drop a w)) i d ∙ get_or-append p (drop n (drop a w)) d i h'

    before : (i : ℕ) → i < a → get_or (replaced a n w p) i d ≡ get_or w i d
    unfolding replaced
    before i h =
        let h' : i < length (take a w) = omega (arith, head-length) in
        get_or-append (take a w) (p ++ drop n (drop a w)) d i h' ∙ get_or-take a w i d h

    after : (i : ℕ) → get_or (replaced a n w p) (a + (n + i)) d ≡ get_or w (a + (n + i)) d
    unfolding replaced
    after i =
        let e : a + (n + i) ≡ length (take a w) + (length p + i) = omega (arith, head-length) in
        ap (λ (m : ℕ). get_or (take a w ++ (p ++ drop n (drop a w))) m d) e
        ∙ get_or-append-add (take a w) (p ++ drop n (drop a w)) (length p + i) d
        ∙ get_or-append-add p (drop n (drop a w)) i d
        ∙ get_or-drop n (drop a w) i d
        ∙ get_or-drop a w (n + i) d

    -- the stretch itself
    pub stretch-replaced : stretch a n (replaced a n w p) ≡ p
    stretch-replaced =
        let l = length_stretch a n (replaced a n w p) (omega (arith, length-replaced)) in
        ext_get_or d (stretch a n (replaced a n w p)) p (l ∙ sym lp) (λ i h.
        let h' : i < n = omega arith in
        stretch_at a n (replaced a n w p) i d h' ∙ inside i h')

    -- a stretch that ends before it, or begins after it
    pub stretch-apart : (b m : ℕ) → b + m ≤ length w → (b + m ≤ a) ⊎ (a + n ≤ b) → stretch b m (replaced a n w p) ≡ stretch b m w
    stretch-apart b m hb side =
        let l = length_stretch b m (replaced a n w p) (omega (arith, length-replaced)) in
        ext_get_or d (stretch b m (replaced a n w p)) (stretch b m w) (l ∙ sym (length_stretch b m w hb)) (λ i h.
        let h' : i < m = omega arith in
        stretch_at b m (replaced a n w p) i d h' ∙ same side i h' ∙ sym (stretch_at b m w i d h'))
      where
        same : (b + m ≤ a) ⊎ (a + n ≤ b) → (i : ℕ) → i < m → get_or (replaced a n w p) (b + i) d ≡ get_or w (b + i) d
        same (inl lo) i h = before (b + i) (omega arith)
        same (inr hi) i h =
            let e : b + i ≡ a + (n + (b + i - (a + n))) = omega arith in
            rw e (after (b + i - (a + n)))

  -- what a call on a lent stretch `&mut w[a..e]` says, said of the whole memory
  pub within_is {ℓ'} : {S : Type ℓ'} (a e n : ℕ) (f : S × List A → S × List A) (s : S) (w : List A) {r : S} {v : List A} → e ≡ a + n
      → (r, v) ≡ f (s, take (e - a) (drop a w)) → (r, take a w ++ (v ++ drop (e - a) (drop a w))) ≡ within a n f (s, w)
  unfolding within replaced stretch
  within_is a e n f s w eq h =
      let k : e - a ≡ n = omega arith in
      let g = rw k at h in rw (← g, k)
