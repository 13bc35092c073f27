-- Where the stretches are equal, what is done on one of them and copied to the others is what is done on each. Assumes nothing.
use mathlib.Core.Path.{◌≡◌, ap, sym, ◌∙◌}
use mathlib.Core.List.{List, ◌++◌, append_assoc}
use mathlib.Core.Logic.{inl, inr}
use Prim.Native.Nat.{ℕ, ◌+◌}
use native.Mathlib.Omega.{arith}
use lib.ListN.{length, take, drop, length-append, length-drop}
use lib.Seq.{length-take-le, drop-drop, paste}
use lib.Ieee.{Float, nan}
use Rattle.sequences.specs.Stretches.{stretch, replaced, within}
use Rattle.sequences.proofs.StretchLaws.{stretch-replaced, stretch-apart}
use Rattle.tracker.specs.declared.state.Tracked.{Tracked}
use Rattle.tracker_model.specs.Following.{TrackerWindow}
use Rattle.bank_equal_trackers.specs.Code.Alike.{Level, thrice}

-- a stretch copied to another place
pub pasted : (a b : ℕ) (w : List Float) {v : List Float} → v ≡ paste w b (drop a w) 2048 → v ≡ replaced b 2048 w (stretch a 2048 w)
unfolding replaced stretch
pasted a b w e =
    e
    ∙ append_assoc (take b w) (take 2048 (drop a w)) (drop (b + 2048) w)
    ∙ ap (λ (l : List Float). take b w ++ (take 2048 (drop a w) ++ l)) (sym (drop-drop 2048 b w))

-- what stands in a stretch of a memory of 8,192 numbers has 2,048
part_length : (w p : List Float) → length w ≡ 8192 → length (replaced 2048 2048 w p) ≡ 8192 → length p ≡ 2048
unfolding replaced
part_length w p l h =
    let a = length-append (take 2048 w) (p ++ drop 2048 (drop 2048 w)) in
    let b = length-append p (drop 2048 (drop 2048 w)) in
    let t = length-take-le 2048 w (omega arith) in
    let d = length-drop 2048 w in
    let e = length-drop 2048 (drop 2048 w) in omega (arith, a, b, t, d, e)

-- what is done on another stretch that equals it
again : (a : ℕ) (f : TrackerWindow → TrackerWindow) (h : Tracked) (s v : List Float) → stretch a 2048 v ≡ s → ((f (h, s)).0, replaced a 2048 v (f (h, s)).1) ≡ within a 2048 f (h, v)
unfolding within
again a f h s v e = ap (λ (z : List Float). ((f (h, z)).0, replaced a 2048 v (f (h, z)).1)) (sym e)

-- done on stretch 1 of w, with r and w1, and copied to stretch 2, with w2, and to stretch 3, with w3
module _ (f : TrackerWindow → TrackerWindow) (h : Tracked) (w : List Float) {r : Tracked} {w1 w2 w3 : List Float} (l : length w ≡ 8192) (l1 : length w1 ≡ 8192) (level : Level w)
    (done : (r, w1) ≡ within 2048 2048 f (h, w)) (e2 : w2 ≡ replaced 4096 2048 w1 (stretch 2048 2048 w1)) (e3 : w3 ≡ replaced 6144 2048 w2 (stretch 2048 2048 w2)) where
  abbrev part : List Float
  part = stretch 2048 2048 w

  abbrev p : List Float
  p = (f (h, part)).1

  done_0 : r ≡ (f (h, part)).0
  unfolding within
  done_0 = ap (λ (z : TrackerWindow). z.0) done

  done_1 : w1 ≡ replaced 2048 2048 w p
  unfolding within
  done_1 = ap (λ (z : TrackerWindow). z.1) done

  lp : length p ≡ 2048
  lp = part_length w p l (ap length (sym done_1) ∙ l1)

  copied_1 : stretch 2048 2048 w1 ≡ p
  copied_1 = ap (stretch 2048 2048) done_1 ∙ stretch-replaced w 2048 2048 p nan (omega arith) lp

  ahead_2 : stretch 4096 2048 w1 ≡ part
  ahead_2 = ap (stretch 4096 2048) done_1 ∙ stretch-apart w 2048 2048 p nan (omega arith) lp 4096 2048 (omega arith) (inr (omega arith)) ∙ level.s2

  ahead_3 : stretch 6144 2048 w1 ≡ part
  ahead_3 = ap (stretch 6144 2048) done_1 ∙ stretch-apart w 2048 2048 p nan (omega arith) lp 6144 2048 (omega arith) (inr (omega arith)) ∙ level.s3

  put_2 : w2 ≡ replaced 4096 2048 w1 p
  put_2 = e2 ∙ ap (replaced 4096 2048 w1) copied_1

  put_3 : w3 ≡ replaced 6144 2048 w2 p
  put_3 =
      e3
      ∙ ap (replaced 6144 2048 w2)
      (ap (stretch 2048 2048) put_2 ∙ stretch-apart w1 4096 2048 p nan (omega arith) lp 2048 2048 (omega arith) (inl (omega arith)) ∙ copied_1)

  last_3 : stretch 6144 2048 w2 ≡ part
  last_3 = ap (stretch 6144 2048) put_2 ∙ stretch-apart w1 4096 2048 p nan (omega arith) lp 6144 2048 (omega arith) (inr (omega arith)) ∙ ahead_3

  on_2 : (r, w2) ≡ within 4096 2048 f (h, w1)
  on_2 = ap (λ (z : Tracked). (z, w2)) done_0 ∙ ap (λ (z : List Float). ((f (h, part)).0, z)) put_2 ∙ again 4096 f h part w1 ahead_2

  on_3 : (r, w3) ≡ within 6144 2048 f (h, w2)
  on_3 = ap (λ (z : Tracked). (z, w3)) done_0 ∙ ap (λ (z : List Float). ((f (h, part)).0, z)) put_3 ∙ again 6144 f h part w2 last_3

  pub one_for_three : (r, r, r, w3) ≡ thrice f (h, w)
  unfolding thrice
  one_for_three =
      let h0 = within 2048 2048 f (h, w) in
      let h1 = within 4096 2048 f (h, h0.1) in
      let g1 : (r, w2) ≡ h1 = on_2 ∙ ap (λ (z : TrackerWindow). within 4096 2048 f (h, z.1)) done in
      let g2 : (r, w3) ≡ within 6144 2048 f (h, h1.1) = on_3 ∙ ap (λ (z : TrackerWindow). within 6144 2048 f (h, z.1)) g1 in
      ap (λ (z : TrackerWindow). (z.0, r, r, w3)) done ∙ ap (λ (z : TrackerWindow). (h0.0, z.0, r, w3)) g1 ∙ ap (λ (z : TrackerWindow). (h0.0, h1.0, z.0, z.1)) g2
