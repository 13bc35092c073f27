-- A text that is written where there is room for the longest line.
use mathlib.Core.Path.{◌≡◌, refl, ap, ◌∙◌}
use mathlib.Core.Bool.{Bool, true, false, cond}
use mathlib.Core.List.{List, [], ◌++◌, append-nil, append_assoc}
use Prim.Native.Nat.{ℕ, ◌+◌, ◌-◌, ◌≤◌}
use native.Mathlib.Omega.{arith}
use lib.Dec.{leb}
use lib.ListN.{length, take, drop, length-append, length-drop, drop_of_length-le}
use lib.Seq.{take_at, drop_at, take_all, length-take-le}
use borrow.Author.Tests.{le-leb}
use Rattle.pass_writer.specs.Code.Buffers.{longest, laid, written}

-- nothing to write, with room or without
pub nothing_written : (old : List ℕ) → (0, old) ≡ written [] old
unfolding written laid
nothing_written old = go (leb longest (length old))
  where
    go : (b : Bool) → ◌≡◌ {A = ℕ × List ℕ} (0, old) (cond b (0, old) (0, old))
    go true = refl
    go false = refl

-- what is written is within the buffer, with room or without
within_either : (b : Bool) (text rest old : List ℕ) (x : ℕ × List ℕ) → x ≡ cond b (length text, text ++ rest) (0, old) → x.0 ≤ length x.1
within_either true text rest old x e = let n = ap (λ (y : ℕ × List ℕ). y.0) e in let l = ap (λ (y : ℕ × List ℕ). length y.1) e in let a = length-append text rest in omega arith
within_either false text rest old x e = let n = ap (λ (y : ℕ × List ℕ). y.0) e in omega arith

pub written_within : (text old : List ℕ) → (written text old).0 ≤ length (written text old).1
unfolding written laid
written_within text old = within_either (leb longest (length old)) text (drop (length text) old) old _ refl

-- a text written by a call that answered n and left new
module _ (text old : List ℕ) {n : ℕ} {new : List ℕ} (e : (n, new) ≡ written text old) where
  pub within : n ≤ length new
  within = let w = written_within text old in let a = ap (λ (x : ℕ × List ℕ). x.0) e in let b = ap (λ (x : ℕ × List ℕ). length x.1) e in omega arith

  module _ (room : longest ≤ length old) where
    here : ◌≡◌ {A = ℕ × List ℕ} (n, new) (length text, text ++ drop (length text) old)
    unfolding written laid
    here = e ∙ rw (le-leb longest (length old) room)

    pub count_is : n ≡ length text
    count_is = ap (λ (x : ℕ × List ℕ). x.0) here

    pub new_is : new ≡ text ++ drop (length text) old
    new_is = ap (λ (x : ℕ × List ℕ). x.1) here

    pub alone : take n new ≡ text
    alone = ap (λ (x : ℕ × List ℕ). take x.0 x.1) here ∙ take_at text (drop (length text) old) (length text) refl

-- a text that a call wrote to the head of what a buffer has behind the first bytes: it stands behind them
module _ (at : ℕ) (text out : List ℕ) {n : ℕ} {new : List ℕ} (h : at ≤ length out) (e : (n, new) ≡ written text (take (length out - at) (drop at out))) where
  spare : take (length out - at) (drop at out) ≡ drop at out
  spare = take_all (length out - at) (drop at out) (simp length-drop (omega arith))

  module _ (room : longest ≤ length (take (length out - at) (drop at out))) where
    whole : take at out ++ (new ++ drop (length out - at) (drop at out)) ≡ (take at out ++ text) ++ drop (length text) (drop at out)
    whole =
        let none : drop (length out - at) (drop at out) ≡ [] = drop_of_length-le (drop at out) {i = length out - at} (simp length-drop (omega arith)) in
        rw (none, append-nil, new_is text _ e room, spare, append_assoc)

    front : length (take at out ++ text) ≡ at + n
    front = length-append (take at out) text ∙ rw (length-take-le at out h, count_is text _ e room)

    pub behind_others : (take (at + n) (take at out ++ (new ++ drop (length out - at) (drop at out))) ≡ take at out ++ text)
        × (drop (at + n) (take at out ++ (new ++ drop (length out - at) (drop at out))) ≡ drop (length text) (drop at out))
    behind_others = (
      ap (take (at + n)) whole ∙ take_at (take at out ++ text) (drop (length text) (drop at out)) (at + n) front,
      ap (drop (at + n)) whole ∙ drop_at (take at out ++ text) (drop (length text) (drop at out)) (at + n) front,
    )
