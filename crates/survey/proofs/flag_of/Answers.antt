-- `flag_of`: at the end each mark is what the whole list has, and the flag goes by them.
use mathlib.Core.Path.{◌≡◌, refl, sym, ap, ◌∙◌}
use mathlib.Core.Bool.{Bool, cond, ◌||◌}
use mathlib.Core.List.{List, []}
use Prim.Native.Nat.{ℕ, ◌+◌, ◌*◌, ◌/◌, ◌≤◌, ◌<◌}
use native.Mathlib.Omega.{arith}
use borrow.Author.Tests.{eqb-true, eqb-false}
use lib.ListN.{length, get_or, drop}
use lib.Ieee.{Float, nan, is_nan}
use Rattle.sequences.specs.Pairs.{pairs}
use Rattle.sequences.specs.Folds.{some}
use Rattle.sequences.proofs.PairLaws.{pairs_next, pairs_none, some_pairs_next, some_pairs_end}
use Rattle.sums.specs.Interleaved.{at}
use Rattle.sums.proofs.Numbers.{chunk_parts}
use Rattle.survey.specs.Survey.{not_a_number, clipped, signal, survey_of}
use Rattle.survey.proofs.flag_of.Invariants.{Left}
use Rattle.survey.proofs.flag_of.Goals as goal

-- ---- a turn

left_next : (p : Float × Float → Bool) (xs : List Float) (m : Bool) (k : ℕ) {m' : Bool} → k < length xs / 2 → m' ≡ (m || p (at xs k)) → Left p xs m k → Left p xs m' (k + 1)
left_next p xs m k {m'} h e l =
    let two : 2 * (k + 1) ≡ 2 * k + 2 = omega arith in
    ap (λ (n : ℕ). m' || some p (pairs (drop n xs))) two ∙ some_pairs_next xs (2 * k) p nan m (omega arith) e ∙ l

-- ---- the end

no_pair : (xs : List Float) → length xs < 2 → 4 ≡ survey_of (pairs xs)
unfolding survey_of
no_pair xs h = rw (pairs_none xs h) refl

some_pair : (xs : List Float) → 2 ≤ length xs → cond (some not_a_number (pairs xs)) 2 (cond (some clipped (pairs xs)) 3 (cond (some signal (pairs xs)) 1 0)) ≡ survey_of (pairs xs)
unfolding survey_of
some_pair xs h = rw (pairs_next xs 0 nan (omega arith)) refl

module _ (xs : List Float) (k : ℕ) (end : length xs / 2 ≤ k) where
  mark : (p : Float × Float → Bool) (m : Bool) → Left p xs m k → some p (pairs xs) ≡ m
  mark p m l = sym l ∙ some_pairs_end xs (2 * k) p m (omega arith)

  by_marks : (n c s : Bool) → 1 ≤ length xs / 2 → Left not_a_number xs n k → Left clipped xs c k → Left signal xs s k
      → cond n 2 (cond c 3 (cond s 1 0)) ≡ survey_of (pairs xs)
  by_marks n c s h ln lc ls = rw (← mark not_a_number n ln, ← mark clipped c lc, ← mark signal s ls) (some_pair xs (omega arith))

pub loop-re-preserved : goal.loop-re-preserved
unfolding not_a_number clipped signal
loop-re-preserved c =
    let l = c.loop-re in
    let xs = c.args.samples.now in
    let k = l.re-index in
    let h : k < length xs / 2 = omega arith in
    let chunk = get_or c.as_chunks.result.0.now k [] in
    let pair = chunk_parts xs (length xs / 2) k c.as_chunks.ensures.front h in
    let n : Bool = l.not_a_number in (
      left_next not_a_number xs n k h
          (ap (λ (b : Bool). n || (b || c.is_nan-in-loop-re.result)) c.is_nan.ensures.value
          ∙ ap (λ (b : Bool). n || (is_nan (get_or chunk 0 nan) || b)) c.is_nan-in-loop-re.ensures.value
          ∙ ap (λ (s : Float × Float). n || not_a_number s) pair)
          l.invariant.0,
      left_next clipped xs l.clipped k h (ap (λ (s : Float × Float). l.clipped || clipped s) pair) l.invariant.1,
      left_next signal xs l.signal k h (ap (λ (s : Float × Float). l.signal || signal s) pair) l.invariant.2,
    )

pub returns-then-is_empty : goal.returns-then-is_empty
returns-then-is_empty c = no_pair _ (omega (arith, eqb-true _ _ (sym c.is_empty.ensures ∙ c.if-is_empty.true)))

pub returns-then-not_a_number : goal.returns-then-not_a_number
returns-then-not_a_number c =
    let l = c.loop-re in
    let some = eqb-false _ _ (sym c.is_empty.ensures ∙ c.if-is_empty.false) in
    let flag = by_marks c.args.samples.now l.re-index (omega arith) l.not_a_number l.clipped l.signal (omega (arith, some)) l.invariant.0 l.invariant.1 l.invariant.2 in
    rw c.if-not_a_number.true at flag

pub returns-then-clipped : goal.returns-then-clipped
returns-then-clipped c =
    let l = c.loop-re in
    let some = eqb-false _ _ (sym c.is_empty.ensures ∙ c.if-is_empty.false) in
    let flag = by_marks c.args.samples.now l.re-index (omega arith) l.not_a_number l.clipped l.signal (omega (arith, some)) l.invariant.0 l.invariant.1 l.invariant.2 in
    rw (c.if-not_a_number.false, c.if-clipped.true) at flag

pub returns-then-signal : goal.returns-then-signal
returns-then-signal c =
    let l = c.loop-re in
    let some = eqb-false _ _ (sym c.is_empty.ensures ∙ c.if-is_empty.false) in
    let flag = by_marks c.args.samples.now l.re-index (omega arith) l.not_a_number l.clipped l.signal (omega (arith, some)) l.invariant.0 l.invariant.1 l.invariant.2 in
    rw (c.if-not_a_number.false, c.if-clipped.false, c.if-signal.true) at flag

pub returns-else-signal : goal.returns-else-signal
returns-else-signal c =
    let l = c.loop-re in
    let some = eqb-false _ _ (sym c.is_empty.ensures ∙ c.if-is_empty.false) in
    let flag = by_marks c.args.samples.now l.re-index (omega arith) l.not_a_number l.clipped l.signal (omega (arith, some)) l.invariant.0 l.invariant.1 l.invariant.2 in
    rw (c.if-not_a_number.false, c.if-clipped.false, c.if-signal.false) at flag
