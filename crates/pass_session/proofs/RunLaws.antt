-- Laws of the loop over the lines of a chunk.
use mathlib.Core.Path.{◌≡◌, refl, ap, sym, ◌∙◌}
use mathlib.Core.Bool.{Bool, true, false}
use mathlib.Core.List.{List, [], ◌∷◌, ◌++◌}
use Prim.Native.Nat.{ℕ, ◌+◌, ◌-◌, ◌≤◌, ◌<◌}
use native.Mathlib.Omega.{arith}
use lib.ListN.{length, take, drop, length-append, length-drop}
use lib.Seq.{length-take-le, drop-drop}
use lib.Ieee.{Float}
use lib.Dec.{leb}
use borrow.Author.Tests.{le-leb}
use Rattle.pass_writer.specs.Code.Buffers.{longest}
use Rattle.pass_writer.proofs.WrittenLaws.{within, behind_others}
use Rattle.pass_setup.specs.declared.pass.Judged.{Judged}
use Rattle.pass_setup.specs.declared.pass.Ran.{Ran}
use Rattle.pass_reader.proofs.ByteLaws.{tail_is}
use Rattle.pass_stream.specs.Stream.{lines}
use Rattle.pass_stream.specs.Code.Carrying.{line_length}
use Rattle.pass_stream.proofs.StreamLaws.{first_line, no_line, line_here, no_line_here, line_within}
use Rattle.pass_setup.specs.Judging.{Judgement, judged}
use Rattle.pass_setup.specs.Code.Buffers.{Printed, printed, printed_with, as_printed, ChunkRun, past, line_run, run_has_room, only_if, lines_run, as_chunk_run}

-- the end of a run: no line is left, or no room
pub run_out : (ls : List (List ℕ)) (g : ChunkRun) → ls ≡ [] → g ≡ lines_run ls g
unfolding lines_run
run_out [] g e = refl
run_out (l ∷ ls) g e = absurd (let z = ap length e in omega arith)

pub run_full : (ls : List (List ℕ)) (g : ChunkRun) → run_has_room g ≡ false → g ≡ lines_run ls g
unfolding lines_run only_if
run_full [] g e = refl
run_full (l ∷ ls) g e = ap (λ (b : Bool). only_if b (lines_run ls (line_run g l)) g) (sym e)

run_line : (l : List ℕ) (ls : List (List ℕ)) (g : ChunkRun) → run_has_room g ≡ true → lines_run ls (line_run g l) ≡ lines_run (l ∷ ls) g
unfolding lines_run only_if
run_line l ls g e = ap (λ (b : Bool). only_if b (lines_run ls (line_run g l)) g) (sym e)

-- one turn: a line is there, and room
pub run_ends : (s : List ℕ) (g : ChunkRun) → line_length (take (length s - g.used) (drop g.used s)) ≡ 0 → g ≡ lines_run (lines (drop g.used s)) g
run_ends s g z = run_out (lines (drop g.used s)) g (no_line (drop g.used s) (no_line_here (drop g.used s) (ap line_length (sym (tail_is s g.used)) ∙ z)))

module _ (s : List ℕ) (used n : ℕ) (e : n ≡ line_length (take (length s - used) (drop used s))) where
  length_is : n ≡ line_length (drop used s)
  length_is = e ∙ ap line_length (tail_is s used)

  pub line_fits : used ≤ length s → used + n ≤ length s
  line_fits h =
      let a = line_within (drop used s) in
      let b = length_is in
      let c : length (drop used s) ≡ length s - used = simp length-drop refl in
      omega arith

  pub first_is : 0 < n → lines (drop used s) ≡ take n (drop used s) ∷ lines (drop n (drop used s))
  first_is z = let f = first_line (drop used s) (line_here (drop used s) (λ q. let l = length_is in omega arith)) in rw (← length_is) at f

-- what a buffer has behind its first bytes, as a call is lent it, and the buffer with what the call left there
abbrev pub spare : ℕ → List ℕ → List ℕ
spare at out = take (length out - at) (drop at out)

abbrev pub given_back : ℕ → List ℕ → List ℕ → List ℕ
given_back at out new = take at out ++ (new ++ drop (length out - at) (drop at out))

pub has_room_is : (r : Ran) (w : List Float) (out : List ℕ) (b : Bool) → leb longest (length (spare r.at out)) ≡ b → run_has_room (as_chunk_run r w out) ≡ b
unfolding run_has_room as_chunk_run
has_room_is r w out b e = ap (λ (l : List ℕ). leb longest (length l)) (sym (tail_is out r.at)) ∙ e

pub given_back_length : (at : ℕ) (out new : List ℕ) → at ≤ length out → length new ≡ length (spare at out) → length (given_back at out new) ≡ length out
given_back_length at out new h e =
    let a = length-append (take at out) (new ++ drop (length out - at) (drop at out)) in
    let b = length-append new (drop (length out - at) (drop at out)) in
    let t = length-take-le at out h in
    let l = length-take-le (length out - at) (drop at out) (simp length-drop (omega arith)) in
    let d : length (drop (length out - at) (drop at out)) ≡ 0 = simp length-drop (omega arith) in
    omega arith

-- what is within the part that a call was lent is within the buffer
pub fits_behind : (at n : ℕ) (out new : List ℕ) → at ≤ length out → length new ≡ length (spare at out) → n ≤ length new → at + n ≤ length out
fits_behind at n out new h l k = let b = length-take-le (length out - at) (drop at out) (simp length-drop (omega arith)) in omega arith

pub added_fits : (j : Judged) (new : List ℕ) {w' : List Float} (q : Judgement × List Float) (at : ℕ) (out : List ℕ) → at ≤ length out → length new ≡ length (spare at out)
    → (as_printed j new, w') ≡ printed_with q (spare at out) → at + j.added ≤ length out
unfolding as_printed printed printed_with
added_fits j new q at out h l e = fits_behind at j.added out new h l (within q.0.text (spare at out) (ap (λ (x : Printed × List Float). (x.0.added, x.0.out)) e))

-- one line more
module _ (s : List ℕ) (r : Ran) (w : List Float) (out : List ℕ) (n : ℕ) (e : n ≡ line_length (take (length s - r.used) (drop r.used s))) where
  module _ (j : Judged) (w' : List Float) (new : List ℕ) (fits : r.at ≤ length out) (room : longest ≤ length (spare r.at out)) where
    line_judged : (as_printed j new, w') ≡ printed_with (judged r.pass.stage r.pass w (take (r.used + n - r.used) (drop r.used s))) (spare r.at out)
        → as_chunk_run (record { pass = j.pass; used = r.used + n; at = r.at + j.added }) w' (given_back r.at out new) ≡ line_run (as_chunk_run r w out) (take n (drop r.used s))
    unfolding line_run past as_chunk_run as_printed printed printed_with
    line_judged ex =
        let m : r.used + n - r.used ≡ n = omega arith in
        let l : length (take n (drop r.used s)) ≡ n = length-take-le n (drop r.used s) (rw (length_is s r.used n e) (line_within (drop r.used s))) in
        let q = judged r.pass.stage r.pass w (take n (drop r.used s)) in
        let y = rw m at ex in
        let b = behind_others r.at q.0.text out fits (λ i. ((y i).0.added, (y i).0.out)) room in
        λ i. record { pass = (y i).0.pass; windows = (y i).1; used = r.used + sym l i; list = b.0 i; behind = b.1 i }

    pub run_goes_on : 0 < n → (as_printed j new, w') ≡ printed_with (judged r.pass.stage r.pass w (take (r.used + n - r.used) (drop r.used s))) (spare r.at out)
        → lines_run (lines (drop (r.used + n) s)) (as_chunk_run (record { pass = j.pass; used = r.used + n; at = r.at + j.added }) w' (given_back r.at out new))
        ≡ lines_run (lines (drop r.used s)) (as_chunk_run r w out)
    unfolding as_chunk_run
    run_goes_on z ex =
        let d : drop n (drop r.used s) ≡ drop (r.used + n) s = drop-drop n r.used s in
        let h : run_has_room (as_chunk_run r w out) ≡ true = has_room_is r w out true (le-leb longest (length (spare r.at out)) room) in
        (λ i. lines_run (lines (sym d i)) (line_judged ex i))
        ∙ run_line (take n (drop r.used s)) (lines (drop n (drop r.used s))) (as_chunk_run r w out) h
        ∙ ap (λ (ls : List (List ℕ)). lines_run ls (as_chunk_run r w out)) (sym (first_is s r.used n e z))
