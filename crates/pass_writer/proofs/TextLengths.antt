-- No line of the list is longer than `longest`.
use mathlib.Core.Bool.{Bool, true, false, cond}
use mathlib.Core.List.{List, [], ◌∷◌, ◌++◌}
use Prim.Native.Nat.{ℕ, zero, suc, ◌+◌, ◌/◌, ◌%◌, ◌≤◌}
use native.Mathlib.Omega.{arith}
use lib.Dec.{ltb}
use lib.ListN.{length, length-append}
use Rattle.pass_reader.specs.Bytes.{bytes}
use Rattle.pass_writer.specs.declared.lines.Shown.{Shown}
use Rattle.pass_writer.specs.Digits.{glyph_of, decimal_from, decimal_text, float_text}
use Rattle.pass_writer.specs.Lines.{line_of, block_text, refusal_text, failure_text}
use Rattle.pass_writer.specs.Code.Buffers.{longest}
use Rattle.pass_writer.proofs.DigitLaws.{length_float}

short_decimal : (k n : ℕ) → length (decimal_from k n) ≤ k
unfolding decimal_from
short_decimal zero n = omega arith
short_decimal (suc k) n = go (ltb n 10) (short_decimal k (n / 10))
  where
    go : (b : Bool) → length (decimal_from k (n / 10)) ≤ k → length (cond b (glyph_of n ∷ []) (decimal_from k (n / 10) ++ (glyph_of (n % 10) ∷ []))) ≤ suc k
    go true h = omega arith
    go false h = let e = length-append (decimal_from k (n / 10)) (glyph_of (n % 10) ∷ []) in omega arith

pub short_number : (n : ℕ) → length (decimal_text n) ≤ 20
unfolding decimal_text
short_number n = short_decimal 20 n

-- a line's first field and the byte after it
line_last : (f : List ℕ) → length (line_of f []) ≤ length f + 1
unfolding line_of
line_last f = let e = length-append f (10 ∷ []) in omega arith

line_more : (f g : List ℕ) (r : List (List ℕ)) → length (line_of f (g ∷ r)) ≤ length f + 1 + length (line_of g r)
unfolding line_of
line_more f g r = let e = length-append f (32 ∷ line_of g r) in omega arith

pub short_refusal : (line number : ℕ) → length (refusal_text line number) ≤ longest
unfolding refusal_text
short_refusal line number =
    let a = short_number line in
    let b = short_number number in
    let x = line_more (bytes "refused") (decimal_text line) (decimal_text number ∷ []) in
    let y = line_more (decimal_text line) (decimal_text number) [] in
    let z = line_last (decimal_text number) in
    omega arith

pub short_failure : (error : ℕ) → length (failure_text error) ≤ longest
unfolding failure_text
short_failure error =
    let a = short_number error in
    let x = line_more (bytes "failed") (decimal_text error) [] in
    let y = line_last (decimal_text error) in
    omega arith

pub short_block : (count : ℕ) (a : Shown) → length (block_text count a) ≤ longest
unfolding block_text
short_block count a =
    let l = decimal_text (cond a.locked 1 0) in
    let t = decimal_text a.tracker in
    let f = decimal_text a.fade in
    let p = float_text a.phase in
    let q = float_text a.frequency in
    let s = float_text a.snr in
    let h1 = short_number count in
    let h2 = short_number (cond a.locked 1 0) in
    let h3 = short_number a.tracker in
    let h4 = short_number a.fade in
    let h5 = length_float a.phase in
    let h6 = length_float a.frequency in
    let h7 = length_float a.snr in
    let x1 = line_more (decimal_text count) l (t ∷ f ∷ p ∷ q ∷ s ∷ []) in
    let x2 = line_more l t (f ∷ p ∷ q ∷ s ∷ []) in
    let x3 = line_more t f (p ∷ q ∷ s ∷ []) in
    let x4 = line_more f p (q ∷ s ∷ []) in
    let x5 = line_more p q (s ∷ []) in
    let x6 = line_more q s [] in
    let x7 = line_last s in
    omega arith
