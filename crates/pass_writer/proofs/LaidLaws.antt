-- Laws of texts at the head of a buffer.
use mathlib.Core.Path.{◌≡◌, refl, ap, sym, ◌∙◌}
use mathlib.Core.Bool.{Bool, true, false, cond}
use mir.Val.{bool_byte}
use mathlib.Core.List.{List, [], ◌∷◌, ◌++◌, append_assoc, append-nil}
use Prim.Native.Nat.{ℕ, suc, ◌+◌, ◌-◌, ◌≤◌, ◌<◌}
use native.Mathlib.Numerals.{add-one}
use native.Mathlib.Omega.{arith}
use lib.ListN.{length, take, drop, set, length-append, length-drop, take-append-drop, drop_of_length-le}
use lib.Seq.{take_at, drop_at, set_at, take_all, drop-drop, drop-cons, drop-append-le, length-take-le}
use borrow.Author.Tests.{le-leb, lt-leb}
use Rattle.std.specs.Array.{IsFirstChunk}
use Rattle.pass_writer.specs.Lines.{line_of}
use Rattle.pass_writer.specs.Code.Buffers.{laid, longest, written, Wrote}

-- a text of k bytes, and the byte after it
pub put_after : (text old : List ℕ) (k b : ℕ) {new : List ℕ} → length text ≡ k → k < length old → new ≡ text → Wrote (text ++ (b ∷ [])) old (k + 1) (set (new ++ drop k old) k b)
unfolding laid
put_after text old k b l h e =
    let n = length-append text (b ∷ []) in
    record { count_is = omega arith; new_is = rw (e, drop-cons old k 0 h, set_at text _ (drop (suc k) old) b k l, n, l, add-one, append_assoc) }

-- a text behind another, in a buffer of so many bytes
pub then_wrote : {n m size : ℕ} {a l e f : List ℕ} (b : List ℕ) → length l ≡ size → n ≤ size → Wrote a l n e → Wrote b (take (size - n) (drop n e)) m f
    → Wrote (a ++ b) l (n + m) (take n e ++ (f ++ drop (size - n) (drop n e)))
unfolding laid
then_wrote {n} {m} {size} {a} {l} {e} {f} b c h x y =
    let k = x.count_is in
    let d : drop n e ≡ drop n l = ap (drop n) x.new_is ∙ drop_at a (drop (length a) l) n (sym k) ∙ ap (λ i. drop i l) (sym k) in
    let t : take n e ≡ a = ap (take n) x.new_is ∙ take_at a (drop (length a) l) n (sym k) in
    let r : length (drop n l) ≡ size - n = simp length-drop (omega arith) in
    let all : take (size - n) (drop n l) ≡ drop n l = take_all (size - n) (drop n l) (omega arith) in
    let none : drop (size - n) (drop n l) ≡ [] = drop_of_length-le (drop n l) {i = size - n} (omega arith) in
    let q = length-append a b in
    let z : n + length b ≡ length (a ++ b) = omega arith in
    let j = y.count_is in
    let g : f ≡ b ++ drop (length (a ++ b)) l = y.new_is ∙ rw (d, all, drop-drop (length b) n l, z) in
    record { count_is = omega arith; new_is = rw (t, d, none, append-nil, g, append_assoc) }

pub room_size : {old room : List ℕ} → IsFirstChunk old room longest → length room ≡ longest
room_size c = ap length c.same ∙ length-take-le longest _ c.enough

-- a line that has been written where there is room, or had no room
pub line_written : {n : ℕ} {text old room new : List ℕ} → IsFirstChunk old room longest → n ≤ longest → Wrote text room n new → (n, new ++ drop longest old) ≡ written text old
unfolding written laid
line_written {n} {text} {old} {room} {new} c h w =
    let k = w.count_is in
    let l = length-take-le longest old c.enough in
    let e : new ++ drop longest old ≡ text ++ drop (length text) old =
    rw (w.new_is, c.same, append_assoc, ← drop-append-le (length text) (take longest old) (drop longest old) (omega arith), take-append-drop longest old) in
    rw (le-leb longest (length old) c.enough, k, e)

pub no_room : (text : List ℕ) {old : List ℕ} → length old < longest → (0, old) ≡ written text old
unfolding written
no_room text {old} h = rw (lt-leb longest (length old) h)

pub wrote_as : {n : ℕ} {a l f : List ℕ} (b : List ℕ) → a ≡ b → Wrote a l n f → Wrote b l n f
wrote_as b e w = rw (← e) w

-- fields with the byte after each, one behind the other, are a line
pub joined_two : (a b : List ℕ) → (a ++ (32 ∷ [])) ++ (b ++ (10 ∷ [])) ≡ line_of a (b ∷ [])
unfolding line_of
joined_two a b = simp append_assoc

pub joined_three : (a b c : List ℕ) → ((a ++ (32 ∷ [])) ++ (b ++ (32 ∷ []))) ++ (c ++ (10 ∷ [])) ≡ line_of a (b ∷ c ∷ [])
unfolding line_of
joined_three a b c = simp append_assoc

pub joined_seven : (a b c d e f g : List ℕ)
    → ((((((a ++ (32 ∷ [])) ++ (b ++ (32 ∷ []))) ++ (c ++ (32 ∷ []))) ++ (d ++ (32 ∷ []))) ++ (e ++ (32 ∷ []))) ++ (f ++ (32 ∷ []))) ++ (g ++ (10 ∷ []))
    ≡ line_of a (b ∷ c ∷ d ∷ e ∷ f ∷ g ∷ [])
unfolding line_of
joined_seven a b c d e f g = simp append_assoc

-- a switch as a number
pub bit_is : (b : Bool) → bool_byte b ≡ cond b 1 0
bit_is true = refl
bit_is false = refl
