-- Cases: words from left to right, each of which sets something, makes calls, or says what is expected. In quotation marks stands what the text says at its
-- head. Definitions only.
use Rattle.std.specs.Prelude.{Bool, true, false, cond, not, ◌&&◌, ◌||◌, List, [], ◌∷◌, ℕ, ◌+◌, eqb, leb, Float, length, get_or, take, drop}
use Prim.Native.Char.{code}
use Rattle.std.specs.Float.Ieee.{eq, lt}
use Rattle.std.specs.List.{fold}
use Rattle.sequences.specs.Folds.{some}
use Rattle.pass_reader.specs.Bytes.{bytes, fields}
use Rattle.channel_script.specs.declared.session.Session.{Session}
use Rattle.channel_script.specs.Code.Letters.{stands_for}
use Rattle.channel_script.specs.Code.Looking.{quantity_of, rounded_for}
use Rattle.channel_script.specs.Code.Setting.{set_by}
use Rattle.channel_script.specs.Code.Playing.{first_session, after_script}
use Rattle.channel_cases.specs.declared.line.Judged.{Judged}
use Rattle.channel_cases.specs.Code.Numbers.{decimal_of, pattern_of}

-- "A value is a name, a decimal number, or x and the pattern of an f64": a name ends with a letter. Where there is nothing, no number is meant.
unfoldable pub value_of : Session → List ℕ → Float
value_of s [] = quantity_of s []
value_of s (b ∷ r) =
    cond (eqb b (code "x")) (pattern_of r) (cond (leb (code "A") (get_or (b ∷ r) (length r) 0)) (quantity_of s (b ∷ r)) (decimal_of (b ∷ r)))

-- "one of = ! < >", as IEEE 754 compares: no number, which a name that stands for nothing has, compares with none.
unfoldable pub compares_by : ℕ → Float → Float → Bool
compares_by sign x y =
    stands_for sign ((code "=", eq x y) ∷ (code "!", lt x y || lt y x) ∷ (code "<", lt x y) ∷ (code ">", lt y x) ∷ []) false

-- The place of a word's sign: after one letter a colon or a comparison, after two a comparison, with something behind the first letter's. 0 in a word that
-- has none, which is a script.
unfoldable pub sign_place : List ℕ → ℕ
sign_place [] = 0
sign_place (a ∷ []) = 0
sign_place (a ∷ b ∷ []) = 0
sign_place (a ∷ b ∷ d ∷ r) = cond (some (eqb b) (bytes ":=!<>")) 1 (cond (some (eqb d) (bytes "=!<>")) 2 0)

-- what a word does: "A letter, a colon and a number sets." "A script makes a call for each letter." What says what is expected does nothing.
unfoldable pub after_word : Session → List ℕ → Session
after_word s w =
    let k = sign_place w in
    cond (eqb k 0) (after_script s w) (cond (eqb (get_or w k 0) (code ":")) (set_by s (get_or w 0 0) (value_of s (drop (k + 1) w))) s)

-- "A name, one of = ! < > and a value is expected": whether a word asks something
unfoldable pub asks : List ℕ → Bool
asks w = let k = sign_place w in not (eqb k 0) && not (eqb (get_or w k 0) (code ":"))

-- whether what is expected with the sign at k holds
unfoldable pub expected_at : Session → List ℕ → ℕ → Bool
expected_at s w k = compares_by (get_or w k 0) (quantity_of s (take k w)) (rounded_for (take k w) (value_of s (drop (k + 1) w)))

-- whether all that a word expects holds
unfoldable pub is_right : Session → List ℕ → Bool
is_right s w = cond (asks w) (expected_at s w (sign_place w)) true

-- a case so far, with one word more
abbrev pub judged : Judged → List ℕ → Judged
judged j w =
    record { session = after_word j.session w; asked = j.asked || asks w; good = j.good && is_right j.session w }

-- "A case begins with a channel opened"
abbrev pub unjudged : Judged
unjudged = record { session = first_session; asked = false; good = true }

-- all holds that is asked; "a case that asks nothing, or has a letter that stands for nothing, does not hold"
abbrev pub verdict : Judged → Bool
verdict j = (j.good && j.asked) && j.session.known

unfoldable pub case_holds : List ℕ → Bool
case_holds line = verdict (fold judged unjudged (fields line))
