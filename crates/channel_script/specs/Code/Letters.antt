-- Tables of letters. Definitions only.
use Rattle.std.specs.Prelude.{cond, List, [], ◌∷◌, ℕ, eqb, Option, Some, None, Result, Ok, Err}
use Prim.Native.Char.{code}
use Prim.Native.String.{String, [] as empty, ◌∷◌ as ◌then◌}
use Rattle.channel_script.specs.declared.letters.NoLetter.{NoLetter}

-- what a letter stands for in a table, and `other` where it is not in it
unfoldable pub stands_for {ℓ} : {A : Type ℓ} → ℕ → List (ℕ × A) → A → A
stands_for b [] other = other
stands_for b (entry ∷ rest) other = cond (eqb b entry.0) entry.1 (stands_for b rest other)

-- the same, and nothing where the letter is not in it
unfoldable pub found : {A : Type 0} → ℕ → List (ℕ × A) → Option A
found b [] = None
found b (entry ∷ rest) = cond (eqb b entry.0) (Some entry.1) (found b rest)

-- the same as it is read, and an error where the letter is not in it
unfoldable pub named : {A : Type 0} → ℕ → List (ℕ × A) → Result A NoLetter
named b [] = Err (record {})
named b (entry ∷ rest) = cond (eqb b entry.0) (Ok entry.1) (named b rest)

-- the letters of a text, as bytes
abbrev pub letters : String → List ℕ
letters empty = []
letters (c then t) = code c ∷ letters t
