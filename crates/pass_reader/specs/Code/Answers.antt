-- What the answers of the code say. Definitions only.
use Rattle.std.specs.Prelude.{Bool, true, false, cond, List, [], ◌∷◌, ◌++◌, ℕ, eqb, length, drop, Float, Option, Some, None, option_and_then}
use denote.Ref.{Bor}
use Rattle.pass_reader.specs.Bytes.{fields}
use Rattle.pass_reader.specs.Numbers.{decimal_of}
use Rattle.pass_reader.specs.declared.values.Values.{Values}

-- the number that a switch is written as
abbrev pub number : Bool → ℕ
number on = cond on 1 0

-- values in the order of their names
abbrev pub values_of : Values → List ℕ
values_of v = v.rate ∷ v.factor ∷ v.modulation ∷ number v.adaptive ∷ number v.dual ∷ number v.bank ∷ v.fade ∷ v.nominal ∷ v.target ∷ []

-- the fields of a text that is left, or none after the last
abbrev pub fields_of : Option (Bor (List ℕ)) → List (List ℕ)
fields_of None = []
fields_of (Some s) = fields s.now

-- the number of the first field, and the fields after it
unfoldable pub next_decimal : List (List ℕ) → Option ℕ × List (List ℕ)
next_decimal [] = (None, [])
next_decimal (f ∷ r) = (decimal_of f, r)

-- what a number says of a switch: 0 or 1
abbrev pub switch : ℕ → Option Bool
switch n = cond (eqb n 0) (Some false) (cond (eqb n 1) (Some true) None)

unfoldable pub next_switch : List (List ℕ) → Option Bool × List (List ℕ)
next_switch l = (option_and_then switch (next_decimal l).0, (next_decimal l).1)

-- What reading the samples of a block says, how many components they have, and the lent buffer after it: the components lie at its front. Where there are none to be
-- read the buffer is as it was.
unfoldable pub samples_into : Option (List Float) → List Float → Option ℕ × List Float
samples_into None old = (None, old)
samples_into (Some l) old = (Some (length l), l ++ drop (length l) old)

-- What reading a block's line says, its flag and the count of its components, and the lent buffer after it: the components lie at its front. A line outside the
-- form leaves the buffer as it was.
unfoldable pub read_into : Option (ℕ × List Float) → List Float → Option (ℕ × ℕ) × List Float
read_into None old = (None, old)
read_into (Some b) old = (Some (b.0, length b.1), b.1 ++ drop (length b.1) old)
