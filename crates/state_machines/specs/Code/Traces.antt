-- More of runs, for claims to come: the states that a list of calls leads through, and two lists that agree up to a place. Definitions only.
use Rattle.std.specs.Prelude.{List, [], ◌∷◌}

-- the state after each call of a list, place by place
unfoldable pub trace : {S C : Type 0} → (S → C → S) → S → List C → List S
trace next s [] = []
trace next s (c ∷ cs) = next s c ∷ trace next (next s c) cs

-- P holds at each place of a list
unfoldable pub Each : {A : Type 0} → (A → Type 0) → List A → Type 0
Each P [] = Unit {0}
Each P (a ∷ l) = P a × Each P l

-- R holds at each place of two lists before a first one, at which Q holds, and nothing is said of what comes after it. Where there is no such place,
-- the lists are of one length, and R holds at each place.
pub data Until {A B : Type 0} (R Q : A → B → Type 0) : List A → List B → Type 0 where
  end : Until R Q [] []
  before : {a : A} {b : B} {l : List A} {m : List B} → R a b → Until R Q l m → Until R Q (a ∷ l) (b ∷ m)
  stop : {a : A} {b : B} {l : List A} {m : List B} → Q a b → Until R Q (a ∷ l) (b ∷ m)
