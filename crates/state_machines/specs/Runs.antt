-- Runs of any machine over lists of calls: next gives the state that a call leads to, answer what it answers. Definitions only.
use Rattle.std.specs.Prelude.{List, [], ◌∷◌}

-- the state after the calls of a list, each made in the state that the last one left
unfoldable pub after : {S C : Type 0} → (S → C → S) → S → List C → S
after next s [] = s
after next s (c ∷ cs) = after next (next s c) cs

-- what the calls of a list answer, place by place
unfoldable pub answers : {S C A : Type 0} → (S → C → S) → (S → C → A) → S → List C → List A
answers next answer s [] = []
answers next answer s (c ∷ cs) = answer s c ∷ answers next answer (next s c) cs

-- P holds of each call of a list, in the state in which it is made
unfoldable pub Along : {S C : Type 0} → (S → C → S) → (S → C → Type 0) → S → List C → Type 0
Along next P s [] = Unit {0}
Along next P s (c ∷ cs) = P s c × Along next P (next s c) cs

-- two lists are of one length, and R holds at each place
pub data Places {A B : Type 0} (R : A → B → Type 0) : List A → List B → Type 0 where
  none : Places R [] []
  place : {a : A} {b : B} {l : List A} {m : List B} → R a b → Places R l m → Places R (a ∷ l) (b ∷ m)
