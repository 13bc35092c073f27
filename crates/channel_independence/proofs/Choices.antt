-- What holds of both values of a choice holds of the choice. Assumes nothing.
use mathlib.Core.Bool.{Bool, true, false, cond}

pub either : {A : Type 0} (P : A → Type 0) (x : Bool) {a b : A} → P a → P b → P (cond x a b)
either P true p q = p
either P false p q = q

-- of two choices by the same test
pub both : {A B : Type 0} (R : A → B → Type 0) (x : Bool) {a b : A} {c d : B} → R a c → R b d → R (cond x a b) (cond x c d)
both R true p q = p
both R false p q = q
