-- Two machines in lockstep: a relation that each pair of calls keeps makes their answers agree, to the end or up to a place. Assumes nothing.
use mathlib.Core.List.{List}
use Rattle.state_machines.specs.Runs.{after, answers, Along, Places, none, place}
use Rattle.state_machines.specs.Code.Traces.{Until, end, before, stop}

-- what holds at each place, weakened
pub places_map : {A B : Type 0} {R Q : A → B → Type 0} {l : List A} {m : List B} → ((a : A) (b : B) → R a b → Q a b) → Places R l m → Places Q l m
places_map f none = none
places_map f (place {a = a} {b = b} r p) = place (f a b r) (places_map f p)

-- what holds up to a place and there, weakened
pub until_map : {A B : Type 0} {R R' Q Q' : A → B → Type 0} {l : List A} {m : List B} → ((a : A) (b : B) → R a b → R' a b) → ((a : A) (b : B) → Q a b → Q' a b)
    → Until R Q l m → Until R' Q' l m
until_map f g end = end
until_map f g (before {a = a} {b = b} r u) = before (f a b r) (until_map f g u)
until_map f g (stop {a = a} {b = b} q) = stop (g a b q)

-- where there is no such place
pub never_stops : {A B : Type 0} {R Q : A → B → Type 0} {l : List A} {m : List B} → ((a : A) (b : B) → Q a b → ⊥) → Until R Q l m → Places R l m
never_stops f end = none
never_stops f (before r u) = place r (never_stops f u)
never_stops f (stop {a = a} {b = b} q) = absurd (f a b q)

-- One step of two machines in lockstep: the states stay related and the answers agree.
pub record Agree {S T C D A B : Type 0} (next : S → C → S) (next' : T → D → T) (answer : S → C → A) (answer' : T → D → B)
    (R : S → T → Type 0) (Q : A → B → Type 0) (s : S) (t : T) (c : C) (d : D) : Type 0 where
  pub related : R (next s c) (next' t d)
  pub agreed : Q (answer s c) (answer' t d)

-- Two machines, which may be one: R relates their states, E their calls, Q their answers; P and P' say what each may be called with.
module _ {S T C D A B : Type 0} (next : S → C → S) (next' : T → D → T) (answer : S → C → A) (answer' : T → D → B)
    (R : S → T → Type 0) (E : C → D → Type 0) (P : S → C → Type 0) (P' : T → D → Type 0) (Q : A → B → Type 0)
    (step : (s : S) (t : T) (c : C) (d : D) → R s t → E c d → P s c → P' t d → Agree next next' answer answer' R Q s t c d) where
  pub lockstep : {cs : List C} {ds : List D} (s : S) (t : T) → R s t → Places E cs ds → Along next P s cs → Along next' P' t ds
      → Places Q (answers next answer s cs) (answers next' answer' t ds)
  unfolding answers Along
  lockstep s t r none p q = none
  lockstep s t r (place {a = c} {b = d} e es) p q =
      let now = step s t c d r e p.0 q.0 in
      place now.agreed (lockstep (next s c) (next' t d) now.related es p.1 q.1)

  -- the relation itself holds at the end
  pub ends : {cs : List C} {ds : List D} (s : S) (t : T) → R s t → Places E cs ds → Along next P s cs → Along next' P' t ds
      → R (after next s cs) (after next' t ds)
  unfolding after Along
  ends s t r none p q = r
  ends s t r (place {a = c} {b = d} e es) p q = ends (next s c) (next' t d) (step s t c d r e p.0 q.0).related es p.1 q.1

-- One step of two machines that may part: they agree and go on, or this is the place at which Z holds of their answers.
pub data AgreeOrPart {S T C D A B : Type 0} (next : S → C → S) (next' : T → D → T) (answer : S → C → A) (answer' : T → D → B)
    (R : S → T → Type 0) (Q Z : A → B → Type 0) (s : S) (t : T) (c : C) (d : D) : Type 0 where
  agree : Agree next next' answer answer' R Q s t c d → AgreeOrPart next next' answer answer' R Q Z s t c d
  part : Z (answer s c) (answer' t d) → AgreeOrPart next next' answer answer' R Q Z s t c d

module _ {S T C D A B : Type 0} (next : S → C → S) (next' : T → D → T) (answer : S → C → A) (answer' : T → D → B)
    (R : S → T → Type 0) (E : C → D → Type 0) (P : S → C → Type 0) (P' : T → D → Type 0) (Q Z : A → B → Type 0)
    (step : (s : S) (t : T) (c : C) (d : D) → R s t → E c d → P s c → P' t d → AgreeOrPart next next' answer answer' R Q Z s t c d) where
  pub lockstep_until : {cs : List C} {ds : List D} (s : S) (t : T) → R s t → Places E cs ds → Along next P s cs → Along next' P' t ds
      → Until Q Z (answers next answer s cs) (answers next' answer' t ds)
  unfolding answers Along
  lockstep_until s t r none p q = end
  lockstep_until s t r (place {a = c} {b = d} e es) p q =
      elim (step s t c d r e p.0 q.0) [
        | agree now ↦ before now.agreed (lockstep_until (next s c) (next' t d) now.related es p.1 q.1)
        | part z ↦ stop z
      ]
