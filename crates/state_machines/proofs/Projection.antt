-- A machine seen through a map: f on its states, g on its calls and h on its answers lead to the states, calls and answers of another machine. Then
-- every list of calls does. I says of which states this is known; where it is of all, it is the type with one value. Assumes nothing.
use mathlib.Core.Path.{◌≡◌, refl, ◌∙◌, ap, subst}
use mathlib.Core.List.{List, [], ◌∷◌, map}
use Rattle.state_machines.specs.Runs.{after, answers, Along}
use Rattle.state_machines.specs.Code.Traces.{trace}

module _ {S T C D : Type 0} (next : S → C → S) (next' : T → D → T) (f : S → T) (g : C → D)
    (I : S → Type 0) (keeps : (s : S) (c : C) → I s → I (next s c))
    (leads : (s : S) (c : C) → I s → f (next s c) ≡ next' (f s) (g c)) where
  pub projected_after : (s : S) (cs : List C) → I s → f (after next s cs) ≡ after next' (f s) (map g cs)
  unfolding after
  projected_after s [] i = refl
  projected_after s (c ∷ cs) i = projected_after (next s c) cs (keeps s c i) ∙ ap (λ (t : T). after next' t (map g cs)) (leads s c i)

  pub projected_trace : (s : S) (cs : List C) → I s → map f (trace next s cs) ≡ trace next' (f s) (map g cs)
  unfolding trace
  projected_trace s [] i = refl
  projected_trace s (c ∷ cs) i =
      ap (λ (l : List T). f (next s c) ∷ l) (projected_trace (next s c) cs (keeps s c i))
      ∙ ap (λ (t : T). t ∷ trace next' t (map g cs)) (leads s c i)

  -- what is asked of the calls, carried over
  pub projected_along : (P : S → C → Type 0) (P' : T → D → Type 0) → ((s : S) (c : C) → I s → P s c → P' (f s) (g c))
      → (s : S) (cs : List C) → I s → Along next P s cs → Along next' P' (f s) (map g cs)
  unfolding Along
  projected_along P P' gives s [] i p = tt
  projected_along P P' gives s (c ∷ cs) i p =
      (gives s c i p.0, subst (λ (t : T). Along next' P' t (map g cs)) (leads s c i) (projected_along P P' gives (next s c) cs (keeps s c i) p.1))

  pub projected_answers : {A B : Type 0} (answer : S → C → A) (answer' : T → D → B) (h : A → B) → ((s : S) (c : C) → I s → h (answer s c) ≡ answer' (f s) (g c))
      → (s : S) (cs : List C) → I s → map h (answers next answer s cs) ≡ answers next' answer' (f s) (map g cs)
  unfolding answers
  projected_answers {A} {B} answer answer' h tells s [] i = refl
  projected_answers {A} {B} answer answer' h tells s (c ∷ cs) i =
      ap (λ (l : List B). h (answer s c) ∷ l) (projected_answers answer answer' h tells (next s c) cs (keeps s c i))
      ∙ ap (λ (b : B). b ∷ answers next' answer' (f (next s c)) (map g cs)) (tells s c i)
      ∙ ap (λ (t : T). answer' (f s) (g c) ∷ answers next' answer' t (map g cs)) (leads s c i)
