-- Runs of any machine: how states and answers of a list of calls hang together, and what holds in all of them. Assumes nothing.
use Prim.Native.Nat.{ℕ, zero, suc, ◌<◌, ◌≤◌}
use native.Mathlib.Omega.{arith}
use mathlib.Core.Path.{◌≡◌, refl, ap}
use mathlib.Core.List.{List, [], ◌∷◌, ◌++◌}
use lib.ListN.{length, get_or, take}
use Rattle.state_machines.specs.Runs.{after, answers, Along}
use Rattle.state_machines.specs.Code.Traces.{trace, Each}

-- ---- two lists of calls, one after the other
module _ {S C : Type 0} (next : S → C → S) where
  pub after_append : (s : S) (cs ds : List C) → after next s (cs ++ ds) ≡ after next (after next s cs) ds
  unfolding after
  after_append s [] ds = refl
  after_append s (c ∷ cs) ds = after_append (next s c) cs ds

  pub trace_append : (s : S) (cs ds : List C) → trace next s (cs ++ ds) ≡ trace next s cs ++ trace next (after next s cs) ds
  unfolding after trace
  trace_append s [] ds = refl
  trace_append s (c ∷ cs) ds = ap (λ (l : List S). next s c ∷ l) (trace_append (next s c) cs ds)

  pub answers_append : {A : Type 0} (answer : S → C → A) (s : S) (cs ds : List C)
      → answers next answer s (cs ++ ds) ≡ answers next answer s cs ++ answers next answer (after next s cs) ds
  unfolding after answers
  answers_append answer s [] ds = refl
  answers_append {A} answer s (c ∷ cs) ds = ap (λ (l : List A). answer s c ∷ l) (answers_append answer (next s c) cs ds)

  -- what holds along both, and what holds along each
  pub along_append : (P : S → C → Type 0) (s : S) (cs ds : List C) → Along next P s cs → Along next P (after next s cs) ds → Along next P s (cs ++ ds)
  unfolding after Along
  along_append P s [] ds p q = q
  along_append P s (c ∷ cs) ds p q = (p.0, along_append P (next s c) cs ds p.1 q)

  pub along_first : (P : S → C → Type 0) (s : S) (cs ds : List C) → Along next P s (cs ++ ds) → Along next P s cs
  unfolding Along
  along_first P s [] ds p = tt
  along_first P s (c ∷ cs) ds p = (p.0, along_first P (next s c) cs ds p.1)

  pub along_second : (P : S → C → Type 0) (s : S) (cs ds : List C) → Along next P s (cs ++ ds) → Along next P (after next s cs) ds
  unfolding after Along
  along_second P s [] ds p = p
  along_second P s (c ∷ cs) ds p = along_second P (next s c) cs ds p.1

  -- ---- a state and an answer for each call

  -- the states are what a machine answers that answers the state to which a call leads
  pub trace_answers : (s : S) (cs : List C) → trace next s cs ≡ answers next next s cs
  unfolding trace answers
  trace_answers s [] = refl
  trace_answers s (c ∷ cs) = ap (λ (l : List S). next s c ∷ l) (trace_answers (next s c) cs)

  pub answers_length : {A : Type 0} (answer : S → C → A) (s : S) (cs : List C) → length (answers next answer s cs) ≡ length cs
  unfolding answers
  answers_length answer s [] = refl
  answers_length answer s (c ∷ cs) = ap suc (answers_length answer (next s c) cs)

  pub trace_length : (s : S) (cs : List C) → length (trace next s cs) ≡ length cs
  unfolding trace
  trace_length s [] = refl
  trace_length s (c ∷ cs) = ap suc (trace_length (next s c) cs)

  -- the states from the first on, at place k: that after k calls
  pub state_at : (d s : S) (cs : List C) (k : ℕ) → k ≤ length cs → get_or (s ∷ trace next s cs) k d ≡ after next s (take k cs)
  unfolding trace after
  state_at d s cs zero h = refl
  state_at d s [] (suc k) h = absurd (omega arith)
  state_at d s (c ∷ cs) (suc k) h = state_at d (next s c) cs k (omega arith)

  -- the answer at place k: to the call there, in the state after the k calls before it
  pub answer_at : {A : Type 0} (answer : S → C → A) (d : A) (e : C) (s : S) (cs : List C) (k : ℕ) → k < length cs
      → get_or (answers next answer s cs) k d ≡ answer (after next s (take k cs)) (get_or cs k e)
  unfolding answers after
  answer_at answer d e s [] k h = absurd (omega arith)
  answer_at answer d e s (c ∷ cs) zero h = refl
  answer_at answer d e s (c ∷ cs) (suc k) h = answer_at answer d e (next s c) cs k (omega arith)

  -- ---- what holds in every state, and at every call

  -- what each call keeps of which P holds
  module _ (I : S → Type 0) (P : S → C → Type 0) (keeps : (s : S) (c : C) → I s → P s c → I (next s c)) where
    pub kept-after : (s : S) (cs : List C) → I s → Along next P s cs → I (after next s cs)
    unfolding after Along
    kept-after s [] h p = h
    kept-after s (c ∷ cs) h p = kept-after (next s c) cs (keeps s c h p.0) p.1

    pub kept-trace : (s : S) (cs : List C) → I s → Along next P s cs → Each I (trace next s cs)
    unfolding trace Each Along
    kept-trace s [] h p = tt
    kept-trace s (c ∷ cs) h p = let i = keeps s c h p.0 in (i, kept-trace (next s c) cs i p.1)

    pub kept-along : (Q : S → C → Type 0) → ((s : S) (c : C) → I s → P s c → Q s c) → (s : S) (cs : List C) → I s → Along next P s cs → Along next Q s cs
    unfolding Along
    kept-along Q gives s [] h p = tt
    kept-along Q gives s (c ∷ cs) h p = (gives s c h p.0, kept-along Q gives (next s c) cs (keeps s c h p.0) p.1)

  -- what each call keeps, whatever it is
  module _ (I : S → Type 0) (keeps : (s : S) (c : C) → I s → I (next s c)) where
    pub invariant : (s : S) (cs : List C) → I s → I (after next s cs)
    unfolding after
    invariant s [] h = h
    invariant s (c ∷ cs) h = invariant (next s c) cs (keeps s c h)

    pub invariant-trace : (s : S) (cs : List C) → I s → Each I (trace next s cs)
    unfolding trace Each
    invariant-trace s [] h = tt
    invariant-trace s (c ∷ cs) h = let i = keeps s c h in (i, invariant-trace (next s c) cs i)

    pub invariant-along : (Q : S → C → Type 0) → ((s : S) (c : C) → I s → Q s c) → (s : S) (cs : List C) → I s → Along next Q s cs
    unfolding Along
    invariant-along Q gives s [] h = tt
    invariant-along Q gives s (c ∷ cs) h = (gives s c h, invariant-along Q gives (next s c) cs (keeps s c h))
