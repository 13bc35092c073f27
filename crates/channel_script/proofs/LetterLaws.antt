-- Tables of letters: what is found in them, where a letter is not in one, and tables one after the other. Assumes nothing.
use Rattle.std.proofs.Common.{rules, tests, ◌≡◌, refl, ap, Bool, true, false, ◌||◌, cond, eqb, ℕ, List, [], ◌∷◌, ◌++◌, map, Option, Some, None}
use borrow.Author.Tests.{ne_eqb}
use Rattle.std.specs.Option.{option_or, option_map}
use Rattle.std.specs.List.{list_any, find}
use Rattle.sequences.specs.Folds.{some}
use Rattle.channel_script.specs.Code.Letters.{stands_for, found}

-- whether some element passes, as the library says it, and what it finds in a table
pub some_is : {A : Type 0} (p : A → Bool) (xs : List A) → list_any p xs ≡ some p xs
unfolding some
some_is p [] = refl
some_is p (x ∷ xs) = ap (λ m. p x || m) (some_is p xs)

-- whether a letter is one of a list, as the library says it
same_or_not : (a b : ℕ) → eqb a b ≡ eqb b a
same_or_not a b = search (rules, tests)

pub contains_is : (b : ℕ) (xs : List ℕ) → list_any (λ x. eqb x b) xs ≡ some (eqb b) xs
unfolding some
contains_is b [] = refl
contains_is b (x ∷ xs) = rw (same_or_not x b) (ap (λ m. eqb b x || m) (contains_is b xs))

pub found_is : {A : Type 0} (b : ℕ) (t : List (ℕ × A)) → option_map (λ (e : ℕ × A). e.1) (find (λ e. eqb b e.0) t) ≡ found b t
unfolding found
found_is {A} b [] = refl
found_is {A} b (e ∷ r) = go (eqb b e.0) (found_is b r)
  where
    go : (m : Bool) → option_map (λ (e : ℕ × A). e.1) (find (λ e. eqb b e.0) r) ≡ found b r → option_map (λ (e : ℕ × A). e.1) (cond m (Some e) (find (λ e. eqb b e.0) r)) ≡ cond m (Some e.1) (found b r)
    go true h = refl
    go false h = h

-- what is found in two tables
pub found_both : {A : Type 0} (b : ℕ) (t u : List (ℕ × A)) → found b (t ++ u) ≡ option_or (found b t) (found b u)
unfolding found
found_both b [] u = refl
found_both b (e ∷ t) u = rw (found_both b t u) (go (eqb b e.0))
  where
    go : (m : Bool) → cond m (Some e.1) (option_or (found b t) (found b u)) ≡ option_or (cond m (Some e.1) (found b t)) (found b u)
    go true = refl
    go false = refl

pub or_assoc : {A : Type 0} (x y z : Option A) → option_or (option_or x y) z ≡ option_or x (option_or y z)
or_assoc None y z = refl
or_assoc (Some a) y z = refl

-- ---- of `stands_for`

-- a letter is none of a table's, as the last arm of a `match` says it
abbrev pub NoneOf : {A : Type 0} → Type 0 → ℕ → List (ℕ × A) → Type 0
NoneOf U b [] = U
NoneOf U b (e ∷ r) = NoneOf (U × (b ≡ e.0 → ⊥)) b r

first_of : {A : Type 0} (U : Type 0) (b : ℕ) (t : List (ℕ × A)) → NoneOf U b t → U
first_of U b [] h = h
first_of U b (e ∷ r) h = (first_of (U × (b ≡ e.0 → ⊥)) b r h).0

not_first : {A : Type 0} (U : Type 0) (b : ℕ) (e : ℕ × A) (r : List (ℕ × A)) → NoneOf U b (e ∷ r) → b ≡ e.0 → ⊥
not_first U b e r h = (first_of (U × (b ≡ e.0 → ⊥)) b r h).1

pub stands_for_none : {A : Type 0} (U : Type 0) (b : ℕ) (t : List (ℕ × A)) (other : A) → NoneOf U b t → stands_for b t other ≡ other
unfolding stands_for
stands_for_none U b [] other h = refl
stands_for_none U b (e ∷ r) other h = rw (ne_eqb b e.0 (not_first U b e r h)) (stands_for_none (U × (b ≡ e.0 → ⊥)) b r other h)

-- two tables, one after the other
pub stands_for_both : {A : Type 0} (b : ℕ) (t u : List (ℕ × A)) (other : A) → stands_for b (t ++ u) other ≡ stands_for b t (stands_for b u other)
unfolding stands_for
stands_for_both b [] u other = refl
stands_for_both b (e ∷ t) u other = ap (λ x. cond (eqb b e.0) e.1 x) (stands_for_both b t u other)

-- what f makes of a table's entries: a letter that is in the table stands for f of what it stands for there
pub stands_for_mapped : {A B : Type 0} (b : ℕ) (f : A → B) (t : List (ℕ × A)) (d : A) (other : B)
    → stands_for b (map (λ (e : ℕ × A). (e.0, f e.1)) t) other ≡ cond (some (eqb b) (map (λ (e : ℕ × A). e.0) t)) (f (stands_for b t d)) other
unfolding stands_for some
stands_for_mapped b f [] d other = refl
stands_for_mapped b f (e ∷ r) d other = rw (stands_for_mapped b f r d other) (go (eqb b e.0))
  where
    go : (t : Bool)
        → cond t (f e.1) (cond (some (eqb b) (map (λ (x : ℕ × _). x.0) r)) (f (stands_for b r d)) other)
        ≡ cond (t || some (eqb b) (map (λ (x : ℕ × _). x.0) r)) (f (cond t e.1 (stands_for b r d))) other
    go true = refl
    go false = refl
