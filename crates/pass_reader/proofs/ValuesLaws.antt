-- Laws of the line of values: its fields one after the other, and what nine numbers say.
use Rattle.std.specs.Prelude.{Option, Some, None, is_some, option_map, option_and_then}
use mathlib.Core.Path.{◌≡◌, refl, ap, sym, ◌∙◌}
use mathlib.Core.Bool.{Bool, true, false, cond, ◌&&◌}
use mathlib.Core.List.{List, [], ◌∷◌}
use Prim.Native.Nat.{ℕ, zero, suc, ◌+◌, ◌<◌}
use native.Mathlib.Numerals.{add-one}
use native.Mathlib.Omega.{arith}
use denote.Ref.{Bor}
use lib.Dec.{leb}
use lib.ListN.{length, take, drop}
use borrow.Author.Tests.{ne_eqb, lt-leb}
use Rattle.pass_reader.specs.Bytes.{fields, space}
use Rattle.pass_reader.specs.Numbers.{decimal_of}
use Rattle.pass_reader.specs.Lines.{decimals, nine_values}
use Rattle.pass_reader.specs.Code.Places.{place}
use Rattle.pass_reader.specs.declared.values.Values.{Values}
use Rattle.pass_reader.specs.Code.Answers.{number, values_of, fields_of, next_decimal, switch, next_switch}
use Rattle.pass_reader.proofs.ByteLaws.{fields_last, fields_more, some_field}

-- a number in front of others, if all are there
abbrev pub ahead : Option ℕ → Option (List ℕ) → Option (List ℕ)
ahead o p = option_and_then (λ n. option_map (λ l. n ∷ l) p) o

-- what numbers say
pub none_say : {o : Option (List ℕ)} → o ≡ None → None ≡ option_and_then nine_values o
none_say e = rw e

pub unequal : (v : List ℕ) → (length v ≡ 9 → ⊥) → None ≡ nine_values v
unfolding nine_values
unequal v n = rw (ne_eqb _ _ n)

-- the first field and those after it, or the one that is left
module _ (s : List ℕ) where
  pub first_alone : place space s ≡ length s → (decimal_of s, []) ≡ next_decimal (fields s)
  unfolding next_decimal
  first_alone h = rw (fields_last s h)

  pub first_of_more : {n : ℕ} → n < length s → n ≡ place space s → (decimal_of (take n s), fields (drop (n + 1) s)) ≡ next_decimal (fields s)
  unfolding next_decimal
  first_of_more {n} h e = rw (fields_more s (omega arith), e, add-one)

-- FIELDS TAKEN ONE AFTER THE OTHER: a list says of each whether it is a switch.

abbrev kind : Bool → ℕ → Option ℕ
kind true n = cond (leb n 1) (Some n) None
kind false n = Some n

pub taken : List Bool → List (List ℕ) → Option (List ℕ)
taken [] [] = Some []
taken [] (f ∷ r) = None
taken (b ∷ k) [] = None
taken (b ∷ k) (f ∷ r) = ahead (option_and_then (kind b) (decimal_of f)) (taken k r)

fits : List Bool → List ℕ → Bool
fits [] [] = true
fits [] (n ∷ v) = false
fits (b ∷ k) [] = false
fits (b ∷ k) (n ∷ v) = cond b (leb n 1) true && fits k v

fitting : List Bool → List ℕ → Option (List ℕ)
fitting k v = cond (fits k v) (Some v) None

taken_is : (k : List Bool) (f : List (List ℕ)) → taken k f ≡ option_and_then (fitting k) (decimals f)
unfolding taken fits fitting decimals
taken_is [] [] = refl
taken_is [] (f ∷ r) = go (decimal_of f) (decimals r)
  where
    go : (o : Option ℕ) (p : Option (List ℕ)) → None ≡ option_and_then (fitting []) (ahead o p)
    go None p = refl
    go (Some n) None = refl
    go (Some n) (Some v) = refl
taken_is (b ∷ k) [] = refl
taken_is (b ∷ k) (f ∷ r) = ap (ahead (option_and_then (kind b) (decimal_of f))) (taken_is k r) ∙ go b (decimal_of f) (decimals r)
  where
    one : (n : ℕ) (v : List ℕ) (s t : Bool) → ahead (cond s (Some n) None) (cond t (Some v) None) ≡ cond (s && t) (Some (n ∷ v)) None
    one n v true true = refl
    one n v true false = refl
    one n v false t = refl

    nothing : (n : ℕ) (s : Bool) → ahead (cond s (Some n) None) None ≡ None
    nothing n true = refl
    nothing n false = refl

    go : (b : Bool) (o : Option ℕ) (p : Option (List ℕ)) → ahead (option_and_then (kind b) o) (option_and_then (fitting k) p) ≡ option_and_then (fitting (b ∷ k)) (ahead o p)
    go b None p = refl
    go true (Some n) None = nothing n (leb n 1)
    go false (Some n) None = refl
    go true (Some n) (Some v) = one n v (leb n 1) (fits k v)
    go false (Some n) (Some v) = one n v true (fits k v)

-- the nine values: three of them are switches
abbrev pub kinds : List Bool
kinds = false ∷ false ∷ false ∷ true ∷ true ∷ true ∷ false ∷ false ∷ false ∷ []

short : (s t u : Bool) (v : List ℕ) → cond (s && (t && (u && false))) (Some v) None ≡ None
short true true true v = refl
short true true false v = refl
short true false u v = refl
short false t u v = refl

fitting_nine : (v : List ℕ) → fitting kinds v ≡ nine_values v
unfolding fits fitting nine_values
fitting_nine [] = refl
fitting_nine (a ∷ []) = refl
fitting_nine (a ∷ b ∷ []) = refl
fitting_nine (a ∷ b ∷ c ∷ []) = refl
fitting_nine (a ∷ b ∷ c ∷ d ∷ []) = go (leb d 1)
  where
    go : (s : Bool) → cond (s && false) (Some (a ∷ b ∷ c ∷ d ∷ [])) None ≡ None
    go true = refl
    go false = refl
fitting_nine (a ∷ b ∷ c ∷ d ∷ e ∷ []) = go (leb d 1) (leb e 1)
  where
    go : (s t : Bool) → cond (s && (t && false)) (Some (a ∷ b ∷ c ∷ d ∷ e ∷ [])) None ≡ None
    go true true = refl
    go true false = refl
    go false t = refl
fitting_nine (a ∷ b ∷ c ∷ d ∷ e ∷ f ∷ []) = short (leb d 1) (leb e 1) (leb f 1) (a ∷ b ∷ c ∷ d ∷ e ∷ f ∷ [])
fitting_nine (a ∷ b ∷ c ∷ d ∷ e ∷ f ∷ g ∷ []) = short (leb d 1) (leb e 1) (leb f 1) (a ∷ b ∷ c ∷ d ∷ e ∷ f ∷ g ∷ [])
fitting_nine (a ∷ b ∷ c ∷ d ∷ e ∷ f ∷ g ∷ h ∷ []) = short (leb d 1) (leb e 1) (leb f 1) (a ∷ b ∷ c ∷ d ∷ e ∷ f ∷ g ∷ h ∷ [])
fitting_nine (a ∷ b ∷ c ∷ d ∷ e ∷ f ∷ g ∷ h ∷ i ∷ []) = go (leb d 1) (leb e 1) (leb f 1)
  where
    v : List ℕ
    v = a ∷ b ∷ c ∷ d ∷ e ∷ f ∷ g ∷ h ∷ i ∷ []

    go : (s t u : Bool) → cond (s && (t && (u && true))) (Some v) None ≡ cond (s && t && u) (Some v) None
    go true true true = refl
    go true true false = refl
    go true false u = refl
    go false t u = refl
fitting_nine (a ∷ b ∷ c ∷ d ∷ e ∷ f ∷ g ∷ h ∷ i ∷ j ∷ m) =
    short (leb d 1) (leb e 1) (leb f 1) (a ∷ b ∷ c ∷ d ∷ e ∷ f ∷ g ∷ h ∷ i ∷ j ∷ m) ∙ unequal (a ∷ b ∷ c ∷ d ∷ e ∷ f ∷ g ∷ h ∷ i ∷ j ∷ m) (λ q. omega arith)

pub nine_taken : (s : List ℕ) {o : Option (List ℕ)} → taken kinds (fields s) ≡ o → o ≡ option_and_then nine_values (decimals (fields s))
nine_taken s h = sym h ∙ taken_is kinds (fields s) ∙ go (decimals (fields s))
  where
    go : (o : Option (List ℕ)) → option_and_then (fitting kinds) o ≡ option_and_then nine_values o
    go None = refl
    go (Some v) = fitting_nine v

-- where a field is missing, nothing is read
pub nine_missing : (s : List ℕ) {r : Option Values} → r ≡ None → taken kinds (fields s) ≡ None → option_map values_of r ≡ option_and_then nine_values (decimals (fields s))
nine_missing s e h = ap (option_map values_of) e ∙ nine_taken s h

-- one field more
missing_next : (b : Bool) (k : List Bool) (f : List (List ℕ)) → option_and_then (kind b) (next_decimal f).0 ≡ None → taken (b ∷ k) f ≡ None
unfolding taken next_decimal
missing_next b k [] h = refl
missing_next b k (x ∷ r) h = rw h

taken_next : (b : Bool) (k : List Bool) (f : List (List ℕ)) (n : ℕ) → option_and_then (kind b) (next_decimal f).0 ≡ Some n → taken (b ∷ k) f ≡ ahead (Some n) (taken k (next_decimal f).1)
unfolding taken next_decimal
taken_next b k [] n h = absurd (let z : ◌≡◌ {A = ℕ} 0 1 = cc in omega arith)
taken_next b k (x ∷ r) n h = rw h

some_kind : (o : Option ℕ) → option_and_then (kind false) o ≡ o
some_kind None = refl
some_kind (Some n) = refl

-- a switch is 0 or 1
switched : (o : Option ℕ) (b : Bool) → option_and_then switch o ≡ Some b → option_and_then (kind true) o ≡ Some (number b)
switched None b h = absurd (let z : ◌≡◌ {A = ℕ} 0 1 = cc in omega arith)
switched (Some zero) true h = absurd (let z : ◌≡◌ {A = ℕ} 0 1 = cc in omega arith)
switched (Some zero) false h = refl
switched (Some (suc zero)) true h = refl
switched (Some (suc zero)) false h = absurd (let z : ◌≡◌ {A = ℕ} 0 1 = cc in omega arith)
switched (Some (suc (suc n))) b h =
    let a = ne_eqb (suc (suc n)) 0 (λ q. omega arith) in
    let c = ne_eqb (suc (suc n)) 1 (λ q. omega arith) in
    absurd (let k = rw (a, c) at h in let z : ◌≡◌ {A = ℕ} 0 1 = cc in omega arith)

unswitched : (o : Option ℕ) → option_and_then switch o ≡ None → option_and_then (kind true) o ≡ None
unswitched None h = refl
unswitched (Some zero) h = absurd (let z : ◌≡◌ {A = ℕ} 0 1 = cc in omega arith)
unswitched (Some (suc zero)) h = absurd (let z : ◌≡◌ {A = ℕ} 0 1 = cc in omega arith)
unswitched (Some (suc (suc n))) h = rw (lt-leb (suc (suc n)) 1 (omega arith))

module _ (k : List Bool) (f : List (List ℕ)) where
  decimal_then : (g : List (List ℕ)) (o : Option ℕ) (n : ℕ) (r : Option (List ℕ)) → (o, g) ≡ next_decimal f → o ≡ Some n → taken k g ≡ r → taken (false ∷ k) f ≡ ahead (Some n) r
  decimal_then g o n r e h more =
      taken_next false k f n (some_kind _ ∙ sym (ap (λ p. p.0) e) ∙ h) ∙ ap (λ r. ahead (Some n) (taken k r)) (sym (ap (λ p. p.1) e)) ∙ ap (ahead (Some n)) more

  switch_then : (g : List (List ℕ)) (o : Option Bool) (b : Bool) (r : Option (List ℕ)) → (o, g) ≡ next_switch f → o ≡ Some b → taken k g ≡ r → taken (true ∷ k) f ≡ ahead (Some (number b)) r
  unfolding next_switch
  switch_then g o b r e h more =
      taken_next true k f (number b) (switched (next_decimal f).0 b (sym (ap (λ p. p.0) e) ∙ h)) ∙ ap (λ r. ahead (Some (number b)) (taken k r)) (sym (ap (λ p. p.1) e))
      ∙ ap (ahead (Some (number b))) more

  module _ {g : List (List ℕ)} {o : Option ℕ} where
    -- a field that is missing
    pub decimal_missing : (o, g) ≡ next_decimal f → o ≡ None → taken (false ∷ k) f ≡ None
    decimal_missing e h = missing_next false k f (some_kind _ ∙ sym (ap (λ p. p.0) e) ∙ h)

    -- one that is there, in front of fields of which one is missing, or of which all are there
    pub decimal_past : {n : ℕ} → (o, g) ≡ next_decimal f → o ≡ Some n → taken k g ≡ None → taken (false ∷ k) f ≡ None
    decimal_past {n} e h more = decimal_then g o n None e h more

    pub decimal_taken : {n : ℕ} {v : List ℕ} → (o, g) ≡ next_decimal f → o ≡ Some n → taken k g ≡ Some v → taken (false ∷ k) f ≡ Some (n ∷ v)
    decimal_taken {n} {v} e h more = decimal_then g o n (Some v) e h more

  -- the same of a switch
  module _ {g : List (List ℕ)} {o : Option Bool} where
    pub switch_missing : (o, g) ≡ next_switch f → o ≡ None → taken (true ∷ k) f ≡ None
    unfolding next_switch
    switch_missing e h = missing_next true k f (unswitched (next_decimal f).0 (sym (ap (λ p. p.0) e) ∙ h))

    pub switch_past : {b : Bool} → (o, g) ≡ next_switch f → o ≡ Some b → taken k g ≡ None → taken (true ∷ k) f ≡ None
    switch_past {b} e h more = switch_then g o b None e h more

    pub switch_taken : {b : Bool} {v : List ℕ} → (o, g) ≡ next_switch f → o ≡ Some b → taken k g ≡ Some v → taken (true ∷ k) f ≡ Some (number b ∷ v)
    switch_taken {b} {v} e h more = switch_then g o b (Some v) e h more

-- no field is left, or another
pub all_taken : (o : Option (Bor (List ℕ))) → is_some o ≡ false → taken [] (fields_of o) ≡ Some []
unfolding taken
all_taken None h = refl
all_taken (Some s) h = absurd (let z : ◌≡◌ {A = ℕ} 0 1 = cc in omega arith)

pub too_many : (o : Option (Bor (List ℕ))) → is_some o ≡ true → taken [] (fields_of o) ≡ None
unfolding taken
too_many None h = absurd (let z : ◌≡◌ {A = ℕ} 0 1 = cc in omega arith)
too_many (Some s) h = rw (some_field s.now)
