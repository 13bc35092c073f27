-- What `array::from_fn` makes, where each call gives what f has at its number and leaves the closure as it is, is what f has at n places. Assumes nothing.
use Prim.Native.Nat.{ℕ, zero, suc, ◌+◌, ◌<◌}
use mathlib.Core.Path.{◌≡◌, refl, sym, ap, subst, ◌∙◌}
use mathlib.Core.List.{List}
use native.Mathlib.Omega.{arith}
use native.Mathlib.Nat.{not-suc-le-zero, le_of_suc-le-suc, add-zero}
use lib.ListN.{length, get_or}
use lib.Seq.{ext_get_or}
use denote.Param.Members.{Mut, Called}
use Rattle.std.specs.Array.{IsFromFnResult, IsFromFnResultFrom}
use Rattle.vectors.specs.Code.Lines.{from_place}

module _ {A : Type 0} (v : ℕ → A) where
  places_length : (n i : ℕ) → length (from_place v i n) ≡ n
  unfolding from_place
  places_length zero i = refl
  places_length (suc n) i = ap suc (places_length n (i + 1))

  places_at : (d : A) (n i k : ℕ) → k < n → get_or (from_place v i n) k d ≡ v (i + k)
  unfolding from_place
  places_at d zero i k l = absurd (not-suc-le-zero l)
  places_at d (suc n) i zero l = ap v (sym (add-zero i))
  places_at d (suc n) i (suc k) l = places_at d n (i + 1) k (le_of_suc-le-suc l) ∙ ap v (omega arith)

  module _ {F : Type 0} (g : Mut F (ℕ × Unit {0}) A) (f : F) where
    abbrev pub Gives : Type 0
    Gives = (i : ℕ) (y : A) (q : F) → Called g f (i, tt) y q → (y ≡ v i) × (q ≡ f)

    given : Gives → (ys : List A) (d : A) (n i : ℕ) (q : F) → q ≡ f → IsFromFnResultFrom g q ys i n → (k : ℕ) → k < n → get_or ys (i + k) d ≡ v (i + k)
    given s ys d zero i q e h k l = absurd (not-suc-le-zero l)
    given s ys d (suc n) i q e h zero l =
        let u = s i h.1 h.0 (subst (λ (a : F). Called g a (i, tt) h.1 h.0) e h.3) in
        ap (λ (j : ℕ). get_or ys j d) (add-zero i) ∙ h.2.1 d ∙ u.0 ∙ ap v (sym (add-zero i))
    given s ys d (suc n) i q e h (suc k) l =
        let u = s i h.1 h.0 (subst (λ (a : F). Called g a (i, tt) h.1 h.0) e h.3) in
        let z : i + suc k ≡ i + 1 + k = omega arith in
        ap (λ (j : ℕ). get_or ys j d) z ∙ given s ys d n (i + 1) h.0 u.1 h.4 k (le_of_suc-le-suc l) ∙ ap v (sym z)

    pub made_by : Gives → (ys : List A) (n : ℕ) → IsFromFnResult g f ys n → ys ≡ from_place v 0 n
    made_by s ys n h =
        ext_get_or (v 0) ys (from_place v 0 n) (h.long ∙ sym (places_length n 0))
        (λ k l.
        let e : length ys ≡ n = h.long in
        let b : k < n = omega (arith, e) in
        let z : 0 + k ≡ k = omega arith in
        ap (λ (j : ℕ). get_or ys j (v 0)) (sym z) ∙ given s ys (v 0) n 0 f refl h.each k b ∙ sym (places_at (v 0) n 0 k b))
