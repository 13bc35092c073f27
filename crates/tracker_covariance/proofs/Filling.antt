-- A loop that stores f k at each place k in turn makes the list of f; one that goes by rows and columns makes the matrix of its entries.
use Prim.Native.Nat.{ℕ, zero, suc, ◌+◌, ◌*◌, ◌/◌, ◌%◌, ◌≤◌, ◌<◌}
use mathlib.Core.Path.{◌≡◌, refl, sym, ap, subst, ◌∙◌}
use mathlib.Core.List.{List}
use native.Mathlib.Omega.{arith}
use native.Mathlib.Nat.{not-suc-le-zero, le_of_suc-le-suc, ne_of_lt, add-zero}
use lib.Dec.{lit<, lit≤}
use lib.ListN.{length, get_or, set, length-set}
use lib.Seq.{get_or-set_same, get_or-set_other, ext_get_or}
use lib.Ieee.{Float, nan}
use denote.Param.Members.{Mut, Called}
use Rattle.std.specs.Array.{IsFromFnResult, IsFromFnResultFrom}
use borrow.Author.Count.{below_more}
use Rattle.tracker_covariance.specs.Matrix.{at, matrix, list_from}

-- out has n numbers, and the first k of them are those of f
pub record Filled (n : ℕ) (f : ℕ → Float) (out : List Float) (k : ℕ) : Type 0 where
  pub long : length out ≡ n
  pub at : (j : ℕ) → j < k → get_or out j nan ≡ f j

pub none : (n : ℕ) (f : ℕ → Float) (out : List Float) → length out ≡ n → Filled n f out 0
none n f out e = record { long = e; at = λ j l. absurd (not-suc-le-zero l) }

pub store : (n : ℕ) (f : ℕ → Float) (out : List Float) (k : ℕ) (v : Float) → k < n → v ≡ f k → Filled n f out k → Filled n f (set out k v) (k + 1)
store n f out k v l e h =
    record {
      long = length-set out k v ∙ h.long;
      at =
          below_more (λ (j : ℕ). get_or (set out k v) j nan ≡ f j) k
          (λ j m. get_or-set_other out k j v nan (ne_of_lt m) ∙ h.at j m)
          (get_or-set_same out k v nan (subst (λ (m : ℕ). k < m) (sym h.long) l) ∙ e);
    }

pub list_from_length : (n i : ℕ) (f : ℕ → Float) → length (list_from n i f) ≡ n
list_from_length zero i f = refl
list_from_length (suc n) i f = ap suc (list_from_length n (suc i) f)

pub list_from_at : (n i : ℕ) (f : ℕ → Float) (k : ℕ) → k < n → get_or (list_from n i f) k nan ≡ f (i + k)
list_from_at zero i f k l = absurd (not-suc-le-zero l)
list_from_at (suc n) i f zero l = ap f (sym (add-zero i))
list_from_at (suc n) i f (suc k) l = list_from_at n (suc i) f k (le_of_suc-le-suc l) ∙ ap f (omega arith)

-- a list of n numbers that are those of f is the list of f
pub listed : (n : ℕ) (f : ℕ → Float) (out : List Float) → length out ≡ n → ((k : ℕ) → k < n → get_or out k nan ≡ f k) → out ≡ list_from n 0 f
listed n f out e h =
    ext_get_or nan out (list_from n 0 f) (e ∙ sym (list_from_length n 0 f))
    (λ k l.
    let b : k < n = omega arith in
    let z : 0 + k ≡ k = omega arith in
    h k b ∙ sym (list_from_at n 0 f k b ∙ ap f z))

pub full : (n : ℕ) (f : ℕ → Float) (out : List Float) (k : ℕ) → n ≤ k → Filled n f out k → out ≡ list_from n 0 f
full n f out k l h = listed n f out h.long (λ j m. h.at j (omega arith))

-- what the library's `from_fn` makes, where each call gives v of its index and leaves f as it is
module _ {F : Type 0} (g : Mut F (ℕ × Unit {0}) Float) (v : ℕ → Float) (f : F) where
  abbrev pub Gives : Type 0
  Gives = (i : ℕ) (y : Float) (q : F) → Called g f (i, tt) y q → (y ≡ v i) × (q ≡ f)

  given : Gives → (ys : List Float) (n i : ℕ) (q : F) → q ≡ f → IsFromFnResultFrom g q ys i n → (k : ℕ) → k < n → get_or ys (i + k) nan ≡ v (i + k)
  given s ys zero i q e h k l = absurd (not-suc-le-zero l)
  given s ys (suc n) i q e h zero l =
      let u = s i h.1 h.0 (subst (λ (a : F). Called g a (i, tt) h.1 h.0) e h.3) in
      ap (λ (j : ℕ). get_or ys j nan) (add-zero i) ∙ h.2.1 nan ∙ u.0 ∙ ap v (sym (add-zero i))
  given s ys (suc n) i q e h (suc k) l =
      let u = s i h.1 h.0 (subst (λ (a : F). Called g a (i, tt) h.1 h.0) e h.3) in
      let z : i + suc k ≡ i + 1 + k = omega arith in
      ap (λ (j : ℕ). get_or ys j nan) z ∙ given s ys n (i + 1) h.0 u.1 h.4 k (le_of_suc-le-suc l) ∙ ap v (sym z)

  pub made_by : Gives → (ys : List Float) (n : ℕ) → IsFromFnResult g f ys n → ys ≡ list_from n 0 v
  made_by s ys n h =
      listed n v ys h.long
      (λ k l.
      let z : 0 + k ≡ k = omega arith in
      ap (λ (j : ℕ). get_or ys j nan) (sym z) ∙ given s ys n 0 f refl h.each k l ∙ ap v z)

-- ---- by rows and columns
-- what stands at place k of the matrix with the entries f r c
abbrev pub place : (ℕ → ℕ → Float) → ℕ → Float
place f k = f (k / 6) (k % 6)

-- entry by entry, in the order in which they stand
pub at_place : (p : List Float) (k : ℕ) → at p (k / 6) (k % 6) ≡ get_or p k nan
at_place p k =
    let z : 6 * (k / 6) + k % 6 ≡ k = omega arith in
    ap (λ (j : ℕ). get_or p j nan) z

pub record Rows (f : ℕ → ℕ → Float) (out : List Float) (k : ℕ) : Type 0 where
  pub filled : Filled 36 (place f) out k

place_is : (f : ℕ → ℕ → Float) (r c : ℕ) → c < 6 → place f (6 * r + c) ≡ f r c
place_is f r c l =
    let q : (6 * r + c) / 6 ≡ r = omega arith in
    let m : (6 * r + c) % 6 ≡ c = omega arith in
    λ j. f (q j) (m j)

pub store_entry : (f : ℕ → ℕ → Float) (out : List Float) (r c : ℕ) (v : Float) → r < 6 → c < 6 → v ≡ f r c → Rows f out (6 * r + c) → Rows f (set out (6 * r + c) v) (6 * r + (c + 1))
store_entry f out r c v hr hc e h =
    let n : (6 * r + c) + 1 ≡ 6 * r + (c + 1) = omega arith in
    record {
      filled =
          subst (Filled 36 (place f) (set out (6 * r + c) v)) n
          (store 36 (place f) out (6 * r + c) v (omega arith) (e ∙ sym (place_is f r c hc)) h.filled);
    }

-- the row is done
pub next_row : (f : ℕ → ℕ → Float) (out : List Float) (r c : ℕ) → c ≤ 6 → 6 ≤ c → Rows f out (6 * r + c) → Rows f out (6 * (r + 1) + 0)
next_row f out r c l g = subst (Rows f out) (omega arith)

-- a whole row at a time
pub store_row : (f : ℕ → ℕ → Float) (out : List Float) (r : ℕ) (v₀ v₁ v₂ v₃ v₄ v₅ : Float) → r < 6
    → v₀ ≡ f r 0 → v₁ ≡ f r 1 → v₂ ≡ f r 2 → v₃ ≡ f r 3 → v₄ ≡ f r 4 → v₅ ≡ f r 5
    → Rows f out (6 * r + 0)
    → Rows f (set (set (set (set (set (set out (6 * r) v₀) (6 * r + 1) v₁) (6 * r + 2) v₂) (6 * r + 3) v₃) (6 * r + 4) v₄) (6 * r + 5) v₅) (6 * (r + 1) + 0)
store_row f out r v₀ v₁ v₂ v₃ v₄ v₅ l e₀ e₁ e₂ e₃ e₄ e₅ h =
    let a = subst (λ (k : ℕ). Rows f (set out k v₀) (6 * r + 1)) (add-zero (6 * r)) (store_entry f out r 0 v₀ l (lit< tt) e₀ h) in
    let b = store_entry f _ r 1 v₁ l (lit< tt) e₁ a in
    let c = store_entry f _ r 2 v₂ l (lit< tt) e₂ b in
    let d = store_entry f _ r 3 v₃ l (lit< tt) e₃ c in
    let e = store_entry f _ r 4 v₄ l (lit< tt) e₄ d in
    next_row f _ r 6 (lit≤ tt) (lit≤ tt) (store_entry f _ r 5 v₅ l (lit< tt) e₅ e)

-- a list of 36 numbers that are the entries f r c is their matrix
pub entries : (f : ℕ → ℕ → Float) (out : List Float) → length out ≡ 36 → ((k : ℕ) → k < 36 → get_or out k nan ≡ place f k) → out ≡ matrix f
unfolding matrix
entries f out = listed 36 (place f) out

-- every row is done
pub all_rows : (f : ℕ → ℕ → Float) (out : List Float) (r : ℕ) → 6 ≤ r → Rows f out (6 * r + 0) → out ≡ matrix f
unfolding matrix
all_rows f out r l h = full 36 (place f) out (6 * r + 0) (omega arith) h.filled
