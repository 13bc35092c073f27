-- A table of complex numbers: its length, its entries, its parts, and the loops that write one, afresh or over another.
use mathlib.Core.Path.{◌≡◌, refl, ap, sym, ◌∙◌}
use mathlib.Core.List.{List, [], ◌∷◌, ◌++◌, append_assoc, append-nil}
use Prim.Native.Nat.{ℕ, zero, suc, ◌+◌, ◌*◌, ◌-◌, ◌≤◌, ◌<◌}
use native.Mathlib.Numerals.{add-one}
use native.Mathlib.Omega.{arith}
use native.Mathlib.Decide.{dec_lt}
use lib.ListN.{length, get_or, take, drop, set, length-set, length-append, get_or-append}
use lib.Seq.{take-suc-set, take_all, drop-set-lt, get_or-drop, get_or-append-add, take_at, drop_at, drop-drop}
use lib.Ieee.{Float, nan}
use Rattle.sums.specs.Complex.{Cx}
use Rattle.sums.specs.Interleaved.{at, table}

pub length_table : (n : ℕ) (f : ℕ → Cx) → length (table n f) ≡ 2 * n
unfolding table
length_table zero f = refl
length_table (suc n) f = simp length-append (omega (arith, length_table n f))

-- ---- entries

pub at_left : (xs ys : List Float) (p : ℕ) → 2 * p + 1 < length xs → at (xs ++ ys) p ≡ at xs p
at_left xs ys p h =
    let h0 : 2 * p < length xs = omega arith in
    rw (get_or-append xs ys nan (2 * p) h0, get_or-append xs ys nan (2 * p + 1) h)

pub at_right : (xs ys : List Float) (q r : ℕ) → length xs ≡ 2 * q → at (xs ++ ys) (q + r) ≡ at ys r
at_right xs ys q r l =
    let e0 : 2 * (q + r) ≡ length xs + 2 * r = omega arith in
    let e1 : 2 * (q + r) + 1 ≡ length xs + (2 * r + 1) = omega arith in
    rw (e1, e0, get_or-append-add xs ys (2 * r) nan, get_or-append-add xs ys (2 * r + 1) nan)

pub at_table : (n : ℕ) (f : ℕ → Cx) (p : ℕ) → p < n → at (table n f) p ≡ f p
unfolding table
at_table zero f p h = absurd (omega arith)
at_table (suc n) f p h = by (at_table n f p) (dec_lt p n)
  where
    by : (p < n → at (table n f) p ≡ f p) → Dec (p < n) → at (table n f ++ ((f n).0 ∷ (f n).1 ∷ [])) p ≡ f p
    by r (yes lt) = at_left (table n f) _ p (omega (arith, length_table n f)) ∙ r lt
    by r (no ge) =
        let e : p ≡ n + 0 = omega arith in
        let e' : n ≡ p = omega arith in
        ap (at (table n f ++ ((f n).0 ∷ (f n).1 ∷ []))) e ∙ at_right (table n f) ((f n).0 ∷ (f n).1 ∷ []) n 0 (length_table n f) ∙ ap f e'

pub table_same : (n : ℕ) (f g : ℕ → Cx) → ((i : ℕ) → i < n → f i ≡ g i) → table n f ≡ table n g
unfolding table
table_same zero f g h = refl
table_same (suc n) f g h = rw (table_same n f g (λ i l. h i (omega arith)), h n (omega arith))

-- ---- parts

pub table_add : (m n : ℕ) (f : ℕ → Cx) → table (m + n) f ≡ table m f ++ table n (λ d. f (m + d))
unfolding table
table_add m zero f = let e : m + 0 ≡ m = omega arith in ap (λ (k : ℕ). table k f) e ∙ sym (append-nil (table m f))
table_add m (suc n) f = let e : m + suc n ≡ suc (m + n) = omega arith in rw (e, table_add m n f, append_assoc)

module _ (m n : ℕ) (f : ℕ → Cx) (h : m ≤ n) where
  pub table_split : table n f ≡ table m f ++ table (n - m) (λ d. f (m + d))
  table_split = let e : n ≡ m + (n - m) = omega arith in ap (λ (k : ℕ). table k f) e ∙ table_add m (n - m) f

  pub table_take : take (2 * m) (table n f) ≡ table m f
  table_take = rw table_split (take_at (table m f) (table (n - m) (λ d. f (m + d))) (2 * m) (length_table m f))

  pub table_drop : drop (2 * m) (table n f) ≡ table (n - m) (λ d. f (m + d))
  table_drop = rw table_split (drop_at (table m f) (table (n - m) (λ d. f (m + d))) (2 * m) (length_table m f))

-- ---- a loop that writes: before turn p the first p entries are the table's

pub table_start : (f : ℕ → Cx) → [] ≡ table 0 f
unfolding table
table_start f = refl

pub table_next : (f : ℕ → Cx) (p : ℕ) (a : List Float) {u v : Float} → 2 * p + 1 < length a → take (2 * p) a ≡ table p f → (u, v) ≡ f p
    → take (2 * (p + 1)) (set (set a (2 * p) u) (2 * p + 1) v) ≡ table (p + 1) f
unfolding table
table_next f p a {u} {v} h e ev =
    let h0 : 2 * p < length a = omega arith in
    let h1 : suc (2 * p) < length (set a (2 * p) u) = simp length-set (omega arith) in
    let two : 2 * (p + 1) ≡ suc (suc (2 * p)) = omega arith in
    let one : 2 * p + 1 ≡ suc (2 * p) = omega arith in
    rw (two, one, add-one, take-suc-set (set a (2 * p) u) (suc (2 * p)) v h1, take-suc-set a (2 * p) u h0, e, ← ev, append_assoc)

pub table_end : (f : ℕ → Cx) (p n : ℕ) (a : List Float) → take (2 * p) a ≡ table p f → p ≤ n → n ≤ p → length a ≡ 2 * n → a ≡ table n f
table_end f p n a h lo hi l = let e : p ≡ n = omega arith in rw (← e) (sym (take_all (2 * p) a (omega arith)) ∙ h)

-- where it writes over the list a₀ in place, the entries from p on are still those of a₀
module _ (p : ℕ) (a a₀ : List Float) (same : drop (2 * p) a ≡ drop (2 * p) a₀) where
  pub at_same : at a p ≡ at a₀ p
  at_same =
      let g0 = get_or-drop (2 * p) a 0 nan in
      let g1 = get_or-drop (2 * p) a 1 nan in
      let k0 = get_or-drop (2 * p) a₀ 0 nan in
      let k1 = get_or-drop (2 * p) a₀ 1 nan in
      let e : 2 * p ≡ 2 * p + 0 = omega arith in
      let h0 : get_or a (2 * p) nan ≡ get_or a₀ (2 * p) nan = rw e (sym g0 ∙ ap (λ (l : List Float). get_or l 0 nan) same ∙ k0) in
      let h1 : get_or a (2 * p + 1) nan ≡ get_or a₀ (2 * p + 1) nan = sym g1 ∙ ap (λ (l : List Float). get_or l 1 nan) same ∙ k1 in
      rw (h0, h1)

  pub drop_next : (u v : Float) → drop (2 * (p + 1)) (set (set a (2 * p) u) (2 * p + 1) v) ≡ drop (2 * (p + 1)) a₀
  drop_next u v =
      let lt1 : 2 * p + 1 < 2 * (p + 1) = omega arith in
      let lt0 : 2 * p < 2 * (p + 1) = omega arith in
      let e : 2 * (p + 1) ≡ 2 * p + 2 = omega arith in
      rw (drop-set-lt (2 * (p + 1)) (set a (2 * p) u) (2 * p + 1) v lt1, drop-set-lt (2 * (p + 1)) a (2 * p) u lt0, e, ← drop-drop 2 (2 * p) a, same, drop-drop 2 (2 * p) a₀)
