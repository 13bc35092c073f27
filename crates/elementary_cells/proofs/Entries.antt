-- The entries of a table: the patterns of the code's digits are those of the rule, by one computed test; an entry as a whole number of small units is exact; and a test
-- that holds of all cells holds of each.
use mathlib.Core.Path.{◌≡◌, sym, ap, ◌∙◌, subst}
use mathlib.Core.Bool.{Bool, true, false, not, ◌&&◌}
use mathlib.Core.List.{List, [], ◌∷◌, map}
use Prim.Native.Nat.{ℕ, zero, suc, ◌+◌, ◌-◌, ◌*◌, ◌/◌, ◌%◌, ◌≤◌, ◌<◌}
use native.Mathlib.Nat.{le_trans, le_of_eq, le_of_suc-le-suc, not-suc-le-zero, zero-add, suc-add, add-suc, add-zero, mul_assoc, mul_comm, mul_right_comm, mul-le-mul_right, le_of_mul-le-mul_right, div-add-mod'}
use native.Mathlib.Omega.{arith}
use lib.IntN.{ℤ}
use lib.Dec.{T, leb, eqb, leb→le, eqb→eq, T_not}
use lib.ListN.{length, get_or}
use Rattle.std.proofs.lemmas.List.{get_or-map}
use lib.Ieee.{Float, nan, inf, fin, binary64, up, down, of_bits, to_bits, round, fits}
use lib.Ieee.Bits.{of_bits-to_bits}
use lib.Ieee.Fits.{and_l, and_r, round-fits, cond-fits, down_pos, eq→eqb}
use Rattle.elementary_series.specs.Fraction.{Fraction}
use Rattle.elementary_cells.specs.Polynomials.{Signed, at}
use Rattle.elementary_cells.specs.Cells.{nearest_to}
use Rattle.elementary_cells.proofs.Approximation.{L, Approx, exact_approx}

-- ---- the code's digits

-- each number is the pattern of its entry, from i on
unfoldable pub follows : (ℕ → Float) → ℕ → List ℕ → Bool
unfolding to_bits
follows f i [] = true
follows f i (x ∷ xs) = eqb x (to_bits binary64 (f i)) && follows f (suc i) xs

from : (f : ℕ → Float) (xs : List ℕ) (i : ℕ) → T (follows f i xs) → (k : ℕ) → k < length xs → get_or xs k 0 ≡ to_bits binary64 (f (i + k))
unfolding follows
from f [] i t k h = absurd (not-suc-le-zero h)
from f (x ∷ xs) i t zero h = subst (λ (m : ℕ). x ≡ to_bits binary64 (f m)) (sym (add-zero i)) (eqb→eq x (to_bits binary64 (f i)) (and_l (eqb x (to_bits binary64 (f i))) (follows f (suc i) xs) t))
from f (x ∷ xs) i t (suc k) h =
    subst (λ (m : ℕ). get_or xs k 0 ≡ to_bits binary64 (f m)) (suc-add i k ∙ sym (add-suc i k))
    (from f xs (suc i) (and_r (eqb x (to_bits binary64 (f i))) (follows f (suc i) xs) t) k (le_of_suc-le-suc h))

pub nearest_fits : (f : Fraction) → T (fits binary64 (nearest_to f))
nearest_fits f =
    cond-fits binary64 (leb f.minus f.plus) (round binary64 false (f.plus - f.minus) f.over) (round binary64 true (f.minus - f.plus) f.over) (round-fits binary64 false (f.plus - f.minus) f.over) (round-fits binary64 true (f.minus - f.plus) f.over)

-- a table of floats whose patterns they are has the entry at each place
pub table_at : (f : ℕ → Float) (xs : List ℕ) (fs : List Float) → T (follows f 0 xs) → ((k : ℕ) → T (fits binary64 (f k))) → fs ≡ map (of_bits binary64) xs → (k : ℕ) (d : Float) → k < length xs → get_or fs k d ≡ f k
table_at f xs fs t g e k d h =
    ap (λ (z : List Float). get_or z k d) e ∙ get_or-map (of_bits binary64) xs k 0 d h
    ∙ ap (λ (z : ℕ). of_bits binary64 z) (from f xs 0 t k h ∙ ap (λ (z : ℕ). to_bits binary64 (f z)) (zero-add k)) ∙ of_bits-to_bits binary64 (f k) (g k)

-- each row of patterns, from row i on, has n numbers, and they are those of its entries
unfoldable pub rows_follow : (ℕ → ℕ → Float) → ℕ → ℕ → List (List ℕ) → Bool
unfolding follows
rows_follow f n i [] = true
rows_follow f n i (r ∷ rs) = eqb (length r) n && (follows (f i) 0 r && rows_follow f n (suc i) rs)

row_from : (f : ℕ → ℕ → Float) (n : ℕ) (rs : List (List ℕ)) (i : ℕ) → T (rows_follow f n i rs) → (j : ℕ) → j < length rs → (length (get_or rs j []) ≡ n) × T (follows (f (i + j)) 0 (get_or rs j []))
unfolding rows_follow
row_from f n [] i t j h = absurd (not-suc-le-zero h)
row_from f n (r ∷ rs) i t zero h = (
  eqb→eq (length r) n (and_l (eqb (length r) n) (follows (f i) 0 r && rows_follow f n (suc i) rs) t),
  subst (λ (m : ℕ). T (follows (f m) 0 r)) (sym (add-zero i)) (and_l (follows (f i) 0 r) (rows_follow f n (suc i) rs) (and_r (eqb (length r) n) (follows (f i) 0 r && rows_follow f n (suc i) rs) t)),
)
row_from f n (r ∷ rs) i t (suc j) h =
    let rest = row_from f n rs (suc i) (and_r (follows (f i) 0 r) (rows_follow f n (suc i) rs) (and_r (eqb (length r) n) (follows (f i) 0 r && rows_follow f n (suc i) rs) t)) j (le_of_suc-le-suc h) in
    (rest.0, subst (λ (m : ℕ). T (follows (f m) 0 (get_or rs j []))) (suc-add i j ∙ sym (add-suc i j)) rest.1)

-- a table of floats in rows whose patterns they are has the entry at each place of each row
pub rows_at : (f : ℕ → ℕ → Float) (n : ℕ) (rs : List (List ℕ)) (table : List (List Float)) → T (rows_follow f n 0 rs) → ((j k : ℕ) → T (fits binary64 (f j k))) → table ≡ map (map (of_bits binary64)) rs → (j k : ℕ) (d : Float) → j < length rs → k < n → get_or (get_or table j []) k d ≡ f j k
rows_at f n rs table t g e j k d h i =
    let row = row_from f n rs 0 t j h in
    table_at (f j) (get_or rs j []) (get_or table j [])
    (subst (λ (m : ℕ). T (follows (f m) 0 (get_or rs j []))) (zero-add j) row.1) (g j)
    (ap (λ (z : List (List Float)). get_or z j []) e ∙ get_or-map (map (of_bits binary64)) rs j [] [] h)
    k d (subst (λ (m : ℕ). k < m) (sym row.0) i)

-- ---- an entry, u units to 1
unfoldable pub entry : ℕ → Float → Signed
entry u nan = at 0 0
entry u (inf s) = at 0 0
entry u (fin true m e) = at 0 (m * up e * u / down e)
entry u (fin false m e) = at (m * up e * u / down e) 0

-- finite, a whole number of units, and at most b / 64
unfoldable pub proper : ℕ → ℕ → Float → Bool
proper u b nan = false
proper u b (inf s) = false
proper u b (fin s m e) = eqb (m * up e * u % down e) 0 && leb (64 * (m * up e)) (b * down e)

module _ (u r b : ℕ) (above : 0 < u) (units : r * u ≡ L) (m : ℕ) (e : ℤ) (h : T (eqb (m * up e * u % down e) 0 && leb (64 * (m * up e)) (b * down e))) where
  abbrev p : ℕ
  p = m * up e * u / down e

  whole : p * down e ≡ m * up e * u
  whole = none (p * down e) (m * up e * u % down e) (eqb→eq (m * up e * u % down e) 0 (and_l (eqb (m * up e * u % down e) 0) (leb (64 * (m * up e)) (b * down e)) h)) ∙ div-add-mod' (m * up e * u) (down e)
    where
      none : (x r : ℕ) → r ≡ 0 → x ≡ x + r
      none x r e = omega arith

  upto : 64 * p ≤ b * u
  upto =
      le_of_mul-le-mul_right {m = 64 * p} {n = b * u} {k = down e}
      (le_trans (le_of_eq (mul_assoc 64 p (down e) ∙ ap (λ (z : ℕ). 64 * z) whole ∙ sym (mul_assoc 64 (m * up e) u)))
      (le_trans (mul-le-mul_right u (leb→le (64 * (m * up e)) (b * down e) (and_r (eqb (m * up e * u % down e) 0) (leb (64 * (m * up e)) (b * down e)) h))) (le_of_eq (mul_right_comm b (down e) u)))) (down_pos e)

  entry_units : m * up e * L + 0 * down e ≡ p * r * down e
  entry_units = zero_more (m * up e * L) (down e) ∙ ap (λ (z : ℕ). m * up e * z) (sym units ∙ mul_comm r u) ∙ sym (mul_assoc (m * up e) u r) ∙ ap (λ (z : ℕ). z * r) (sym whole) ∙ mul_right_comm p (down e) r
    where
      zero_more : (x d : ℕ) → x + 0 * d ≡ x
      zero_more x d = omega arith

  scaled : p * r * u ≡ p * L
  scaled = mul_assoc p r u ∙ ap (λ (z : ℕ). p * z) units

  at_entry : (s : Bool) → Approx (fin s m e) 0 b (entry u (fin s m e)) u
  unfolding entry
  at_entry s = by s
    where
      below : (p r u l : ℕ) → 64 * p ≤ b * u → r * u ≡ l → 64 * (p * r) ≤ 64 * 0 + b * l
      below p r u l h e = omega (arith, mul-le-mul_right r h, ap (λ (z : ℕ). b * z) e)

      over : (x l : ℕ) → 64 * 0 ≤ 64 * x + l
      over x l = omega arith

      small : (p y : ℕ) → 64 * p ≤ y → 64 * p ≤ 64 * 0 + y
      small p y h = omega arith

      none : (u l : ℕ) → 0 * u ≡ 0 * l
      none u l = omega arith

      by : (s : Bool) → Approx (fin s m e) 0 b (entry u (fin s m e)) u
      by true = exact_approx (fin true m e) 0 (p * r) 0 p b u above entry_units (none u L) scaled (over (p * r) (b * L)) (below p r u L upto units) (over p (b * u)) (small p (b * u) upto)
      by false = exact_approx (fin false m e) (p * r) 0 p 0 b u above entry_units scaled (none u L) (below p r u L upto units) (over (p * r) (b * L)) (small p (b * u) upto) (over p (b * u))

pub entry_exact : (u r b : ℕ) → 0 < u → r * u ≡ L → (x : Float) → T (proper u b x) → Approx x 0 b (entry u x) u
unfolding proper
entry_exact u r b above units nan h = absurd h
entry_exact u r b above units (inf s) h = absurd h
entry_exact u r b above units (fin s m e) h = at_entry u r b above units m e h s

-- ---- a test of all cells
unfoldable pub all : (ℕ → Bool) → ℕ → Bool
all f zero = true
all f (suc n) = f n && all f n

pub each : (f : ℕ → Bool) (n k : ℕ) → T (all f n) → k < n → T (f k)
unfolding all
each f zero k t h = absurd (not-suc-le-zero h)
each f (suc n) k t h = by (eqb k n) (eqb→eq k n) (λ (g : T (not (eqb k n))) (e : k ≡ n). T_not (eqb k n) g (eq→eqb e)) (λ (i : k < n). each f n k (and_r (f n) (all f n) t) i)
  where
    less : (k n : ℕ) → k < suc n → (k ≡ n → ⊥) → k < n
    less k n h g = omega arith

    by : (b : Bool) → (T b → k ≡ n) → (T (not b) → k ≡ n → ⊥) → (k < n → T (f k)) → T (f k)
    by true y g r = subst (λ (z : ℕ). T (f z)) (sym (y tt)) (and_l (f n) (all f n) t)
    by false y g r = r (less k n h (g tt))
