-- The cell of a number, and what the number is off from the cell's middle, which is exact. In units of 2 ^ -1074, L of which are 1 and D = 2 ^ g the width of a
-- cell.
use mathlib.Core.Path.{◌≡◌, refl, sym, ap, ◌∙◌, subst}
use mathlib.Core.Bool.{Bool, true, false, not, cond}
use Prim.Native.Nat.{ℕ, zero, suc, ◌+◌, ◌-◌, ◌*◌, ◌/◌, ◌%◌, ◌^◌, ◌≤◌, ◌<◌, zero-le}
use native.Mathlib.Nat.{le_refl, le_trans, le_of_eq, le_of_lt, lt_of_le_of_lt, lt_of_lt_of_le, lt_of_not-le, not-le_of_lt, mul-le-mul_right, mul-lt-mul_of_pos_right, le_of_mul-le-mul_right, lt_of_mul-lt-mul_right, mul-pos, mul_assoc, mul_comm, mul-div_cancel}
use native.Mathlib.Omega.{arith}
use lib.Dec.{T, leb, leb→le, nleb→lt, lit<, lit≤}
use lib.Pow.{pow-add, pow_pos, pow_mono}
use lib.Ieee.{Float, nan, inf, fin, binary64, up, down, size, round, add, sub, is_nan, to_bits}
use lib.Ieee.Digits.{size-lt, size-le}
use lib.Ieee.Fits.{down_pos}
use lib.Ieee.Exact.{HasValue, round_exact}
use lib.Ieee.Order.{drop, kept}
use lib.Ieee.Scale.{grid, overflow, round_val}
use Rattle.ieee754_rounding.specs.Code.Errors.{Val}
use Rattle.ieee754_rounding.proofs.Values.{plain}
use Rattle.ieee754_rounding.proofs.RoundingError.{grid_within}
use Rattle.ieee754_rounding.proofs.OperationRounding.{add_rounds, sub_rounds}
use Rattle.elementary_cells.specs.Cells.{cell, offset}

-- a shifter, with what is asked of g and of the number c of cells to 1, computed for each
pub record Shifter (σ : Float) (g c : ℕ) : Type 0 where
  pub is : Val binary64 σ (3 * 2 ^ 51 * 2 ^ g) 0
  pub cells : c * 2 ^ g ≡ 2 ^ 1074
  pub from : 2 ^ (g + 52) ≤ 3 * 2 ^ 51 * 2 ^ g
  pub below : (3 * 2 ^ 51 + 256) * 2 ^ g < 2 ^ (g + 53)
  pub finite : 2 * 2 ^ (g + 53) + 2 ^ g ≤ 2 * overflow binary64
  pub room : g ≤ 1074

-- ---- a number of g + 53 binary digits
digits : (g w : ℕ) → 2 ^ (g + 52) ≤ w → w < 2 ^ (g + 53) → size w ≡ g + 53
digits g w h k = both g (size w) (size-le w (g + 53) k) (lt_of_not-le (λ (i : size w ≤ g + 52). not-le_of_lt (lt_of_lt_of_le (size-lt w) (pow_mono i)) h))
  where
    both : (g z : ℕ) → z ≤ g + 53 → g + 52 < z → z ≡ g + 53
    both g z a b = omega arith

places : (g z : ℕ) → z ≡ g + 53 → z - 53 ≡ g
places g z e = omega arith

-- ---- such a number of units, rounded: a whole number of D
record Rounded (g N : ℕ) (t : Float) : Type 0 where
  T : ℕ
  is : HasValue t false (T * 2 ^ g) (2 ^ 1074)
  under : 2 * (T * 2 ^ g) ≤ 2 * N + 2 ^ g
  over : 2 * N ≤ 2 * (T * 2 ^ g) + 2 ^ g

shifted : (g N : ℕ) → 2 ^ (g + 52) ≤ N → N < 2 ^ (g + 53) → 2 * 2 ^ (g + 53) + 2 ^ g ≤ 2 * overflow binary64 → Rounded g N (round binary64 false N (1 * 2 ^ 1074))
shifted g N h k top =
    let c : ℕ = 1 * 2 ^ 1074 in
    let D : ℕ = 2 ^ g in
    let e : N * 2 ^ 1074 / c ≡ N = mul-div_cancel N (lit< {m = 0} {n = 1 * 2 ^ 1074} tt) in
    let d : drop 53 (N * 2 ^ 1074) c ≡ g = ap (λ (z : ℕ). size z - 53) e ∙ places g (size N) (digits g N h k) in
    let w = grid_within binary64 N c (lit< tt) in
    let T : ℕ = kept 53 (N * 2 ^ 1074) c in
    let q : grid binary64 N c ≡ T * D = ap (λ (z : ℕ). T * 2 ^ z) d in
    let u : 2 * (T * D) ≤ 2 * N + D =
    le_of_mul-le-mul_right {m = 2 * (T * D)} {n = 2 * N + D} {k = c} (le_trans (le_of_eq (mul_assoc 2 (T * D) c ∙ ap (λ (z : ℕ). 2 * (z * c)) (sym q))) (le_trans w.under (le_of_eq (ap (λ (z : ℕ). 2 * (N * 2 ^ 1074) + c * 2 ^ z) d ∙ turn N D c)))) (lit< tt) in
    let o : 2 * N ≤ 2 * (T * D) + D =
    le_of_mul-le-mul_right {m = 2 * N} {n = 2 * (T * D) + D} {k = c} (le_trans (le_of_eq (mul_assoc 2 N c)) (le_trans w.over (le_of_eq (ap (λ (z : ℕ). 2 * (grid binary64 N c * c) + c * 2 ^ z) d ∙ ap (λ (z : ℕ). 2 * (z * c) + c * D) q ∙ turn (T * D) D c)))) (lit< tt) in
    record {
      T = T;
      is = subst (λ (z : ℕ). HasValue (round binary64 false N c) false z (2 ^ 1074)) q (round_val binary64 N c (subst (λ (z : ℕ). z < overflow binary64) (sym q) (fine (T * D) N D (2 ^ (g + 53)) (overflow binary64) u k top)));
      under = u;
      over = o;
    }
  where
    turn : (N D c : ℕ) → 2 * (N * c) + c * D ≡ (2 * N + D) * c
    turn N D c = omega arith

    fine : (x N D b o : ℕ) → 2 * x ≤ 2 * N + D → N < b → 2 * b + D ≤ 2 * o → x < o
    fine x N D b o h k l = omega arith

-- ---- it is a number, and its bits
a_number : (x : Float) (n : ℕ) → HasValue x false n (2 ^ 1074) → T (not (is_nan x))
unfolding is_nan
a_number nan n v = absurd v
a_number (inf s) n v = tt
a_number (fin s m e) n v = tt

bits_of : (g : ℕ) (t : Float) (T : ℕ) → HasValue t false (T * 2 ^ g) (2 ^ 1074) → 2 ^ (g + 52) ≤ T * 2 ^ g → T * 2 ^ g < 2 ^ (g + 53) → to_bits binary64 t ≡ g * 2 ^ 52 + T
unfolding to_bits
bits_of g nan T v h k = absurd v
bits_of g (inf s) T v h k = absurd v
bits_of g (fin true m e) T v h k = absurd (mathlib.Core.Bool.true≢false v.0)
bits_of g (fin false m e) T v h k =
    let n : m * up e * 2 ^ 1074 / down e ≡ T * 2 ^ g = ap (λ (z : ℕ). z / down e) v.1 ∙ mul-div_cancel (T * 2 ^ g) (down_pos e) in
    let d : size (m * up e * 2 ^ 1074 / down e) - 53 ≡ g = ap (λ (z : ℕ). size z - 53) n ∙ places g (size (T * 2 ^ g)) (digits g (T * 2 ^ g) h k) in
    ap (λ (z : ℕ). 0 + z * 2 ^ 52 + m * up e * 2 ^ 1074 / down e / 2 ^ z) d ∙ ap (λ (z : ℕ). 0 + g * 2 ^ 52 + z / 2 ^ g) n ∙ ap (λ (z : ℕ). 0 + g * 2 ^ 52 + z) (mul-div_cancel T (pow_pos g)) ∙ plainly (g * 2 ^ 52) T
  where
    plainly : (a b : ℕ) → 0 + a + b ≡ a + b
    plainly a b = omega arith

abbrev base : ℕ
base = 3 * 2 ^ 51

-- ---- the cell k of a number of A units, one of `few`, and what it is off: hp - hq units
pub record Cell (σ : Float) (g few : ℕ) (a : Float) (A : ℕ) : Type 0 where
  pub k : ℕ
  pub is_few : k < few
  pub cell_is : cell σ a ≡ k
  pub hp : ℕ
  pub hq : ℕ
  pub val : Val binary64 (offset σ a) hp hq
  pub middle : A + hq ≡ k * 2 ^ g + hp
  pub near : 2 * (hp + hq) ≤ 2 ^ g
  pub number : T (not (is_nan (add binary64 a σ)))

-- a sum and a difference, of units
module _ (σ : Float) (g c few : ℕ) (ok : Shifter σ g c) (cap : few ≤ 256) (a : Float) (m j : ℕ) (small : m < 2 ^ 53) (val : Val binary64 a (m * 2 ^ j) 0) (bound : 2 * (m * 2 ^ j) + 2 ^ g < 2 * few * 2 ^ g) where
  abbrev D : ℕ
  D = 2 ^ g

  abbrev A : ℕ
  A = m * 2 ^ j

  abbrev B : ℕ
  B = base * D

  t : Float
  t = add binary64 a σ

  -- fewer than 256 cells beyond the shifter
  few_below : (base + 256) * D < 2 ^ (g + 53)
  few_below = ok.below

  sum_rounded : Rounded g (A + B) t
  unfolding t
  sum_rounded = let r = add_rounds binary64 a σ A 0 B 0 val ok.is in subst (λ (z : Float). Rounded g (A + B) z) (sym r.is) (go r.sign r.size r.by)
    where
      above : (A B s : ℕ) → 0 < B → 0 + 0 ≡ A + B + s → ⊥
      above A B s h e = omega arith

      same : (A B s : ℕ) → A + B ≡ 0 + 0 + s → s ≡ A + B
      same A B s e = omega arith

      large : (A B c : ℕ) → c ≤ B → c ≤ A + B
      large A B c h = omega arith

      less : (A D f b : ℕ) → f ≤ 256 → 2 * A + D < 2 * f * D → (3 * 2 ^ 51 + 256) * D < b → A + 3 * 2 ^ 51 * D < b
      less A D f b r h k = omega (arith, mul-le-mul_right D r)

      go : (s : Bool) (z : ℕ) → cond s (0 + 0) (A + B) ≡ cond s (A + B) (0 + 0) + z → Rounded g (A + B) (round binary64 s z (1 * 2 ^ 1074))
      go true z e = absurd (above A B z (mul-pos (lit< {m = 0} {n = base} tt) (pow_pos g)) e)
      go false z e = subst (λ (z : ℕ). Rounded g (A + B) (round binary64 false z (1 * 2 ^ 1074))) (sym (same A B z e)) (shifted g (A + B) (large A B (2 ^ (g + 52)) ok.from) (less A D few (2 ^ (g + 53)) cap bound few_below) ok.finite)

  -- the number of cells, over variables
  module _ (D A T : ℕ) (pD : 0 < D) (u : 2 * (T * D) ≤ 2 * (A + 3 * 2 ^ 51 * D) + D) (o : 2 * (A + 3 * 2 ^ 51 * D) ≤ 2 * (T * D) + D) (f : ℕ) (b : 2 * A + D < 2 * f * D) where
    at_least : 3 * 2 ^ 51 ≤ T
    at_least = half T (le_of_mul-le-mul_right {m = 2 * (3 * 2 ^ 51)} {n = 2 * T + 1} {k = D} (omega arith) pD)
      where
        half : (T : ℕ) → 2 * (3 * 2 ^ 51) ≤ 2 * T + 1 → 3 * 2 ^ 51 ≤ T
        half T h = omega arith

    at_most : T - 3 * 2 ^ 51 < f
    at_most = let h : T * D < (f + 3 * 2 ^ 51) * D = omega arith in half T f at_least (lt_of_mul-lt-mul_right D h)
      where
        half : (T f : ℕ) → 3 * 2 ^ 51 ≤ T → T < f + 3 * 2 ^ 51 → T - 3 * 2 ^ 51 < f
        half T f l h = omega arith

  abbrev K : ℕ
  K = sum_rounded.T - base

  K-is : sum_rounded.T ≡ base + K
  K-is = back base sum_rounded.T (at_least D A sum_rounded.T (pow_pos g) sum_rounded.under sum_rounded.over few bound)
    where
      back : (b T : ℕ) → b ≤ T → T ≡ b + (T - b)
      back b T h = omega arith

  K-few : K < few
  K-few = at_most D A sum_rounded.T (pow_pos g) sum_rounded.under sum_rounded.over few bound

  -- 2 K D is within D of 2 A
  K-under : 2 * (K * D) ≤ 2 * A + D
  K-under = go D A K sum_rounded.T K-is sum_rounded.under
    where
      go : (D A K T : ℕ) → T ≡ 3 * 2 ^ 51 + K → 2 * (T * D) ≤ 2 * (A + 3 * 2 ^ 51 * D) + D → 2 * (K * D) ≤ 2 * A + D
      go D A K T e h = omega (arith, ap (λ (z : ℕ). z * D) e)

  K-over : 2 * A ≤ 2 * (K * D) + D
  K-over = go D A K sum_rounded.T K-is sum_rounded.over
    where
      go : (D A K T : ℕ) → T ≡ 3 * 2 ^ 51 + K → 2 * (A + 3 * 2 ^ 51 * D) ≤ 2 * (T * D) + D → 2 * A ≤ 2 * (K * D) + D
      go D A K T e h = omega (arith, ap (λ (z : ℕ). z * D) e)

  cell_is : cell σ a ≡ K
  unfolding cell t
  cell_is =
      ap (λ (z : ℕ). z % 256) (bits_of g t sum_rounded.T sum_rounded.is (low sum_rounded.T D (2 ^ (g + 52)) (at_least D A sum_rounded.T (pow_pos g) sum_rounded.under sum_rounded.over few bound) ok.from) (high sum_rounded.T K D (2 ^ (g + 53)) K-is (le_trans K-few cap) few_below))
      ∙ ap (λ (z : ℕ). (g * 2 ^ 52 + z) % 256) K-is
      ∙ last g K (le_trans K-few cap)
    where
      low : (T D c : ℕ) → 3 * 2 ^ 51 ≤ T → c ≤ 3 * 2 ^ 51 * D → c ≤ T * D
      low T D c h k = le_trans k (mul-le-mul_right D h)

      high : (T K D c : ℕ) → T ≡ 3 * 2 ^ 51 + K → K < 256 → (3 * 2 ^ 51 + 256) * D < c → T * D < c
      high T K D c e h k = lt_of_le_of_lt (mul-le-mul_right D (under T K e h)) k
        where
          under : (T K : ℕ) → T ≡ 3 * 2 ^ 51 + K → K < 256 → T ≤ 3 * 2 ^ 51 + 256
          under T K e h = omega arith

      last : (g K : ℕ) → K < 256 → (g * 2 ^ 52 + (3 * 2 ^ 51 + K)) % 256 ≡ K
      last g K h = omega arith

  -- the middle of the cell, which is exact: p - q is K * D
  record Middle (x : Float) : Type 0 where
    pub p : ℕ
    pub q : ℕ
    pub value : Val binary64 x p q
    pub is : p ≡ q + K * D

  exactly : (s : Bool) (z w i : ℕ) → w < 2 ^ 53 → i ≤ g → z ≡ w * 2 ^ i → HasValue (round binary64 s z (1 * 2 ^ 1074)) s z (2 ^ 1074)
  exactly s z w i h k e = round_exact binary64 s z (1 * 2 ^ 1074) w i (lit< tt) h (lt_of_lt_of_le (mul-lt-mul_of_pos_right h (pow_pos i)) (le_trans (le_of_eq (sym (pow-add 2 53 i))) (pow_mono (room i g k ok.room)))) (ap (λ (y : ℕ). y * 2 ^ 1074) e)
    where
      room : (i g : ℕ) → i ≤ g → g ≤ 1074 → 53 + i ≤ 2098
      room i g h k = omega arith

  middle_is : Middle (sub binary64 t σ)
  middle_is =
      let r = sub_rounds binary64 t σ (sum_rounded.T * D) 0 B 0 (subst (λ (z : ℕ). Val binary64 t z 0) refl (plain binary64 t false (sum_rounded.T * D) sum_rounded.is)) ok.is in
      subst (λ (z : Float). Middle z) (sym r.is) (go r.sign r.size (subst (λ (z : ℕ). cond r.sign (0 + B) (z * D + 0) ≡ cond r.sign (z * D + 0) (0 + B) + r.size) K-is r.by))
    where
      back : (b K D z : ℕ) → (b + K) * D + 0 ≡ 0 + b * D + z → z ≡ K * D
      back b K D z e = omega arith

      none : (b K D z : ℕ) → 0 + b * D ≡ (b + K) * D + 0 + z → z ≡ K * D
      none b K D z e = omega arith

      zero' : (b K D z : ℕ) → 0 + b * D ≡ (b + K) * D + 0 + z → 0 ≡ z + K * D
      zero' b K D z e = omega arith

      small' : K < 2 ^ 53
      small' = le_trans (le_trans K-few cap) (lit≤ tt)

      go : (s : Bool) (z : ℕ) → cond s (0 + B) ((base + K) * D + 0) ≡ cond s ((base + K) * D + 0) (0 + B) + z → Middle (round binary64 s z (1 * 2 ^ 1074))
      go true z e = record { p = 0; q = z; value = plain binary64 (round binary64 true z (1 * 2 ^ 1074)) true z (exactly true z K g small' (le_refl g) (none base K D z e)); is = zero' base K D z e }
      go false z e = record { p = z; q = 0; value = plain binary64 (round binary64 false z (1 * 2 ^ 1074)) false z (exactly false z K g small' (le_refl g) (back base K D z e)); is = back base K D z e ∙ sym (native.Mathlib.Nat.zero-add (K * D)) }

  record Multiple (z : ℕ) : Type 0 where
    pub w : ℕ
    pub i : ℕ
    pub less : w < 2 ^ 53
    pub upto : i ≤ g
    pub is : z ≡ w * 2 ^ i

  -- what is left is a multiple of the number's own last place, and no larger than the number
  multiple : (s : Bool) (z : ℕ) → cond s (K * D) A ≡ cond s A (K * D) + z → Multiple z
  multiple s z e = by (leb j g) (leb→le j g) (nleb→lt j g)
    where
      none : (x K D z : ℕ) (s : Bool) → 0 < D → 2 * (K * D) ≤ 2 * (x * D) + D → 2 * (x * D) ≤ 2 * (K * D) + D → cond s (K * D) (x * D) ≡ cond s (x * D) (K * D) + z → z ≡ 0 * 2 ^ 0
      none x K D z s p u o e = only s e
        where
          half : (x K : ℕ) → 2 * K ≤ 2 * x + 1 → 2 * x ≤ 2 * K + 1 → x ≡ K
          half x K h k = omega arith

          same : x ≡ K
          same = half x K (le_of_mul-le-mul_right {m = 2 * K} {n = 2 * x + 1} {k = D} (omega arith) p) (le_of_mul-le-mul_right {m = 2 * x} {n = 2 * K + 1} {k = D} (omega arith) p)

          only : (s : Bool) → cond s (K * D) (x * D) ≡ cond s (x * D) (K * D) + z → z ≡ 0 * 2 ^ 0
          only true e = let f : x * D ≡ K * D = ap (λ (y : ℕ). y * D) same in omega arith
          only false e = let f : x * D ≡ K * D = ap (λ (y : ℕ). y * D) same in omega arith

      -- |A - K D| ≤ A
      inside : (A K D z : ℕ) (s : Bool) → 2 * (K * D) ≤ 2 * A + D → 2 * A ≤ 2 * (K * D) + D → cond s (K * D) A ≡ cond s A (K * D) + z → z ≤ A
      inside A zero D z true u o e = omega arith
      inside A zero D z false u o e = omega arith
      inside A (suc K) D z true u o e = omega arith
      inside A (suc K) D z false u o e = omega arith

      part : (m k p z : ℕ) (s : Bool) → cond s (k * p) (m * p) ≡ cond s (m * p) (k * p) + z → z ≡ cond s (k - m) (m - k) * p
      part m k p z true e = off (k * p) (m * p) z e ∙ sym (sub_mul k m p)
        where
          off : (x y z : ℕ) → x ≡ y + z → z ≡ x - y
          off x y z e = omega arith

          sub_mul : (x y p : ℕ) → (x - y) * p ≡ x * p - y * p
          sub_mul x y p = mul_comm (x - y) p ∙ native.Mathlib.Nat.mul-sub p x y ∙ ap (λ (t : ℕ). t - p * y) (mul_comm p x) ∙ ap (λ (t : ℕ). x * p - t) (mul_comm p y)
      part m k p z false e = off (m * p) (k * p) z e ∙ sym (sub_mul m k p)
        where
          off : (x y z : ℕ) → x ≡ y + z → z ≡ x - y
          off x y z e = omega arith

          sub_mul : (x y p : ℕ) → (x - y) * p ≡ x * p - y * p
          sub_mul x y p = mul_comm (x - y) p ∙ native.Mathlib.Nat.mul-sub p x y ∙ ap (λ (t : ℕ). t - p * y) (mul_comm p x) ∙ ap (λ (t : ℕ). x * p - t) (mul_comm p y)

      split : (x y : ℕ) → y ≤ x → 2 ^ x ≡ 2 ^ (x - y) * 2 ^ y
      split x y h = ap (λ (z : ℕ). 2 ^ z) (join x y h) ∙ pow-add 2 (x - y) y
        where
          join : (a b : ℕ) → b ≤ a → a ≡ a - b + b
          join a b h = omega arith

      by : (b : Bool) → (T b → j ≤ g) → (T (not b) → g < j) → Multiple z
      by true y n =
          let r : ℕ = 2 ^ (g - j) in
          let k : K * D ≡ K * r * 2 ^ j = ap (λ (x : ℕ). K * x) (split g j (y tt)) ∙ sym (mul_assoc K r (2 ^ j)) in
          let w : ℕ = cond s (K * r - m) (m - K * r) in
          let is : z ≡ w * 2 ^ j = part m (K * r) (2 ^ j) z s (subst (λ (x : ℕ). cond s x A ≡ cond s A x + z) k e) in
          record { w = w; i = j; less = lt_of_le_of_lt (le_of_mul-le-mul_right {m = w} {n = m} {k = 2 ^ j} (le_trans (le_of_eq (sym is)) (inside A K D z s K-under K-over e)) (pow_pos j)) small; upto = y tt; is = is }
      by false y n =
          let x : ℕ = m * 2 ^ (j - g) in
          let k : A ≡ x * D = ap (λ (z : ℕ). m * z) (split j g (le_of_lt (n tt))) ∙ sym (mul_assoc m (2 ^ (j - g)) D) in
          record { w = 0; i = 0; less = lit< tt; upto = zero-le; is = none x K D z s (pow_pos g) (subst (λ (z : ℕ). 2 * (K * D) ≤ 2 * z + D) k K-under) (subst (λ (z : ℕ). 2 * z ≤ 2 * (K * D) + D) k K-over) (subst (λ (u : ℕ). cond s (K * D) u ≡ cond s u (K * D) + z) k e) }

  pub in_cell : Cell σ g few a A
  unfolding offset t
  in_cell =
      let c = middle_is in
      let r = sub_rounds binary64 a (sub binary64 t σ) A 0 c.p c.q val c.value in
      go c.p c.q c.is r.sign r.size r.is r.by
    where
      plainly : (p q k a z : ℕ) (s : Bool) → p ≡ q + k → cond s (0 + p) (a + q) ≡ cond s (a + q) (0 + p) + z → cond s k a ≡ cond s a k + z
      plainly p q k a z true e f = omega arith
      plainly p q k a z false e f = omega arith

      middle' : (k a z : ℕ) (s : Bool) → cond s k a ≡ cond s a k + z → a + cond s z 0 ≡ k + cond s 0 z
      middle' k a z true e = omega arith
      middle' k a z false e = omega arith

      near' : (k a z d : ℕ) (s : Bool) → 2 * k ≤ 2 * a + d → 2 * a ≤ 2 * k + d → cond s k a ≡ cond s a k + z → 2 * (cond s 0 z + cond s z 0) ≤ d
      near' k a z d true u o e = omega arith
      near' k a z d false u o e = omega arith

      go : (p q : ℕ) → p ≡ q + K * D → (s : Bool) (z : ℕ) → offset σ a ≡ round binary64 s z (1 * 2 ^ 1074) → cond s (0 + p) (A + q) ≡ cond s (A + q) (0 + p) + z → Cell σ g few a A
      go p q e s z is by =
          let f : cond s (K * D) A ≡ cond s A (K * D) + z = plainly p q (K * D) A z s e by in
          let x = multiple s z f in
          record {
            k = K;
            is_few = K-few;
            cell_is = cell_is;
            hp = cond s 0 z;
            hq = cond s z 0;
            val = subst (λ (y : Float). Val binary64 y (cond s 0 z) (cond s z 0)) (sym is) (plain binary64 (round binary64 s z (1 * 2 ^ 1074)) s z (exactly s z x.w x.i x.less x.upto x.is));
            middle = middle' (K * D) A z s f;
            near = near' (K * D) A z D s K-under K-over f;
            number = a_number t (sum_rounded.T * D) sum_rounded.is;
          }
