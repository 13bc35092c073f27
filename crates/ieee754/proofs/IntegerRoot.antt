-- The definitions of specs/SquareRoot.antt: `root_digits (size n) n` is the whole part of √n, `round_root f n` is what a nearest whole root of the leading digits gives, and no value of the format is nearer to √n. Assumes nothing.
use Rattle.std.proofs.Common.{◌≡◌, ℕ, zero, suc, ◌+◌, ◌-◌, ◌*◌, ◌/◌, ◌^◌, ◌<◌, ◌≤◌, Bool, true, false, cond, not, T, leb, ◌⊎◌, sym, refl, ap, ◌∙◌, inl, inr, zero-le, le_trans, le_of_eq, lt_of_lt_of_le, le_of_suc-le-suc, lt_of_le_of_lt, mul-le-mul_right, mul_assoc, div-lt_iff_lt-mul, add-mul, mul-le-mul, le_antisymm, lt_of_mul-lt-mul_right, mul-le-mul_left, mul-lt-mul_of_pos_right, mul-pos, lt_of_not-le, mul-add, not-le_of_lt, div-mul-le_self, le_of_mul-le-mul_right, arith, leb→le, pow_pos, pow_mono, pow-add}
use Prim.Native.Nat.{compare, Ordering}
use native.Mathlib.Nat.{mul-mul-mul_comm, pow-succ'}
use lib.Dec.{nleb→lt}
use lib.Arith.{lt-one}
use lib.Ieee.{Format, prec, size, nearest, units}
use lib.Ieee.Digits.{size-lt}
use Rattle.ieee754.specs.SquareRoot.{root_digits, round_root}
use Rattle.ieee754.specs.Code.WholeRoot.{NearestRoot}
use Rattle.ieee754_rounding.proofs.Comparison.{Cmp, cmp}
use Rattle.ieee754.proofs.Patterns.{size_is}

-- ---- squares
sq_suc : (r : ℕ) → (r + 1) * (r + 1) ≡ r * r + 2 * r + 1
sq_suc r =
    let a : (r + 1) * (r + 1) ≡ (r + 1) * r + (r + 1) * 1 = mul-add (r + 1) r 1 in
    let b : (r + 1) * r ≡ r * r + 1 * r = add-mul r 1 r in
    omega arith

sq_dbl : (r : ℕ) → 2 * r * (2 * r) ≡ 4 * (r * r)
sq_dbl r =
    let a : 2 * r * (2 * r) ≡ 2 * 2 * (r * r) = mul-mul-mul_comm 2 r 2 r in
    omega arith

-- a * a ≤ b * b and the like, back to a ≤ b
pub sq_lt_back : (a b : ℕ) → a * a < b * b → a < b
sq_lt_back a b h = lt_of_not-le (λ (g : b ≤ a). not-le_of_lt h (mul-le-mul g g))

-- ---- the whole part of a root
pub record Whole (n r : ℕ) : Type 0 where
  pub low : r * r ≤ n
  pub high : n < (r + 1) * (r + 1)

step : (n r : ℕ) (b : Bool) → Whole (n / 4) r → (T b → (2 * r + 1) * (2 * r + 1) ≤ n) → (T (not b) → n < (2 * r + 1) * (2 * r + 1)) → Whole n (cond b (2 * r + 1) (2 * r))
step n r true w y z =
    let a = sq_suc r in
    let b = w.high in
    let c = sq_suc (2 * r + 1) in
    let d = sq_dbl r in
    let e = sq_suc (2 * r) in
    record { low = y tt; high = omega arith }
step n r false w y z =
    let d = sq_dbl r in
    let a = w.low in
    record { low = omega arith; high = z tt }

quarter : (n d : ℕ) → n < 4 * d → n / 4 < d
quarter n d h = omega arith

root_whole : (d n : ℕ) → n < 2 ^ (2 * d) → Whole n (root_digits d n)
unfolding root_digits
root_whole zero n h = let e : n ≡ 0 = lt-one h in record { low = zero-le; high = omega arith }
root_whole (suc d) n h =
    let q = 2 * root_digits d (n / 4) in
    let p : 2 ^ (2 * suc d) ≡ 4 * 2 ^ (2 * d) = ap (λ (z : ℕ). 2 ^ z) (two_more d) ∙ pow-add 2 2 (2 * d) in
    step n (root_digits d (n / 4)) (leb ((q + 1) * (q + 1)) n) (root_whole d (n / 4) (quarter n (2 ^ (2 * d)) (lt_of_lt_of_le h (le_of_eq p)))) (leb→le ((q + 1) * (q + 1)) n) (nleb→lt ((q + 1) * (q + 1)) n)
  where
    two_more : (k : ℕ) → 2 * suc k ≡ 2 + 2 * k
    two_more k = omega arith

pub isqrt_whole : (n : ℕ) → Whole n (root_digits (size n) n)
isqrt_whole n = root_whole (size n) n (lt_of_lt_of_le (size-lt n) (pow_mono (dbl (size n))))
  where
    dbl : (k : ℕ) → k ≤ 2 * k
    dbl k = omega arith

-- ---- r is the whole number nearest to √M. (√M is never halfway between two: (2 * r + 1) ^ 2 is odd and 4 * M is not.)
less_no : (M r t : ℕ) → NearestRoot M r → NearestRoot M t → r < t → ⊥
less_no M r t x y h =
    let a : (r + 1) * t ≤ t * t = mul-le-mul_right t (plus r t h) in
    let b : (r + 1) * t ≡ r * t + 1 * t = add-mul r 1 t in
    let c : r * (r + 1) ≤ r * t = mul-le-mul_left r (plus r t h) in
    let d : r * (r + 1) ≡ r * r + r * 1 = mul-add r r 1 in
    let e = x.above in
    let f = y.below in
    omega arith
  where
    plus : (u v : ℕ) → u < v → u + 1 ≤ v
    plus u v h = omega arith

pub near_unique : (M r t : ℕ) → NearestRoot M r → NearestRoot M t → r ≡ t
near_unique M r t x y = le_antisymm (le-of-not t r (less_no M t r y x)) (le-of-not r t (less_no M r t x y))
  where
    le-of-not : (u v : ℕ) → (u < v → ⊥) → v ≤ u
    le-of-not u v h = elim (le-or-lt v u) [ inl p ↦ p | inr q ↦ absurd (h q) ]
      where
        le-or-lt : (x y : ℕ) → (x ≤ y) ⊎ (y < x)
        le-or-lt x y = go (leb x y) (leb→le x y) (nleb→lt x y)
          where
            go : (b : Bool) → (T b → x ≤ y) → (T (not b) → y < x) → (x ≤ y) ⊎ (y < x)
            go true p q = inl (p tt)
            go false p q = inr (q tt)

-- ---- the size of a nearest root
pub near_lo : (H M r : ℕ) → H * H ≤ M → NearestRoot M r → H ≤ r
near_lo H M r h w = le_of_suc-le-suc (lt_of_not-le (λ (g : suc r ≤ H). no (mul-le-mul g g)))
  where
    no : suc r * suc r ≤ H * H → ⊥
    no a = let b = w.above in omega arith

pub near_hi : (H M r : ℕ) → M < H * H → NearestRoot M r → r ≤ H
near_hi H M r h w = le_of_suc-le-suc (lt_of_not-le (λ (g : suc H ≤ r). no (mul-le-mul_right r g) (mul-le-mul_left H g)))
  where
    no : suc H * r ≤ r * r → H * suc H ≤ H * r → ⊥
    no a c = let b = w.below in omega arith

-- from the whole part, and how √M compares with what lies halfway
sq_odd : (q : ℕ) → (2 * q + 1) * (2 * q + 1) ≡ 4 * (q * q) + 4 * q + 1
sq_odd q =
    let a = sq_suc (2 * q) in
    let b = sq_dbl q in
    omega arith

near_of : (M q : ℕ) (o : Ordering) → 0 < M → Whole M q → Cmp o (4 * M) ((2 * q + 1) * (2 * q + 1)) → NearestRoot M (nearest q o)
near_of M zero Ordering.lt P w h = record { above = let b = sq_odd 0 in omega arith; below = P' }
  where
    P' : 0 < M + 0
    P' = omega arith
near_of M (suc q) Ordering.lt P w h =
    let a = sq_odd (suc q) in
    let b = w.low in
    record { above = omega arith; below = omega arith }
near_of M q Ordering.eq P w h =
    let a = sq_odd q in
    absurd (odd_even M (q * q) q ((2 * q + 1) * (2 * q + 1)) h a)
  where
    odd_even : (m s q x : ℕ) → 4 * m ≡ x → x ≡ 4 * s + 4 * q + 1 → ⊥
    odd_even m s q x h a = omega arith
near_of M q Ordering.gt P w h =
    let a = sq_odd q in
    let b = sq_suc q in
    let c = w.high in
    let d : suc q * suc q ≡ (q + 1) * (q + 1) = ap (λ (z : ℕ). z * z) (one q) in
    record { above = omega arith; below = omega arith }
  where
    one : (k : ℕ) → suc k ≡ k + 1
    one k = omega arith

-- ---- n is M * 4 ^ k, with M of 2 * prec - 1 or 2 * prec digits
pub sq_mul : (a b : ℕ) → a * b * (a * b) ≡ a * a * (b * b)
sq_mul a b = mul-mul-mul_comm a b a b

module _ (f : Format) (M k n : ℕ) (is : n ≡ M * (2 ^ k * 2 ^ k)) (lo : 2 ^ (prec f - 1) * 2 ^ (prec f - 1) ≤ M) (hi : M < 2 ^ prec f * 2 ^ prec f) where
  i : ℕ
  i = root_digits (size n) n

  w : Whole n i
  unfolding i
  w = isqrt_whole n

  W : 0 < 2 ^ k * 2 ^ k
  W = mul-pos (pow_pos k) (pow_pos k)

  i_ge : 2 ^ (prec f - 1) * 2 ^ k ≤ i
  i_ge = less_one (2 ^ (prec f - 1) * 2 ^ k) i (sq_lt_back (2 ^ (prec f - 1) * 2 ^ k) (i + 1)
      (lt_of_le_of_lt (le_trans (le_of_eq (sq_mul (2 ^ (prec f - 1)) (2 ^ k))) (le_trans (mul-le-mul_right (2 ^ k * 2 ^ k) lo) (le_of_eq (sym is)))) w.high))
    where
      less_one : (a b : ℕ) → a < b + 1 → a ≤ b
      less_one a b h = omega arith

  i_lt : i < 2 ^ prec f * 2 ^ k
  i_lt = sq_lt_back i (2 ^ prec f * 2 ^ k)
      (lt_of_le_of_lt w.low (lt_of_le_of_lt (le_of_eq is) (lt_of_lt_of_le (mul-lt-mul_of_pos_right hi W) (le_of_eq (sym (sq_mul (2 ^ prec f) (2 ^ k)))))))

  drops : size i - prec f ≡ k
  drops = ap (λ (z : ℕ). z - prec f) (size_is i (prec f - 1 + k) (le_trans (le_of_eq (pow-add 2 (prec f - 1) k)) i_ge) (lt_of_lt_of_le i_lt (le_of_eq (sym (pow-add 2 (prec f) k) ∙ ap (λ (z : ℕ). 2 ^ z) (comm f k))))) ∙ off f k
    where
      comm : (g : Format) (j : ℕ) → prec g + j ≡ suc (prec g - 1 + j)
      comm Format.binary32 j = omega arith
      comm Format.binary64 j = omega arith

      off : (g : Format) (j : ℕ) → suc (prec g - 1 + j) - prec g ≡ j
      off Format.binary32 j = omega arith
      off Format.binary64 j = omega arith

  q : ℕ
  q = i / 2 ^ k

  -- what is kept of i is the whole part of √M
  q_whole : Whole M q
  unfolding q
  q_whole = record {
    low = le_of_mul-le-mul_right (le_trans (le_of_eq (sym (sq_mul (i / 2 ^ k) (2 ^ k)))) (le_trans (mul-le-mul (div-mul-le_self i (2 ^ k)) (div-mul-le_self i (2 ^ k))) (le_trans w.low (le_of_eq is)))) W;
    high = lt_of_mul-lt-mul_right (2 ^ k * 2 ^ k) (lt_of_le_of_lt (le_of_eq (sym is)) (lt_of_lt_of_le w.high (le_trans (mul-le-mul next next) (le_of_eq (sq_mul (i / 2 ^ k + 1) (2 ^ k))))));
  }
    where
      plus : (a b : ℕ) → a < b → a + 1 ≤ b
      plus a b h = omega arith

      self : (x : ℕ) → x < x + 1
      self x = omega arith

      next : i + 1 ≤ (i / 2 ^ k + 1) * 2 ^ k
      next = plus i ((i / 2 ^ k + 1) * 2 ^ k) ((div-lt_iff_lt-mul (pow_pos k)).0 (self (i / 2 ^ k)))

  o : Ordering
  o = compare (4 * n) ((2 * q + 1) * (2 * q + 1) * (2 ^ k * 2 ^ k))

  scale : (p : Ordering) → Cmp p (4 * n) ((2 * q + 1) * (2 * q + 1) * (2 ^ k * 2 ^ k)) → Cmp p (4 * M) ((2 * q + 1) * (2 * q + 1))
  scale Ordering.lt h = lt_of_mul-lt-mul_right (2 ^ k * 2 ^ k) (lt_of_le_of_lt (le_of_eq four) h)
    where
      four : 4 * M * (2 ^ k * 2 ^ k) ≡ 4 * n
      four = mul_assoc 4 M (2 ^ k * 2 ^ k) ∙ ap (λ (z : ℕ). 4 * z) (sym is)
  scale Ordering.eq h = native.Mathlib.Nat.eq_of_mul-eq-mul_right (2 ^ k * 2 ^ k) W (4 * M) ((2 * q + 1) * (2 * q + 1)) (mul_assoc 4 M (2 ^ k * 2 ^ k) ∙ ap (λ (z : ℕ). 4 * z) (sym is) ∙ h)
  scale Ordering.gt h = lt_of_mul-lt-mul_right (2 ^ k * 2 ^ k) (lt_of_lt_of_le h (le_of_eq four))
    where
      four : 4 * n ≡ 4 * M * (2 ^ k * 2 ^ k)
      four = ap (λ (z : ℕ). 4 * z) is ∙ sym (mul_assoc 4 M (2 ^ k * 2 ^ k))

  M-pos : 0 < M
  M-pos = lt_of_lt_of_le (mul-pos (pow_pos (prec f - 1)) (pow_pos (prec f - 1))) lo

  kept_near : NearestRoot M (nearest q o)
  unfolding o
  kept_near = near_of M q o M-pos q_whole (scale o (cmp (4 * n) ((2 * q + 1) * (2 * q + 1) * (2 ^ k * 2 ^ k))))

  opened : round_root f n ≡ units f false (nearest (i / 2 ^ (size i - prec f)) (compare (4 * n) ((2 * (i / 2 ^ (size i - prec f)) + 1) * (2 * (i / 2 ^ (size i - prec f)) + 1) * (2 ^ (size i - prec f) * 2 ^ (size i - prec f))))) (size i - prec f)
  unfolding round_root i
  opened = refl

  -- the definition's value, from any way to find the nearest root of M
  pub root_at : (r : ℕ) → NearestRoot M r → round_root f n ≡ units f false r k
  unfolding q o
  root_at r h =
      opened
      ∙ ap (λ (j : ℕ). units f false (nearest (i / 2 ^ j) (compare (4 * n) ((2 * (i / 2 ^ j) + 1) * (2 * (i / 2 ^ j) + 1) * (2 ^ j * 2 ^ j)))) j) drops
      ∙ ap (λ (z : ℕ). units f false z k) (near_unique M (nearest q o) r kept_near h)

  -- and there is one
  pub some_root : (r : ℕ) × NearestRoot M r
  some_root = (nearest q o, kept_near)
