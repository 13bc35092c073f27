-- How far `round` can be from what it rounds: half of the last digit that it keeps. Over whole numbers, in either format. Assumes nothing.
use mathlib.Core.Path.{◌≡◌, refl, sym, ap, ◌∙◌, subst}
use mathlib.Core.Logic.{inl, inr}
use mathlib.Core.Bool.{Bool}
use Prim.Native.Nat.{ℕ, suc, ◌+◌, ◌-◌, ◌*◌, ◌/◌, ◌%◌, ◌^◌, ◌≤◌, ◌<◌, zero-le, suc-le-suc, compare, Ordering}
use native.Mathlib.Nat.{div-lt_iff_lt-mul, sub-le, one-mul, pow-succ', lt_of_le_of_lt, le_of_mul-le-mul_right, le_of_mul-le-mul_left, le_trans, le_of_eq, eq-zero-or-pos, mod-lt, mul_comm, mul_assoc, mul_left_comm, mul_right_comm, add-mul, mul-add, mul-one, mul-le-mul_right, mul-le-mul_left, mul-pos, div-add-mod', div-mul-le_self, suc-mul}
use native.Mathlib.Omega.{arith}
use lib.Pow.{pow-add, pow_pos, pow_mono}
use lib.Ieee.{Float, Format, prec, emax, low, size, nearest, round}
use lib.Ieee.Digits.{size_reaches, size-le}
use lib.Ieee.Fits.{two, two-le_pos, round_is}
use lib.Ieee.Exact.{HasValue, units_val}
use lib.Ieee.Nearest.{closest}
use lib.Ieee.Order.{drop, kept}
use lib.Ieee.Scale.{grid, overflow}
use Rattle.ieee754_rounding.specs.Code.Errors.{Within}
use Rattle.ieee754_rounding.proofs.Comparison.{Cmp, cmp}

-- ---- a fraction rounded to a whole number is off by half at most: |c * b - a| ≤ b / 2
even_ge : (q b : ℕ) → (q + q % 2) * b ≡ q * b + q % 2 * b
even_ge q b = add-mul q (q % 2) b

bit : (q b : ℕ) → q % 2 * b ≤ b
bit q b = le_trans (mul-le-mul_right b (small q)) (le_of_eq (one b))
  where
    small : (k : ℕ) → k % 2 ≤ 1
    small k = omega arith

    one : (k : ℕ) → 1 * k ≡ k
    one k = omega arith

nearest_within : (q r b : ℕ) (o : Ordering) → r < b → Cmp o (r * 2) b → Within b (2 * (nearest q o * b)) (2 * (q * b + r))
nearest_within q r b Ordering.lt R h = record { under = omega arith; over = omega arith }
nearest_within q r b Ordering.eq R h =
    record { under = omega (arith, even_ge q b, bit q b); over = omega (arith, even_ge q b, bit q b) }
nearest_within q r b Ordering.gt R h =
    record { under = omega (arith, suc-mul q b); over = omega (arith, suc-mul q b) }

pub closest_within : (a b : ℕ) → 0 < b → Within b (2 * (closest a b * b)) (2 * a)
closest_within a b B =
    subst (λ (z : ℕ). Within b (2 * (closest a b * b)) (2 * z)) (div-add-mod' a b)
    (nearest_within (a / b) (a % b) b (compare (a % b * 2) b) (mod-lt a B) (cmp (a % b * 2) b))

-- ---- `grid f a c`, the rounded a / c in units of the format's smallest value, is within half of 2 ^ drop units
module _ (f : Format) (a c : ℕ) (C : 0 < c) where
  abbrev n : ℕ
  n = a * 2 ^ low f

  abbrev k : ℕ
  k = drop (prec f) n c

  pub grid_within : Within (c * 2 ^ k) (2 * (grid f a c * c)) (2 * n)
  grid_within =
      subst (λ (z : ℕ). Within (c * 2 ^ k) (2 * z) (2 * n)) (mul_left_comm (kept (prec f) n c) c (2 ^ k) ∙ mul_comm c (kept (prec f) n c * 2 ^ k))
      (closest_within n (c * 2 ^ k) (mul-pos C (pow_pos k)))

  used : (z p : ℕ) → 0 < p → 0 < z - p → p - 1 + (z - p) < z
  used z p P h = omega arith

  -- what is dropped is below n / c by a factor 2 ^ (prec - 1), unless nothing is: 2 ^ k * 2 ^ (prec - 1) ≤ n / c + 2 ^ (prec - 1)
  pub drop_small : 2 ^ (prec f - 1) * (c * 2 ^ k) ≤ n + 2 ^ (prec f - 1) * c
  drop_small = elim (eq-zero-or-pos k) [
    | inl e ↦ subst (λ (z : ℕ). 2 ^ (prec f - 1) * (c * 2 ^ z) ≤ n + 2 ^ (prec f - 1) * c) (sym e) (zero-case (2 ^ (prec f - 1)) c n)
    | inr h ↦
        le_trans (le_of_eq (shuffle (2 ^ (prec f - 1)) c (2 ^ k)))
        (le_trans (mul-le-mul_right c (le_trans (le_of_eq (sym (pow-add 2 (prec f - 1) k))) (size_reaches (n / c) (prec f - 1 + k) (used (size (n / c)) (prec f) (two-le_pos (prec f) (two f)) h))))
        (le_trans (div-mul-le_self n c) (more n (2 ^ (prec f - 1) * c))))
  ]
    where
      shuffle : (x y z : ℕ) → x * (y * z) ≡ x * z * y
      shuffle x y z = simp (mul_assoc, mul_comm, mul_left_comm)

      more : (x y : ℕ) → x ≤ x + y
      more x y = omega arith

      zero-case : (x y z : ℕ) → x * (y * 2 ^ 0) ≤ z + x * y
      zero-case x y z = le_trans (le_of_eq (ap (λ (w : ℕ). x * w) (mul-one y))) (le-of-eq' z (x * y))
        where
          le-of-eq' : (u v : ℕ) → v ≤ u + v
          le-of-eq' u v = omega arith

  -- The relative form: |grid * c - n| * 2 ^ prec ≤ n + 2 ^ (prec - 1) * c. The last summand is half a unit of the smallest value, for what is subnormal.
  scaled : (x y d p q m w : ℕ) → p ≡ 2 * q → x * 2 ≤ y * 2 + d → q * d ≤ m + w → p * x ≤ p * y + (m + w)
  scaled x y d p q m w e h g =
      le_trans (le_of_eq (ap (λ (z : ℕ). z * x) e ∙ turn q x))
      (le_trans (mul-le-mul_left q h)
      (le_trans (le_of_eq (mul-add q (y * 2) d ∙ ap (λ (z : ℕ). z + q * d) (sym (turn q y) ∙ ap (λ (z : ℕ). z * y) (sym e))))
      (add q d (p * y) (m + w) g)))
    where
      turn : (u v : ℕ) → 2 * u * v ≡ u * (v * 2)
      turn u v = simp (mul_assoc, mul_comm, mul_left_comm)

      add : (u v s t : ℕ) → u * v ≤ t → s + u * v ≤ s + t
      add u v s t i = omega arith

  pub relative : Within (n + 2 ^ (prec f - 1) * c) (2 ^ prec f * (grid f a c * c)) (2 ^ prec f * n)
  relative =
      let g = grid_within in
      let e : 2 ^ prec f ≡ 2 * 2 ^ (prec f - 1) = twice f in
      record {
        under = scaled (grid f a c * c) n (c * 2 ^ k) (2 ^ prec f) (2 ^ (prec f - 1)) n (2 ^ (prec f - 1) * c) e (flip (grid f a c * c) n (c * 2 ^ k) g.under) drop_small;
        over = scaled n (grid f a c * c) (c * 2 ^ k) (2 ^ prec f) (2 ^ (prec f - 1)) n (2 ^ (prec f - 1) * c) e (flip n (grid f a c * c) (c * 2 ^ k) g.over) drop_small;
      }
    where
      twice : (g : Format) → 2 ^ prec g ≡ 2 * 2 ^ (prec g - 1)
      twice Format.binary32 = refl
      twice Format.binary64 = refl

      flip : (x y d : ℕ) → 2 * x ≤ 2 * y + d → x * 2 ≤ y * 2 + d
      flip x y d h = omega arith

-- ---- the rounded value, with its error: x = round f s a c is finite, has the sign s, is `grid` units in size, and
-- |grid * c - a * 2 ^ low| * 2 ^ prec ≤ a * 2 ^ low + 2 ^ (prec - 1) * c
abbrev pub Rounded : Format → Bool → ℕ → ℕ → Float → Type 0
Rounded f s a c x = (g : ℕ) × HasValue x s g (2 ^ low f) × Within (a * 2 ^ low f + 2 ^ (prec f - 1) * c) (2 ^ prec f * (g * c)) (2 ^ prec f * (a * 2 ^ low f))

pub round_near : (f : Format) (s : Bool) (a c : ℕ) → 0 < c → grid f a c < overflow f → Rounded f s a c (round f s a c)
round_near f s a c C h = (
  grid f a c,
  subst (λ (z : Float). HasValue z s (grid f a c) (2 ^ low f)) (sym (round_is f s a c)) (units_val f s (kept (prec f) (a * 2 ^ low f) c) (drop (prec f) (a * 2 ^ low f) c) h),
  relative f a c C,
)

-- a / c ≤ 2 ^ j with j < emax does not overflow
pub no_overflow : (f : Format) (a c j : ℕ) → 0 < c → j < emax f → a ≤ 2 ^ j * c → grid f a c < overflow f
no_overflow f a c j C J h =
    let l = 2 ^ low f in
    let n = a * l in
    let g = grid f a c in
    let q = 2 ^ (prec f - 1) in
    let r = relative f a c C in
    let top : n ≤ 2 ^ (low f + j) * c = le_trans (mul-le-mul_right l h) (le_of_eq (mul_right_comm (2 ^ j) c l ∙ ap (λ (z : ℕ). z * c) (mul_comm (2 ^ j) l ∙ sym (pow-add 2 (low f) j)))) in
    let g-le : g * c ≤ 2 * n + c = crude (g * c) n c (2 ^ prec f) q (pow_pos (prec f)) (half_le f) r.under in
    let g-le' : g * c ≤ (2 ^ suc (low f + j) + 1) * c =
    le_trans g-le (le-of-eq' n c (2 ^ (low f + j)) (2 ^ suc (low f + j)) (pow-succ' 2 (low f + j)) top) in
    lt_of_le_of_lt (le_of_mul-le-mul_right g-le' C) (subst (λ (z : ℕ). 2 ^ suc (low f + j) + 1 < 2 ^ z) (assoc (low f) (emax f)) (last (low f + j) (low f + emax f) (up_by (low f) j (emax f) J)))
  where
    assoc : (u v : ℕ) → u + v + 1 ≡ u + suc v
    assoc u v = omega arith

    half_le : (g : Format) → 2 ^ (prec g - 1) ≤ 2 ^ prec g
    half_le g = pow_mono (sub-le (prec g) 1)

    crude : (x y c p q : ℕ) → 0 < p → q ≤ p → p * x ≤ p * y + (y + q * c) → x ≤ 2 * y + c
    crude x y c p q P Q h =
        let a : y ≤ p * y = le_trans (le_of_eq (sym (one-mul y))) (mul-le-mul_right y P) in
        let b : q * c ≤ p * c = mul-le-mul_right c Q in
        let d : p * (2 * y + c) ≡ p * y + p * y + p * c = mul-add p (2 * y) c ∙ ap (λ (z : ℕ). z + p * c) (mul_left_comm p 2 y ∙ dbl (p * y)) in
        le_of_mul-le-mul_left (step (p * x) (p * y) (p * c) (q * c) y (p * (2 * y + c)) h a b d) P
      where
        dbl : (u : ℕ) → 2 * u ≡ u + u
        dbl u = omega arith

        step : (u v w z y t : ℕ) → u ≤ v + (y + z) → y ≤ v → z ≤ w → t ≡ v + v + w → u ≤ t
        step u v w z y t h a b d = omega arith

    le-of-eq' : (n c s t : ℕ) → t ≡ 2 * s → n ≤ s * c → 2 * n + c ≤ (t + 1) * c
    le-of-eq' n c s t e h =
        let x : (t + 1) * c ≡ 2 * (s * c) + c = add-mul t 1 c ∙ ap (λ (z : ℕ). z * c + 1 * c) e ∙ ap (λ (z : ℕ). z + 1 * c) (mul_assoc 2 s c) ∙ ap (λ (z : ℕ). 2 * (s * c) + z) (one-mul c) in
        omega arith

    up_by : (l j e : ℕ) → j < e → l + j < l + e
    up_by l j e h = omega arith

    last : (u v : ℕ) → u < v → 2 ^ suc u + 1 < 2 ^ (v + 1)
    last u v h =
        let a : 2 ^ suc u ≤ 2 ^ v = pow_mono h in
        let b : 2 ^ (v + 1) ≡ 2 ^ v * 2 = pow-add 2 v 1 in
        let d : 2 ^ 1 ≤ 2 ^ suc u = pow_mono (suc-le-suc zero-le) in
        omega arith

-- ---- the absolute form: below 2 ^ J units the error is at most half of 2 ^ (J - prec) units (of one unit where J is below prec)
within_more : (d d' x y : ℕ) → d ≤ d' → Within d x y → Within d' x y
within_more d d' x y h w = record { under = le_trans w.under (more y d d' h); over = le_trans w.over (more x d d' h) }
  where
    more : (z a b : ℕ) → a ≤ b → z + a ≤ z + b
    more z a b h = omega arith

pub absolute : (f : Format) (a c J : ℕ) → 0 < c → a * 2 ^ low f < 2 ^ J * c → Within (c * 2 ^ (J - prec f)) (2 * (grid f a c * c)) (2 * (a * 2 ^ low f))
absolute f a c J C h =
    let n = a * 2 ^ low f in
    within_more (c * 2 ^ drop (prec f) n c) (c * 2 ^ (J - prec f)) (2 * (grid f a c * c)) (2 * n)
    (mul-le-mul_left c (pow_mono (fewer (size (n / c)) J (prec f) (size-le (n / c) J ((div-lt_iff_lt-mul C).1 h)))))
    (grid_within f a c C)
  where
    fewer : (x y p : ℕ) → x ≤ y → x - p ≤ y - p
    fewer x y p h = omega arith
