-- When a sum cannot be -0. Two values of a format are whole numbers of its smallest value, so their sum does not round to zero unless it is
-- zero; and a zero sum is -0 only where both terms are. So a running sum that starts at +0 is never -0.
use mathlib.Core.Path.{◌≡◌, refl, ap, sym, ◌∙◌, subst}
use mathlib.Core.Bool.{Bool, true, false, not, ◌&&◌, cond}
use Prim.Native.Nat.{ℕ, zero, suc, ◌+◌, ◌*◌, ◌-◌, ◌%◌, ◌^◌, ◌≤◌, ◌<◌}
use native.Mathlib.Nat.{mul_comm, mul_assoc, mul-pos, mul-sub, lt_of_mul-lt-mul_left, mul-lt-mul_of_pos_right, mul-le-mul_left, mul-le-mul_right, le_trans, one-mul, zero-mul, mul-zero, mul-suc}
use native.Mathlib.Omega.{arith}
use native.Mathlib.Decide.{dec_lt}
use lib.Dec.{T, ltb, eqb, leb, leb→le, eqb→eq, ltb→lt}
use lib.Pow.{pow_pos, pow-lt, pow-add}
use borrow.Author.Tests.{ltb-true, ne_eqb}
use lib.IntN.{ℤ, pos, negsuc}
use lib.Ieee.{Float, nan, inf, fin, Format, binary32, binary64, up, down, low, prec, emax, neg, round, units, odd, sum, add, fits, size, span, climb}
use lib.Ieee.Fits.{up_pos, down_pos, and_l, and_r}
use lib.Ieee.Order.{round_mono}
use lib.Ieee.Positive.{positive, above, above_of_le}
use Rattle.ieee754_rounding.proofs.Opposites.{neg_round}

abbrev pub not_minus_zero : Float → Bool
not_minus_zero nan = true
not_minus_zero (inf s) = true
not_minus_zero (fin false m e) = true
not_minus_zero (fin true m e) = not (eqb m 0)

-- ---- what is rounded with the sign plus

plus_cond : (b : Bool) (x y : Float) → T (not_minus_zero x) → T (not_minus_zero y) → T (not_minus_zero (cond b x y))
plus_cond true x y h k = h
plus_cond false x y h k = k

plus_odd : (d q k l : ℕ) → T (not_minus_zero (odd d false q k l))
unfolding odd
plus_odd d zero k l = tt
plus_odd d (suc q) k l = tt

plus_units : (f : Format) (q k : ℕ) → T (not_minus_zero (units f false q k))
unfolding units
plus_units f q k =
    plus_cond (ltb (q * 2 ^ k) (2 ^ (low f + suc (emax f)))) (odd (suc (prec f)) false q k (low f)) (inf false)
    (plus_odd (suc (prec f)) q k (low f)) tt

plus_round : (f : Format) (n c : ℕ) → T (not_minus_zero (round f false n c))
unfolding round
plus_round f n c = plus_units f _ _

-- ---- a fraction of one smallest value or more does not round to zero

least : (f : Format) → T (positive (round f false 1 (2 ^ low f)))
unfolding round units odd size span climb
least binary32 = tt
least binary64 = tt

nonzero : (m : ℕ) → T (ltb 0 m) → T (not (eqb m 0))
nonzero m h = rw (ne_eqb m 0 (λ e. none (ltb→lt 0 m h) e)) tt
  where
    none : 0 < m → m ≡ 0 → ⊥
    none a b = omega arith

turned_above : (x : Float) → T (above x) → T (not_minus_zero (neg x))
unfolding neg
turned_above nan h = tt
turned_above (inf s) h = tt
turned_above (fin true m e) h = tt
turned_above (fin false m e) h = nonzero m h

minus_round : (f : Format) (n c : ℕ) → 0 < c → c ≤ n * 2 ^ low f → T (not_minus_zero (round f true n c))
minus_round f n c p h =
    let one : 1 * c ≤ n * 2 ^ low f = omega arith in
    let a = above_of_le (round f false 1 (2 ^ low f)) (round f false n c) (least f) (round_mono f 1 (2 ^ low f) n c (pow_pos (low f)) p one) in
    subst (λ (x : Float). T (not_minus_zero x)) (neg_round f false n c) (turned_above (round f false n c) a)

-- ---- a value of the format is a whole number of smallest values

pow_part : (k n : ℕ) → 2 ^ k ≤ 2 ^ n → 2 ^ n ≡ 2 ^ k * 2 ^ (n - k)
pow_part k n h = by (dec_lt n k)
  where
    by : Dec (n < k) → 2 ^ n ≡ 2 ^ k * 2 ^ (n - k)
    by (yes lt) = absurd (omega (arith, pow-lt lt))
    by (no ge) = let e : n ≡ k + (n - k) = omega arith in ap (λ (z : ℕ). 2 ^ z) e ∙ pow-add 2 k (n - k)

abbrev part : Format → ℤ → ℕ
part f (pos k) = 2 ^ low f
part f (negsuc k) = 2 ^ (low f - suc k)

fits_down : (f : Format) (s : Bool) (m : ℕ) (e : ℤ) → T (fits f (fin s m e)) → 2 ^ low f ≡ down e * part f e
unfolding fits
fits_down f s m (pos k) h = sym (one-mul (2 ^ low f))
fits_down f s zero (negsuc k) h = absurd (zero_no (2 ^ suc k) (eqb→eq (1 * 2 ^ suc k) 1 h) (two-le k))
  where
    zero_no : (x : ℕ) → 1 * x ≡ 1 → 2 ≤ x → ⊥
    zero_no x a b = omega arith

    two-le : (k : ℕ) → 2 ≤ 2 ^ suc k
    two-le k = omega (arith, pow-lt {i = 0} {j = suc k} (omega arith))
fits_down f s (suc m) (negsuc k) h =
    let a = eqb (suc m % 2) 1 in
    let b = ltb (suc m) (2 ^ prec f) in
    let c = leb (2 ^ suc k) (2 ^ low f) in
    let d = ltb (suc m * 1) (2 ^ suc (emax f) * 2 ^ suc k) in
    pow_part (suc k) (low f) (leb→le (2 ^ suc k) (2 ^ low f) (and_r (a && b) c (and_l (a && b && c) d h)))

counted : (f : Format) (s : Bool) (m : ℕ) (e : ℤ) (d : ℕ) → T (fits f (fin s m e)) → m * up e * d * 2 ^ low f ≡ down e * d * (m * up e * part f e)
counted f s m e d h = ap (λ (z : ℕ). m * up e * d * z) (fits_down f s m e h) ∙ swap (m * up e) d (down e) (part f e)
  where
    swap : (a d c x : ℕ) → a * d * (c * x) ≡ c * d * (a * x)
    swap a d c x =
        sym (mul_assoc (a * d) c x)
        ∙ ap (λ (z : ℕ). z * x) (mul_comm (a * d) c ∙ ap (λ (z : ℕ). c * z) (mul_comm a d) ∙ sym (mul_assoc c d a))
        ∙ mul_assoc (c * d) a x

-- two such that differ do so by a whole one
gap : (a b c l u v : ℕ) → a * l ≡ c * u → b * l ≡ c * v → a < b → 0 < l → c ≤ (b - a) * l
gap a b c l u v ea eb lt p =
    let g : a * l < b * l = mul-lt-mul_of_pos_right lt p in
    let g' : c * u < c * v = omega arith in
    let w : u < v = lt_of_mul-lt-mul_left c g' in
    let m : c * suc u ≤ c * v = mul-le-mul_left c w in
    let n : c * suc u ≡ c * u + c = mul-suc c u in
    let d : (b - a) * l ≡ b * l - a * l = mul_comm (b - a) l ∙ mul-sub l b a ∙ minus (mul_comm l b) (mul_comm l a) in
    omega arith
  where
    minus : {x y x' y' : ℕ} → x ≡ x' → y ≡ y' → x - y ≡ x' - y'
    minus e e' = rw (e, e')

-- ---- the sum

module _ (f : Format) where
  both_minus : (m n : ℕ) (e d : ℤ) → T (fits f (fin true m e)) → T (not (eqb m 0))
      → T (not_minus_zero (round f true (m * up e * down d + n * up d * down e) (down e * down d)))
  both_minus zero n e d h k = absurd k
  both_minus (suc m) n e d h k =
      let p : 0 < suc m * up e * down d = mul-pos (mul-pos (omega arith) (up_pos e)) (down_pos d) in
      let q =
      gap 0 (suc m * up e * down d) (down e * down d) (2 ^ low f) 0 (suc m * up e * part f e) (simp (zero-mul, mul-zero))
      (counted f true (suc m) e (down d) h) p (pow_pos (low f)) in
      let r : suc m * up e * down d * 2 ^ low f ≤ (suc m * up e * down d + n * up d * down e) * 2 ^ low f = mul-le-mul_right (2 ^ low f) (omega arith) in
      let z : suc m * up e * down d - 0 ≡ suc m * up e * down d = omega arith in
      minus_round f _ (down e * down d) (mul-pos (down_pos e) (down_pos d)) (le_trans (rw z at q) r)

  module _ (s t : Bool) (m n : ℕ) (e d : ℤ) (fx : T (fits f (fin s m e))) (fy : T (fits f (fin t n d))) where
    abbrev A : ℕ
    A = m * up e * down d

    abbrev B : ℕ
    B = n * up d * down e

    abbrev C : ℕ
    C = down e * down d

    first : A * 2 ^ low f ≡ C * (m * up e * part f e)
    first = counted f s m e (down d) fx

    second : B * 2 ^ low f ≡ C * (n * up d * part f d)
    second = counted f t n d (down e) fy ∙ ap (λ (z : ℕ). z * (n * up d * part f d)) (mul_comm (down d) (down e))

    second-larger : A < B → T (not_minus_zero (round f true (B - A) C))
    second-larger lt = minus_round f (B - A) C (mul-pos (down_pos e) (down_pos d)) (gap A B C (2 ^ low f) _ _ first second lt (pow_pos (low f)))

    first-larger : B < A → T (not_minus_zero (round f true (A - B) C))
    first-larger lt = minus_round f (A - B) C (mul-pos (down_pos e) (down_pos d)) (gap B A C (2 ^ low f) _ _ second first lt (pow_pos (low f)))

  -- by the two tests of a sum with different signs
  minus_plus : (a b c : ℕ) (p q : Bool) → ltb a b ≡ p → ltb b a ≡ q → (b < a → T (not_minus_zero (round f true (a - b) c)))
      → T (not_minus_zero (cond p (round f false (b - a) c) (round f q (a - b) c)))
  minus_plus a b c true q ep eq h = plus_round f (b - a) c
  minus_plus a b c false true ep eq h = h (ltb-true b a eq)
  minus_plus a b c false false ep eq h = plus_round f (a - b) c

  plus_minus : (a b c : ℕ) (p : Bool) → ltb a b ≡ p → (a < b → T (not_minus_zero (round f true (b - a) c)))
      → T (not_minus_zero (cond p (round f true (b - a) c) (round f false (a - b) c)))
  plus_minus a b c true ep h = h (ltb-true a b ep)
  plus_minus a b c false ep h = plus_round f (a - b) c

  pub add_not_minus_zero : (x y : Float) → T (fits f x) → T (fits f y) → T (not_minus_zero x) → T (not_minus_zero (add f x y))
  unfolding add sum
  add_not_minus_zero nan y fx fy h = tt
  add_not_minus_zero (inf s) nan fx fy h = tt
  add_not_minus_zero (inf true) (inf true) fx fy h = tt
  add_not_minus_zero (inf true) (inf false) fx fy h = tt
  add_not_minus_zero (inf false) (inf true) fx fy h = tt
  add_not_minus_zero (inf false) (inf false) fx fy h = tt
  add_not_minus_zero (inf s) (fin t n d) fx fy h = tt
  add_not_minus_zero (fin s m e) nan fx fy h = tt
  add_not_minus_zero (fin s m e) (inf t) fx fy h = tt
  add_not_minus_zero (fin true m e) (fin true n d) fx fy h = both_minus m n e d fx h
  add_not_minus_zero (fin true m e) (fin false n d) fx fy h = minus_plus _ _ _ _ _ refl refl (first-larger true false m n e d fx fy)
  add_not_minus_zero (fin false m e) (fin true n d) fx fy h = plus_minus _ _ _ _ refl (second-larger false true m n e d fx fy)
  add_not_minus_zero (fin false m e) (fin false n d) fx fy h = plus_round f _ _
