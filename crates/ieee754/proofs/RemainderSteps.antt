-- The remainder of a value by one that is not larger in size is a whole number of the divisor's last places: so it is exact, it is below the divisor, and
-- where it is negative it is not nearer to 0 than one such place. For any format and a divisor of `prec` digits. Assumes nothing.
use Rattle.std.proofs.Common.{◌≡◌, ℕ, ◌+◌, ◌-◌, ◌*◌, ◌/◌, ◌%◌, ◌^◌, ◌<◌, ◌≤◌, Bool, true, false, not, T, ℤ, sym, refl, ap, ◌∙◌, subst, inl, inr, true≢false, le_trans, le_of_eq, lt_of_lt_of_le, le_of_lt, mul-le-mul_right, mod-lt, mod-eq_of_lt, mul_assoc, mul_comm, add-mul, add_comm, mul-lt-mul_of_pos_right, mul-pos, one-mul, div-add-mod', mul_right_comm, not-le_of_lt, le_of_mul-le-mul_right, arith, ltb→lt, lt→ltb, pow_pos}
use native.Mathlib.Nat.{add-mul-mod_self_right}
use lib.Dec.{not_T}
use lib.Ieee.{Float, nan, inf, fin, Format, prec, low, up, down, neg, lt, le, is_nan, round, rem, fits}
use lib.Ieee.Fits.{up_pos, down_pos, two, two-le_pos}
use lib.Ieee.Exact.{HasValue, round_exact}
use lib.Ieee.Order.{le_of_values}
use lib.Ieee.Scale.{finite}
use lib.Ieee.Positive.{positive, above, above_of_le, first_pos, positive_of_value, value_pos, values_of_le}
use Rattle.ieee754_rounding.proofs.Comparison.{lt_or_le}
use Rattle.ieee754_rounding.proofs.FloatOrder.{neg_le, lt_not_le, lt_of_not_le}
use Rattle.ieee754_rounding.proofs.FormatValues.{grid_of, split_power, fewer_places, rescale}
use Rattle.ieee754_rounding.proofs.Opposites.{neg_neg}
use Rattle.ieee754.specs.Sign.{plus_zero}
use Rattle.ieee754.proofs.SmallRemainder.{rem_is, rem_below}

-- a factor that both have
pub mul_mod : (a b c : ℕ) → 0 < b → 0 < c → a * c % (b * c) ≡ a % b * c
mul_mod a b c bp cp =
    ap (λ (z : ℕ). z % (b * c)) (ap (λ (z : ℕ). z * c) (sym (div-add-mod' a b) ∙ add_comm (a / b * b) (a % b)) ∙ add-mul (a % b) (a / b * b) c ∙ ap (λ (z : ℕ). a % b * c + z) (mul_assoc (a / b) b c))
    ∙ add-mul-mod_self_right (a % b * c) (a / b) (b * c)
    ∙ mod-eq_of_lt (mul-lt-mul_of_pos_right (mod-lt a bp) cp)

-- y is n * 2 ^ i units, n having `prec` digits; a unit is the format's smallest value
pub record Digits (f : Format) (y : Float) (n i : ℕ) : Type 0 where
  pub value : HasValue y false (n * 2 ^ i) (2 ^ low f)
  pub full : 2 ^ (prec f - 1) ≤ n
  pub short : n < 2 ^ prec f

digits_pos : (f : Format) (y : Float) (n i : ℕ) → Digits f y n i → 0 < n
digits_pos f y n i v = lt_of_lt_of_le (pow_pos (prec f - 1)) v.full

-- r is a whole number, below n, of 2 ^ i units
record Stepped (f : Format) (r : Float) (s : Bool) (n i : ℕ) : Type 0 where
  count : ℕ
  few : count < n
  value : HasValue r s (count * 2 ^ i) (2 ^ low f)

-- what is not below n * 2 ^ i has no smaller places
pub aligned : (p m j n i : ℕ) → 0 < p → m < 2 ^ p → 2 ^ (p - 1) ≤ n → n * 2 ^ i ≤ m * 2 ^ j → i ≤ j
aligned p m j n i P small full h = elim (lt_or_le j i) [
  | inl a ↦ absurd (not-le_of_lt (lt_of_lt_of_le (mul-lt-mul_of_pos_right small (pow_pos j)) (le_trans (fewer_places p i j P a) (mul-le-mul_right (2 ^ i) full))) h)
  | inr a ↦ a
]

module _ (f : Format) (s : Bool) (m : ℕ) (e : ℤ) (k : ℕ) (d : ℤ) (n i : ℕ) (t : T (fits f (fin s m e))) (v : Digits f (fin false k d) n i) where
  abbrev A : ℕ
  A = m * up e * down d

  abbrev B : ℕ
  B = k * up d * down e

  abbrev C : ℕ
  C = down e * down d

  divisor_pos : 0 < k
  divisor_pos = ltb→lt 0 k (positive_of_value (fin false k d) (n * 2 ^ i) (2 ^ low f) v.value (mul-pos (digits_pos f (fin false k d) n i v) (pow_pos i)))

  stepped : B ≤ A → Stepped f (rem f (fin s m e) (fin false k d)) s n i
  stepped h =
      let g = grid_of f s m e t in
      let j = g.places in
      let l = 2 ^ low f in
      let cp : 0 < C = mul-pos (down_pos e) (down_pos d) in
      let np = digits_pos f (fin false k d) n i v in
      let a : A * l ≡ m * 2 ^ j * C = mul_right_comm (m * up e) (down d) l ∙ ap (λ (z : ℕ). z * down d) g.is ∙ mul_assoc (m * 2 ^ j) (down e) (down d) in
      let b : B * l ≡ n * 2 ^ i * C =
      mul_right_comm (k * up d) (down e) l ∙ ap (λ (z : ℕ). z * down e) v.value.1 ∙ mul_assoc (n * 2 ^ i) (down d) (down e) ∙ ap (λ (z : ℕ). n * 2 ^ i * z) (mul_comm (down d) (down e)) in
      let least : n * 2 ^ i ≤ m * 2 ^ j = le_of_mul-le-mul_right (le_trans (le_of_eq (sym b)) (le_trans (mul-le-mul_right l h) (le_of_eq a))) cp in
      let q = m * 2 ^ (j - i) in
      let split : m * 2 ^ j ≡ q * 2 ^ i = split_power m j i (aligned (prec f) m j n i (two-le_pos (prec f) (two f)) g.small v.full least) in
      let r = q % n in
      let is : A % B * l ≡ r * 2 ^ i * C =
      sym (mul_mod A B l (mul-pos (mul-pos divisor_pos (up_pos d)) (down_pos e)) (pow_pos (low f)))
      ∙ ap (λ (z : ℕ). z % (B * l)) (a ∙ ap (λ (z : ℕ). z * C) split ∙ mul_assoc q (2 ^ i) C)
      ∙ ap (λ (z : ℕ). q * (2 ^ i * C) % z) (b ∙ mul_assoc n (2 ^ i) C)
      ∙ mul_mod q n (2 ^ i * C) np (mul-pos (pow_pos i) cp)
      ∙ sym (mul_assoc r (2 ^ i) C) in
      let few : r < n = mod-lt q np in
      record {
        count = r;
        few = few;
        value = subst (λ (z : Float). HasValue z s (r * 2 ^ i) l) (sym (rem_is f s false m k e d divisor_pos))
            (rescale (round f s (A % B) C) s (A % B) C (r * 2 ^ i) l cp (sym is)
            (round_exact f s (A % B) C r i cp (lt_of_lt_of_le few (le_of_lt v.short))
            (lt_of_lt_of_le (mul-lt-mul_of_pos_right few (pow_pos i)) (le_trans least (le_of_lt g.fine))) is));
      }

-- ---- signs of a value
upward : (r : Float) (s : Bool) (a c : ℕ) → HasValue r s a c → T (above r) → T (positive r) × HasValue r false a c
upward nan s a c v h = absurd v
upward (inf t) s a c v h = absurd v
upward (fin true m e) s a c v h = absurd h
upward (fin false m e) s a c v h = (h, (refl, v.1))

downward : (r : Float) (s : Bool) (a c : ℕ) → HasValue r s a c → T (lt r plus_zero) → T (positive (neg r)) × HasValue (neg r) false a c
unfolding lt neg
downward nan s a c v h = absurd v
downward (inf t) s a c v h = absurd v
downward (fin true m e) s a c v h = (lt→ltb 0 m (first_pos m (up e) (no_more (m * up e) (down e) (ltb→lt 0 (m * up e * 1 + 0 * 1 * down e) h))), (refl, v.1))
  where
    no_more : (a d : ℕ) → 0 < a * 1 + 0 * 1 * d → 0 < a
    no_more a d h = omega arith
downward (fin false m e) s a c v h = absurd (none (m * up e) (down e) (ltb→lt (m * up e * 1) (0 * 1 * down e) h))
  where
    none : (a d : ℕ) → a * 1 < 0 * 1 * d → ⊥
    none a d h = omega arith

below_size : (s : Bool) (m n : ℕ) (e d : ℤ) → m * up e * down d < n * up d * down e → T (lt (fin s m e) (fin false n d))
unfolding lt
below_size true m n e d h = lt→ltb 0 (m * up e * down d + n * up d * down e) (more (m * up e * down d) (n * up d * down e) h)
  where
    more : (a b : ℕ) → a < b → 0 < a + b
    more a b h = omega arith
below_size false m n e d h = lt→ltb (m * up e * down d) (n * up d * down e) h

number : (x : Float) (s : Bool) (a c : ℕ) → HasValue x s a c → T (not (is_nan x))
unfolding is_nan
number nan s a c v = absurd v
number (inf t) s a c v = absurd v
number (fin t m e) s a c v = tt

-- ---- a remainder of steps is below the divisor, and where it is negative it is a step below 0 at least
steps_below : (f : Format) (r y : Float) (s : Bool) (n i : ℕ) → Digits f y n i → Stepped f r s n i → T (lt r y)
steps_below f r y s n i v w = lt_of_not_le y r (number y false (n * 2 ^ i) (2 ^ low f) v.value) (number r s (w.count * 2 ^ i) (2 ^ low f) w.value) (not_T (le y r) clash)
  where
    clash : T (le y r) → ⊥
    clash h =
        let p = positive_of_value y (n * 2 ^ i) (2 ^ low f) v.value (mul-pos (digits_pos f y n i v) (pow_pos i)) in
        let u = upward r s (w.count * 2 ^ i) (2 ^ low f) w.value (above_of_le y r p h) in
        let c = values_of_le y r (n * 2 ^ i) (2 ^ low f) (w.count * 2 ^ i) (2 ^ low f) p u.0 v.value u.1 h in
        not-le_of_lt w.few (le_of_mul-le-mul_right (le_of_mul-le-mul_right c (pow_pos (low f))) (pow_pos i))

steps_apart : (f : Format) (r step : Float) (s : Bool) (n i : ℕ) → HasValue step false (2 ^ i) (2 ^ low f) → Stepped f r s n i → T (lt r plus_zero) → T (lt (neg step) r) → ⊥
steps_apart f r step s n i u w h k =
    let l = 2 ^ low f in
    let d = downward r s (w.count * 2 ^ i) l w.value h in
    let one : 0 < w.count = first_pos w.count (2 ^ i) (value_pos (neg r) (w.count * 2 ^ i) l d.0 (pow_pos (low f)) d.1) in
    let most : 2 ^ i * l ≤ w.count * 2 ^ i * l = mul-le-mul_right l (le_trans (le_of_eq (sym (one-mul (2 ^ i)))) (mul-le-mul_right (2 ^ i) one)) in
    let far = neg_le step (neg r) (le_of_values step (neg r) (2 ^ i) l (w.count * 2 ^ i) l (pow_pos (low f)) (pow_pos (low f)) u d.1 most) in
    lt_not_le (neg step) r k (subst (λ (z : Float). T (le z (neg step))) (neg_neg r) far)

-- ---- the two laws
pub remainder_below : (f : Format) (x y : Float) (n i : ℕ) → T (fits f x) → T (finite x) → Digits f y n i → T (lt (rem f x y) y)
remainder_below f nan y n i t p v = absurd p
remainder_below f (inf s) y n i t p v = absurd p
remainder_below f (fin s m e) nan n i t p v = absurd v.value
remainder_below f (fin s m e) (inf r) n i t p v = absurd v.value
remainder_below f (fin s m e) (fin true k d) n i t p v = absurd (true≢false v.value.0)
remainder_below f (fin s m e) (fin false k d) n i t p v = elim (lt_or_le (m * up e * down d) (k * up d * down e)) [
  | inl h ↦ subst (λ (z : Float). T (lt z (fin false k d))) (rem_below f s false m k e d t h) (below_size s m k e d h)
  | inr h ↦ steps_below f (rem f (fin s m e) (fin false k d)) (fin false k d) s n i v (stepped f s m e k d n i t v h)
]

-- one that is negative and nearer to 0 than the divisor's last place is x itself
pub tiny_remainder : (f : Format) (x y step : Float) (n i : ℕ) → T (fits f x) → T (finite x) → Digits f y n i → HasValue step false (2 ^ i) (2 ^ low f)
    → T (lt (rem f x y) plus_zero) → T (lt (neg step) (rem f x y)) → x ≡ rem f x y
tiny_remainder f nan y step n i t p v u h g = absurd p
tiny_remainder f (inf s) y step n i t p v u h g = absurd p
tiny_remainder f (fin s m e) nan step n i t p v u h g = absurd v.value
tiny_remainder f (fin s m e) (inf r) step n i t p v u h g = absurd v.value
tiny_remainder f (fin s m e) (fin true k d) step n i t p v u h g = absurd (true≢false v.value.0)
tiny_remainder f (fin s m e) (fin false k d) step n i t p v u h g = elim (lt_or_le (m * up e * down d) (k * up d * down e)) [
  | inl l ↦ rem_below f s false m k e d t l
  | inr l ↦ absurd (steps_apart f (rem f (fin s m e) (fin false k d)) step s n i u (stepped f s m e k d n i t v l) h g)
]
