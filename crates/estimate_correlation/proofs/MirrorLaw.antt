-- The correlation sum for the lags j and i is that for i and j with the imaginary part's sign turned, and a zero stays +0.
use mathlib.Core.Path.{◌≡◌, refl, ap, sym, ◌∙◌}
use mathlib.Core.Bool.{Bool, true, false}
use mathlib.Core.List.{List}
use Prim.Native.Nat.{ℕ, zero, suc, ◌+◌, ◌*◌, ◌-◌, ◌^◌, ◌≤◌, ◌<◌}
use native.Mathlib.Nat.{zero-mul, mul-one, mul-pos}
use native.Mathlib.Omega.{arith}
use lib.Dec.{T, eqb, eqb→eq}
use lib.Pow.{pow-lt}
use lib.IntN.{ℤ, pos, negsuc}
use borrow.Author.Tests.{ne_eqb}
use lib.Ieee.{Float, nan, inf, fin, Format, binary64, up, down, neg, odd, mul, fits, of_bits, of_fields, eq}
use lib.Ieee.Fits.{up_pos, add-fits}
use Rattle.ieee754.specs.Binary64 as float
use Rattle.sums.specs.Ascending.{sum_from}
use Rattle.sums.specs.Complex.{Cx, zero_c, add_c, mul_c, conj}
use Rattle.sums.specs.Interleaved.{at}
use Rattle.ieee754_rounding.proofs.Commutation.{mul_commutes, add_commutes}
use Rattle.ieee754_rounding.proofs.Opposites as opposites
use Rattle.ieee754_rounding.proofs.Opposites.{Opposite, neg_neg, mul_neg, add_neg, add_opposite}
use Rattle.ieee754_rounding.proofs.MinusZero.{not_minus_zero, add_not_minus_zero}
use Rattle.estimate_correlation.specs.Correlation.{lag_sum}
use Rattle.estimate_correlation.specs.Code.RunningSums.{turned, lag_product}

-- ---- conjugates but for the sign of a zero, at any format

record Mirrored (x y : Cx) : Type 0 where
  re : x.0 ≡ y.0
  im : Opposite x.1 y.1

module _ (f : Format) where
  turn_both : (x y : Float) → mul f x (neg y) ≡ mul f y (neg x)
  turn_both x y = mul_neg f x y ∙ ap neg (mul_commutes f x y) ∙ sym (mul_neg f y x)

  term_mirrored : (a c : Cx) → Mirrored (mul_c f a (conj c)) (mul_c f c (conj a))
  term_mirrored a c =
      let e : neg (mul f a.0 (neg c.1)) ≡ mul f c.1 a.0 =
      ap neg (mul_neg f a.0 c.1) ∙ neg_neg (mul f a.0 c.1) ∙ mul_commutes f a.0 c.1 in
      let d : neg (mul f a.1 c.0) ≡ mul f c.0 (neg a.1) = ap neg (mul_commutes f a.1 c.0) ∙ sym (mul_neg f c.0 a.1) in
      let o = add_neg f (mul f a.0 (neg c.1)) (mul f a.1 c.0) in
      record {
        re = rw (mul_commutes f a.0 c.0, turn_both a.1 c.1);
        im = rw (e, d, add_commutes f (mul f c.1 a.0) (mul f c.0 (neg a.1))) at o;
      }

-- ---- the sums

zero_value : float.zero ≡ fin false 0 (pos 0)
unfolding of_bits of_fields odd
zero_value = refl

zero_mirrored : Mirrored (zero_c binary64) (zero_c binary64)
unfolding of_bits of_fields odd
zero_mirrored = record { re = refl; im = opposites.zeros false false (pos 0) (pos 0) }

sums_mirrored : (g h : ℕ → Cx) → ((k : ℕ) → Mirrored (g k) (h k)) → (n : ℕ)
    → Mirrored (sum_from (add_c binary64) (zero_c binary64) g n) (sum_from (add_c binary64) (zero_c binary64) h n)
unfolding sum_from
sums_mirrored g h m zero = zero_mirrored
sums_mirrored g h m (suc n) =
    let r = sums_mirrored g h m n in
    record { re = rw (r.re, (m n).re); im = add_opposite binary64 r.im (m n).im }

-- an imaginary sum is a value of the format, and not -0
record Sound (x : Float) : Type 0 where
  fit : T (fits binary64 x)
  no_minus : T (not_minus_zero x)

zero_sound : Sound float.zero
unfolding fits
zero_sound = record { fit = rw zero_value tt; no_minus = rw zero_value tt }

sums_sound : (g : ℕ → Cx) → ((k : ℕ) → T (fits binary64 (g k).1)) → (n : ℕ) → Sound (sum_from (add_c binary64) (zero_c binary64) g n).1
unfolding sum_from
sums_sound g h zero = zero_sound
sums_sound g h (suc n) =
    let r = sums_sound g h n in
    record {
      fit = add-fits binary64 (sum_from (add_c binary64) (zero_c binary64) g n).1 (g n).1;
      no_minus = add_not_minus_zero binary64 _ _ r.fit (h n) r.no_minus;
    }

lag_sound : (xs : List Float) (l i j : ℕ) → Sound (lag_sum xs l i j).1
lag_sound xs l i j = sums_sound (lag_product xs i j) (λ k. add-fits binary64 _ _) l

-- ---- the sign of a zero is settled

-- a zero of the format is written one way
zero_exponent : (s : Bool) (e : ℤ) → T (fits binary64 (fin s 0 e)) → e ≡ pos 0
unfolding fits
zero_exponent s (pos zero) h = refl
zero_exponent s (pos (suc k)) h = absurd (none (2 ^ suc k) (eqb→eq (2 ^ suc k * 1) 1 h) (omega (arith, pow-lt {i = 0} {j = suc k} (omega arith))))
  where
    none : (x : ℕ) → x * 1 ≡ 1 → 2 ≤ x → ⊥
    none x a b = omega arith
zero_exponent s (negsuc k) h = absurd (none (2 ^ suc k) (eqb→eq (1 * 2 ^ suc k) 1 h) (omega (arith, pow-lt {i = 0} {j = suc k} (omega arith))))
  where
    none : (x : ℕ) → 1 * x ≡ 1 → 2 ≤ x → ⊥
    none x a b = omega arith

not_zero : (s : Bool) (m : ℕ) (e : ℤ) → eq (fin s (suc m) e) float.zero ≡ false
unfolding eq of_bits of_fields odd
not_zero s m e =
    let p : 0 < suc m * up e = mul-pos (omega arith) (up_pos e) in
    let z : 0 * 1 * down e ≡ 0 = simp zero-mul in
    let n : eqb (suc m * up e * 1) (0 * 1 * down e) ≡ false = ne_eqb (suc m * up e * 1) (0 * 1 * down e) (λ x. none p x z) in
    rw n
  where
    none : 0 < suc m * up e → suc m * up e * 1 ≡ 0 * 1 * down e → 0 * 1 * down e ≡ 0 → ⊥
    none p x z = omega (arith, mul-one (suc m * up e))

neg_turned : (x : Float) → T (not_minus_zero x) → T (not_minus_zero (neg x)) → neg x ≡ turned x
unfolding neg eq
neg_turned nan h k = refl
neg_turned (inf s) h k = rw zero_value
neg_turned (fin true zero e) h k = absurd h
neg_turned (fin false zero e) h k = absurd k
neg_turned (fin s (suc m) e) h k = rw (not_zero s m e)

zeros_turned : (s t : Bool) (e d : ℤ) → Sound (fin s 0 e) → Sound (fin t 0 d) → fin t 0 d ≡ turned (fin s 0 e)
unfolding eq of_bits of_fields odd
zeros_turned true t e d sx sy = absurd sx.no_minus
zeros_turned false true e d sx sy = absurd sy.no_minus
zeros_turned false false e d sx sy = rw (zero_exponent false e sx.fit, zero_exponent false d sy.fit)

opposite_turned : {x y : Float} → Sound x → Sound y → Opposite x y → y ≡ turned x
opposite_turned sx sy (opposites.turned x) = neg_turned x sx.no_minus sy.no_minus
opposite_turned sx sy (opposites.zeros s t e d) = zeros_turned s t e d sx sy

-- ---- the correlations

pub lag_mirrored : (xs : List Float) (l i j : ℕ) → lag_sum xs l j i ≡ ((lag_sum xs l i j).0, turned (lag_sum xs l i j).1)
lag_mirrored xs l i j =
    let terms : (k : ℕ) → Mirrored (lag_product xs i j k) (lag_product xs j i k) = λ k. term_mirrored binary64 (at xs (k + 9 - i)) (at xs (k + 9 - j)) in
    let m = sums_mirrored (lag_product xs i j) (lag_product xs j i) terms l in
    rw (sym m.re, opposite_turned (lag_sound xs l i j) (lag_sound xs l j i) m.im)
