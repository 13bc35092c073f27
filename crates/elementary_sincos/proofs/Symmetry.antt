-- Sine changes its sign with the angle and cosine does not, of every angle. The sine of a tiny angle is the angle itself, and the cosine of a zero is 1.
use mathlib.Core.Path.{◌≡◌, refl, sym, ap, ◌∙◌}
use mathlib.Core.Bool.{Bool, true, false, not, cond, ◌&&◌}
use Prim.Native.Nat.{ℕ, ◌*◌, ◌/◌, ◌%◌, ◌^◌}
use native.Mathlib.Nat.{zero-mod, zero-div}
use native.Mathlib.Omega.{arith}
use lib.IntN.{ℤ}
use lib.Count.{count_trailing_zeros}
use lib.Dec.{T, eqb, eqb→eq}
use lib.Ieee.{Float, nan, inf, fin, up, down, span, climb, size, odd, units, round, neg, mul, lt, eq, of_int, of_bits}
use lib.Ieee.Fits.{and_l}
use Rattle.ieee754.specs.Binary64.{one, two_to_minus16}
use Rattle.ieee754.specs.Sign.{plus_zero, absolute, signed}
use Rattle.ieee754_rounding.proofs.Opposites.{neg_neg}
use Rattle.elementary_fixed_point.specs.Series.{factorial}
use Rattle.elementary_fixed_point.specs.Product.{horner, tabulate}
use Rattle.elementary_fixed_point.specs.Conversion.{scaled}
use Rattle.elementary_reduction.specs.Reduction.{turn, reduced}
use Rattle.elementary_sincos.specs.Steps.{coefficients, difference, sine_series, cosine_series, sine, cosine}

signed_neg : (s : Bool) (v : Float) → signed (not s) v ≡ neg (signed s v)
signed_neg true v = sym (neg_neg v)
signed_neg false v = refl

pub sine_odd : (θ : Float) → sine (neg θ) ≡ neg (sine θ)
unfolding sine neg absolute reduced
sine_odd nan = refl
sine_odd (inf s) = refl
sine_odd (fin s m e) = go (lt (fin false m e) two_to_minus16)
  where
    v : Float
    v = sine_series (reduced (fin s m e))

    go : (b : Bool) → cond b (fin (not s) m e) (signed (not s) v) ≡ neg (cond b (fin s m e) (signed s v))
    go true = refl
    go false = signed_neg s v

pub cosine_even : (θ : Float) → cosine (neg θ) ≡ cosine θ
unfolding cosine neg reduced
cosine_even nan = refl
cosine_even (inf s) = refl
cosine_even (fin s m e) = refl

-- a tiny angle, zeros with their signs among them
pub sine_small : (θ : Float) → T (lt (absolute θ) two_to_minus16) → sine θ ≡ θ
unfolding sine
sine_small nan h = absurd (unfold absolute lt in h)
sine_small (inf s) h = absurd (unfold absolute lt of_bits in h)
sine_small (fin s m e) h = taken (lt (absolute (fin s m e)) two_to_minus16) h
  where
    taken : (b : Bool) → T b → cond b (fin s m e) (signed s (sine_series (reduced (fin s m e)))) ≡ fin s m e
    taken true t = refl
    taken false t = absurd t

-- ---- the cosine of a zero is 1
one_at_zero : cosine_series 0 ≡ one
unfolding cosine_series difference scaled mul of_int horner coefficients tabulate factorial round size span climb units odd count_trailing_zeros of_bits
one_at_zero = refl

-- a zero is its own remainder
nothing_left : (s : Bool) (m : ℕ) (e : ℤ) → m * up e ≡ 0 → reduced (fin s m e) ≡ 0
unfolding reduced
nothing_left s m e q =
    ap (λ (a : ℕ). a * 2 ^ 160 % (turn * down e) * 2 ^ 61 / (down e * 2 ^ 160)) q ∙ ap (λ (z : ℕ). z * 2 ^ 61 / (down e * 2 ^ 160)) (zero-mod (turn * down e)) ∙ zero-div (down e * 2 ^ 160)

pub cosine_zero : (θ : Float) → T (eq θ plus_zero) → cosine θ ≡ one
unfolding cosine eq
cosine_zero nan h = absurd h
cosine_zero (inf s) h = absurd h
cosine_zero (fin s m e) h = ap cosine_series (nothing_left s m e (none s h)) ∙ one_at_zero
  where
    product : (c : Bool) → T (eqb (m * up e * 1) (0 * 1 * down e) && c) → m * up e ≡ 0
    product c t = flat (m * up e) (down e) (eqb→eq (m * up e * 1) (0 * 1 * down e) (and_l (eqb (m * up e * 1) (0 * 1 * down e)) c t))
      where
        flat : (a d : ℕ) → a * 1 ≡ 0 * 1 * d → a ≡ 0
        flat a d h = omega arith

    none : (s : Bool) → T (eq (fin s m e) plus_zero) → m * up e ≡ 0
    none true h = product (eqb (m * up e * 1) 0) h
    none false h = product true h
