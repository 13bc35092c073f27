-- What the branches of the code say of the angle, on plain values.
use mathlib.Core.Path.{◌≡◌, refl, sym, ap, ◌∙◌, subst}
use mathlib.Core.Bool.{Bool, true, false, not, true≢false}
use Prim.Native.Nat.{ℕ, ◌+◌, ◌*◌, ◌^◌, ◌≤◌, ◌<◌}
use native.Mathlib.Omega.{arith}
use lib.IntN.{ℤ}
use lib.Dec.{T, ltb, ltb→lt, nltb→le, lt→ltb, not_T}
use lib.Ieee.{Float, nan, inf, fin, binary64, up, down, lt, fits, is_nan, of_bits}
use lib.Ieee.Bits.{is_false}
use lib.Ieee.Fits.{down_pos}
use lib.Ieee.Positive.{num, den}
use lib.Ieee.Scale.{finite}
use Rattle.std.specs.Prelude.{cond, Option, Some, None}
use Rattle.std.proofs.lemmas.Option.{none-some, same_Some}
use Rattle.ieee754.specs.Sign.{absolute, signed}
use Rattle.ieee754.proofs.Fields.{yes, no}
use Rattle.elementary_fixed_point.specs.Product.{hi}
use Rattle.elementary_fixed_point.specs.Conversion.{fixed}
use Rattle.elementary_fixed_point.specs.Code.Bounds.{Fixable, nonnegative}
use Rattle.ieee754_rounding.proofs.FormatValues.{fits_unsigned}
use Rattle.ieee754.specs.Binary64.{two_pi, two_to_minus16}
use Rattle.elementary_reduction.specs.Reduction.{reduced}
use Rattle.elementary_reduction.proofs.Fractions.{turns}
use Rattle.elementary_sincos.specs.Steps.{sine_series, cosine_series, sine, cosine}
use Rattle.elementary_sincos.specs.Promise.{SinePromise, CosinePromise}
use Rattle.elementary_sincos.specs.Code.Parts.{sine_from, cosine_from}
use Rattle.elementary_sincos.proofs.SeriesBound.{fourth_lt}
use Rattle.elementary_sincos.proofs.OneTurn.{within_fixable, within_is, beyond}
use Rattle.elementary_sincos.proofs.Bounds.{reduced_most, sine_everywhere, cosine_everywhere}
use Rattle.elementary_sincos.proofs.Symmetry.{sine_odd, sine_small, cosine_even, cosine_zero}

-- INFINITY, as the code writes it
abbrev pub infinite : Float
infinite = of_bits binary64 0x7ff0_0000_0000_0000

infinite_is : infinite ≡ inf false
unfolding of_bits
infinite_is = refl

-- what the code's remainder of an angle is
abbrev pub remainder_of : Float → Option ℕ
remainder_of θ = cond (finite θ) (Some (reduced θ)) None

-- below 2 ^ -16
pub of_small : (θ : Float) → lt (absolute θ) two_to_minus16 ≡ true → θ ≡ sine θ
of_small θ h = sym (sine_small θ (yes h))

-- no number
not_below_infinity : (θ : Float) → lt (absolute θ) infinite ≡ false → finite θ ≡ false
not_below_infinity θ h = go θ (sym (ap (λ (z : Float). lt (absolute θ) z) infinite_is) ∙ h)
  where
    go : (θ : Float) → lt (absolute θ) (inf false) ≡ false → finite θ ≡ false
    go nan h = refl
    go (inf s) h = refl
    go (fin s m e) h = absurd (true≢false (unfold absolute lt in h))

pub no_remainder : (θ : Float) → lt (absolute θ) infinite ≡ false → None ≡ remainder_of θ
no_remainder θ h = sym (ap (λ (b : Bool). cond b (Some (reduced θ)) None) (not_below_infinity θ h))

-- an angle without a remainder has no sine and no cosine
pub of_none : (θ : Float) → None ≡ remainder_of θ → (of_bits binary64 0x7ff8_0000_0000_0000 ≡ sine θ) × (of_bits binary64 0x7ff8_0000_0000_0000 ≡ cosine θ)
unfolding of_bits sine cosine
of_none nan h = (refl, refl)
of_none (inf s) h = (refl, refl)
of_none (fin s m e) h = absurd (none-some _ h)

pub not_finite : (θ : Float) → None ≡ remainder_of θ → finite θ ≡ false
not_finite θ h = go (finite θ) h
  where
    go : (b : Bool) → None ≡ cond b (Some (reduced θ)) None → b ≡ false
    go true h = absurd (none-some _ h)
    go false h = refl

-- a NaN comes back, and of an infinity the NaN is answered
pub of_nan : (θ : Float) → is_nan θ ≡ true → (θ ≡ sine θ) × (θ ≡ cosine θ)
unfolding is_nan sine cosine
of_nan nan h = (refl, refl)
of_nan (inf s) h = absurd (true≢false (sym h))
of_nan (fin s m e) h = absurd (true≢false (sym h))

pub of_infinity : (θ : Float) → finite θ ≡ false → (of_bits binary64 0x7ff8_0000_0000_0000 ≡ sine θ) × (of_bits binary64 0x7ff8_0000_0000_0000 ≡ cosine θ)
of_infinity θ h = of_none θ (sym (ap (λ (b : Bool). cond b (Some (reduced θ)) None) h))

-- from there on `r < 0.0` is the sign
sign_is : (s : Bool) (m : ℕ) (e : ℤ) → lt (fin false m e) two_to_minus16 ≡ false → lt (fin s m e) (of_bits binary64 0) ≡ s
unfolding lt of_bits
sign_is s m e h = go s
  where
    above : down e ≤ m * up e * 2 ^ 16
    above = at (ltb (m * up e * 2 ^ 16) (1 * 1 * down e)) (nltb→le (m * up e * 2 ^ 16) (1 * 1 * down e)) h
      where
        one : (d : ℕ) → 1 * 1 * d ≡ d
        one d = omega arith

        at : (b : Bool) → (T (not b) → 1 * 1 * down e ≤ m * up e * 2 ^ 16) → b ≡ false → down e ≤ m * up e * 2 ^ 16
        at b f p = subst (λ (z : ℕ). z ≤ m * up e * 2 ^ 16) (one (down e)) (f (subst (λ (c : Bool). T (not c)) (sym p) tt))

    some : (a d : ℕ) → 0 < d → d ≤ a * 2 ^ 16 → 0 < a * 1 + 0 * 1 * d
    some a d p h = omega arith

    none : (a d : ℕ) → a * 1 < 0 * 1 * d → ⊥
    none a d h = omega arith

    off : (b : Bool) → (T b → ⊥) → b ≡ false
    off true f = absurd (f tt)
    off false f = refl

    on : (b : Bool) → T b → b ≡ true
    on true t = refl
    on false t = absurd t

    go : (s : Bool) → lt (fin s m e) (of_bits binary64 0) ≡ s
    go true = on (ltb 0 (m * up e * 1 + 0 * 1 * down e)) (lt→ltb 0 (m * up e * 1 + 0 * 1 * down e) (some (m * up e) (down e) (down_pos e) above))
    go false = off (ltb (m * up e * 1) (0 * 1 * down e)) (λ (t : T (ltb (m * up e * 1) (0 * 1 * down e))). none (m * up e) (down e) (ltb→lt (m * up e * 1) (0 * 1 * down e) t))

-- ---- a finite angle, and x its remainder in units of 2 ^ -61
pub record Known (θ : Float) (x : ℕ) : Type 0 where
  pub s : Bool
  pub m : ℕ
  pub e : ℤ
  pub is : θ ≡ fin s m e
  pub value : x ≡ reduced (absolute θ)
  pub most : reduced (absolute θ) * 7 ≤ 44 * 2 ^ 61

-- the size is below infinity
pub record Plain (θ : Float) : Type 0 where
  pub s : Bool
  pub m : ℕ
  pub e : ℤ
  pub is : θ ≡ fin s m e
  pub from : T (nonnegative (absolute θ))

of_plain : (θ : Float) (x : ℕ) → Plain θ → x ≡ reduced (absolute θ) → Known θ x
of_plain θ x p q = record { s = p.s; m = p.m; e = p.e; is = p.is; value = q; most = subst (λ (z : Float). reduced (absolute z) * 7 ≤ 44 * 2 ^ 61) (sym p.is) (unfold absolute in reduced_most false p.m p.e) }

under_turn : (θ : Float) → lt (absolute θ) two_pi ≡ true → Plain θ
unfolding absolute lt of_bits
under_turn nan h = absurd (true≢false (sym h))
under_turn (inf s) h = absurd (true≢false (sym h))
under_turn (fin s m e) h = record { s = s; m = m; e = e; is = refl; from = tt }

under_infinity : (θ : Float) → lt (absolute θ) infinite ≡ true → Plain θ
under_infinity θ h = go θ (sym (ap (λ (z : Float). lt (absolute θ) z) infinite_is) ∙ h)
  where
    go : (θ : Float) → lt (absolute θ) (inf false) ≡ true → Plain θ
    go nan h = absurd (true≢false (sym (unfold absolute lt in h)))
    go (inf s) h = absurd (true≢false (sym (unfold absolute lt in h)))
    go (fin s m e) h = record { s = s; m = m; e = e; is = refl; from = unfold absolute in tt }

-- an angle with its remainder
pub some_remainder : (θ : Float) (x : ℕ) → Known θ x → Some x ≡ remainder_of θ
unfolding reduced absolute
some_remainder θ x k = ap Some (k.value ∙ ap (λ (z : Float). reduced (absolute z)) k.is) ∙ sym (ap remainder_of k.is)

pub known : (θ : Float) (x : ℕ) → Some x ≡ remainder_of θ → Known θ x
unfolding reduced absolute
known nan x h = absurd (none-some _ (sym h))
known (inf s) x h = absurd (none-some _ (sym h))
known (fin s m e) x h = record { s = s; m = m; e = e; is = refl; value = same_Some _ _ h; most = reduced_most false m e }

absolute_fits : (θ : Float) → T (fits binary64 θ) → T (fits binary64 (absolute θ))
unfolding absolute
absolute_fits nan f = f
absolute_fits (inf s) f = unfold fits in tt
absolute_fits (fin s m e) f = fits_unsigned binary64 s m e f

-- an angle beyond one turn is not below 2 ^ -16
beyond_small : (θ : Float) → lt (absolute θ) two_pi ≡ false → lt (absolute θ) two_to_minus16 ≡ false
unfolding lt of_bits absolute
beyond_small nan h = refl
beyond_small (inf s) h = refl
beyond_small (fin s m e) h =
    is_false (ltb (m * up e * 2 ^ 16) (1 * 1 * down e))
    (not_T (ltb (m * up e * 2 ^ 16) (1 * 1 * down e)) (λ (t : T (ltb (m * up e * 2 ^ 16) (1 * 1 * down e))). none (m * up e) (down e) (ltb→lt (m * up e * 2 ^ 16) (1 * 1 * down e) t) (nltb→le (m * up e * 2 ^ 47) (turns * 1 * down e) (no h))))
  where
    none : (a d : ℕ) → a * 2 ^ 16 < 1 * 1 * d → turns * 1 * d ≤ a * 2 ^ 47 → ⊥
    none a d f g = omega arith

module _ (θ a : Float) (ea : a ≡ absolute θ) where
  pub not_small : lt a two_pi ≡ false → lt (absolute θ) two_to_minus16 ≡ false
  not_small h = beyond_small θ (subst (λ (z : Float). lt z two_pi ≡ false) ea h)

  -- within one turn
  pub near_requires : lt a two_pi ≡ true → Fixable a
  near_requires h = subst Fixable (sym ea) (within_fixable (absolute θ) (under_turn θ is).from (yes is))
    where
      is : lt (absolute θ) two_pi ≡ true
      is = subst (λ (z : Float). lt z two_pi ≡ true) ea h

  pub near_known : (x : ℕ) → T (fits binary64 θ) → lt a two_pi ≡ true → x ≡ fixed a → Known θ x
  near_known x f h q = of_plain θ x (under_turn θ is) (q ∙ ap fixed ea ∙ within_is (absolute θ) (absolute_fits θ f) (under_turn θ is).from (yes is))
    where
      is : lt (absolute θ) two_pi ≡ true
      is = subst (λ (z : Float). lt z two_pi ≡ true) ea h

  -- beyond
  pub far_requires : lt a two_pi ≡ false → lt a infinite ≡ true → 4 * den a ≤ num a
  far_requires g h = subst (λ (z : Float). 4 * den z ≤ num z) (sym ea) (beyond (absolute θ) (under_infinity θ (subst (λ (z : Float). lt z infinite ≡ true) ea h)).from (no (subst (λ (z : Float). lt z two_pi ≡ false) ea g)))

  pub far_known : (x : ℕ) → lt a infinite ≡ true → x ≡ reduced a → Known θ x
  far_known x h q = of_plain θ x (under_infinity θ (subst (λ (z : Float). lt z infinite ≡ true) ea h)) (q ∙ ap reduced ea)

-- the code's powers give the series
module _ (x x2 x4 : ℕ) (e2 : x2 ≡ hi x x) (e4 : x4 ≡ hi x2 x2) where
  pub fourth_below : x * 7 ≤ 44 * 2 ^ 61 → x4 < 2 ^ 63
  fourth_below h = subst (λ (z : ℕ). z < 2 ^ 63) (sym (e4 ∙ ap (λ (z : ℕ). hi z z) e2)) (fourth_lt x h)

  pub sine_from_lem : (s : Bool) → signed s (sine_from x x2 x4) ≡ signed s (sine_series x)
  unfolding sine_series sine_from
  sine_from_lem s = ap (λ (z : ℕ). signed s (sine_from x x2 z)) (e4 ∙ ap (λ (z : ℕ). hi z z) e2) ∙ ap (λ (z : ℕ). signed s (sine_from x z (hi (hi x x) (hi x x)))) e2

  pub cosine_from_lem : cosine_from x2 x4 ≡ cosine_series x
  unfolding cosine_series cosine_from
  cosine_from_lem = ap (λ (z : ℕ). cosine_from x2 z) (e4 ∙ ap (λ (z : ℕ). hi z z) e2) ∙ ap (λ (z : ℕ). cosine_from z (hi (hi x x) (hi x x))) e2

-- and the series, at a known angle's remainder, sine and cosine
module _ (θ : Float) (x : ℕ) (k : Known θ x) where
  pub most : x * 7 ≤ 44 * 2 ^ 61
  most = subst (λ (z : ℕ). z * 7 ≤ 44 * 2 ^ 61) (sym k.value) k.most

  pub of_large : (v : Float) → lt (absolute θ) two_to_minus16 ≡ false → v ≡ signed (lt θ (of_bits binary64 0)) (sine_series x) → v ≡ sine θ
  of_large v h ev = ev ∙ ap (λ (z : ℕ). signed (lt θ (of_bits binary64 0)) (sine_series z)) k.value ∙ at θ k.s k.m k.e k.is h
    where
      done : (s : Bool) (m : ℕ) (e : ℤ) → lt (fin false m e) two_to_minus16 ≡ false → signed (lt (fin s m e) (of_bits binary64 0)) (sine_series (reduced (fin false m e))) ≡ sine (fin s m e)
      done s m e h = unfold sine absolute reduced in rw h (ap (λ (b : Bool). signed b (sine_series (reduced (fin false m e)))) (sign_is s m e h))

      at : (r : Float) (s : Bool) (m : ℕ) (e : ℤ) → r ≡ fin s m e → lt (absolute r) two_to_minus16 ≡ false → signed (lt r (of_bits binary64 0)) (sine_series (reduced (absolute r))) ≡ sine r
      at r s m e q = subst (λ (z : Float). lt (absolute z) two_to_minus16 ≡ false → signed (lt z (of_bits binary64 0)) (sine_series (reduced (absolute z))) ≡ sine z) (sym q) (λ (h : lt (absolute (fin s m e)) two_to_minus16 ≡ false). unfold absolute in done s m e h)

  pub of_cosine : (v : Float) → v ≡ cosine_series x → v ≡ cosine θ
  unfolding cosine absolute reduced
  of_cosine v ev = ev ∙ ap cosine_series (k.value ∙ ap (λ (z : Float). reduced (absolute z)) k.is) ∙ sym (ap cosine k.is)

-- ---- with what is promised
sine_promise : (θ : Float) → SinePromise θ (sine θ)
sine_promise θ = record { undefined = none θ; near = sine_everywhere θ; small = sine_small θ; odd = sine_odd θ }
  where
    none : (θ : Float) → T (not (finite θ)) → sine θ ≡ nan
    none nan h = unfold sine in refl
    none (inf s) h = unfold sine in refl
    none (fin s m e) h = absurd h

pub sine_promised : (θ v : Float) → v ≡ sine θ → SinePromise θ v
sine_promised θ v q = subst (SinePromise θ) (sym q) (sine_promise θ)

cosine_promise : (θ : Float) → CosinePromise θ (cosine θ)
cosine_promise θ = record { undefined = none θ; near = cosine_everywhere θ; zero = cosine_zero θ; even = cosine_even θ }
  where
    none : (θ : Float) → T (not (finite θ)) → cosine θ ≡ nan
    none nan h = unfold cosine in refl
    none (inf s) h = unfold cosine in refl
    none (fin s m e) h = absurd h

pub cosine_promised : (θ v : Float) → v ≡ cosine θ → CosinePromise θ v
cosine_promised θ v q = subst (CosinePromise θ) (sym q) (cosine_promise θ)
