-- The steps of `wrap`: within the range the remainder is the sum itself, and from there the steps end below plus half, so the quick way needs no test.
-- Assumes nothing.
use Rattle.std.proofs.Common.{◌≡◌, ℕ, ◌-◌, ◌*◌, ◌^◌, Bool, true, false, cond, ◌&&◌, T, sym, refl, ap, ◌∙◌, subst, lit<}
use lib.Ieee.{Float, binary64, neg, lt, le, eq, add, sub, low, fits, of_bits}
use lib.Ieee.Exact.{HasValue}
use lib.Ieee.Fits.{add-fits, and_r}
use lib.Ieee.Scale.{finite}
use Rattle.ieee754_rounding.proofs.FloatOrder.{le_trans}
use Rattle.ieee754_rounding.proofs.MonotoneSums.{sub_mono}
use Rattle.ieee754_rounding.proofs.FormatValues.{before_next}
use Rattle.ieee754.specs.Remainder.{rem_euclid}
use Rattle.tracker_measurement.specs.declared.modulation.Modulation.{Modulation}
use Rattle.tracker_measurement.specs.declared.modulation.Modulation.TheVariants.{Carrier, Bpsk, Qpsk}
use Rattle.tracker_measurement.specs.Phase.{limit, half_limit, centred, wrapped}
use Rattle.tracker_measurement.proofs.Range.{within_range}

-- ---- the ranges' lengths, by computation

-- a length is `digits` of 2 ^ places units, a unit being the smallest f64
abbrev pub digits : ℕ
digits = 0x19_21fb_5444_2d18

abbrev pub places : Modulation → ℕ
places Carrier = 1024
places Bpsk = 1024
places Qpsk = 1022

-- the f64 before the length
abbrev pub before : Modulation → Float
before Carrier = of_bits binary64 0x4019_21fb_5444_2d17
before Bpsk = of_bits binary64 0x4019_21fb_5444_2d17
before Qpsk = of_bits binary64 0x3ff9_21fb_5444_2d17

-- x is n of 2 ^ i units
abbrev pub Counts : Float → ℕ → ℕ → Type 0
Counts x n i = HasValue x false (n * 2 ^ i) (2 ^ low binary64)

pub record Lengths (m : Modulation) : Type 0 where
  pub limit_counts : Counts (limit m) digits (places m)
  pub before_counts : Counts (before m) (digits - 1) (places m)
  pub half_finite : T (finite (half_limit m))
  pub before_short : le (half_limit m) (sub binary64 (before m) (half_limit m)) ≡ false

pub lengths : (m : Modulation) → Lengths m
unfolding of_bits sub neg le lt eq
lengths Carrier = record { limit_counts = (refl, refl); before_counts = (refl, refl); half_finite = tt; before_short = refl }
lengths Bpsk = record { limit_counts = (refl, refl); before_counts = (refl, refl); half_finite = tt; before_short = refl }
lengths Qpsk = record { limit_counts = (refl, refl); before_counts = (refl, refl); half_finite = tt; before_short = refl }

-- ---- within the range the steps end below plus half: already from the f64 before the length they do
at_most_before : (m : Modulation) (y : Float) → T (fits binary64 y) → T (lt y (limit m)) → T (le y (before m))
at_most_before m y t h = before_next binary64 y (limit m) (before m) digits (places m) t (lit< tt) (lengths m).limit_counts (lengths m).before_counts h

pub stays_below : (m : Modulation) (y : Float) → T (fits binary64 y) → T (lt y (limit m)) → le (half_limit m) (sub binary64 y (half_limit m)) ≡ false
stays_below m y t h = go (le (half_limit m) (sub binary64 y (half_limit m))) refl
  where
    go : (b : Bool) → le (half_limit m) (sub binary64 y (half_limit m)) ≡ b → b ≡ false
    go true e =
        absurd
        (subst T (lengths m).before_short
        (le_trans (half_limit m) (sub binary64 y (half_limit m)) (sub binary64 (before m) (half_limit m)) (subst T (sym e) tt)
        (sub_mono binary64 y (before m) (half_limit m) (lengths m).half_finite (at_most_before m y t h))))
    go false e = refl

-- ---- the steps of `wrap`, h being its half, l its length and y the sum
module _ (m : Modulation) (angle h l : Float) (eh : h ≡ half_limit m) (el : l ≡ limit m) where
  -- the remainder that the code has, and the definition's
  abbrev Remainder : Float → Type 0
  Remainder r = r ≡ rem_euclid binary64 (add binary64 angle h) l

  ends : (r : Float) → Remainder r → sub binary64 r h ≡ centred m angle
  unfolding centred
  ends r e =
      ap (λ (z : Float). sub binary64 z h) e
      ∙ ap (λ (z : Float). sub binary64 (rem_euclid binary64 (add binary64 angle z) l) z) eh
      ∙ ap (λ (z : Float). sub binary64 (rem_euclid binary64 (add binary64 angle (half_limit m)) z) (half_limit m)) el

  named : (r : Float) → Remainder r → wrapped m angle ≡ cond (le h (sub binary64 r h)) (neg h) (sub binary64 r h)
  unfolding wrapped
  named r e =
      ap (λ (z : Float). cond (le (half_limit m) z) (neg (half_limit m)) z) (sym (ends r e))
      ∙ ap (λ (z : Float). cond (le z (sub binary64 r h)) (neg z) (sub binary64 r h)) (sym eh)

  pub at_half : (r : Float) → Remainder r → le h (sub binary64 r h) ≡ true → neg h ≡ wrapped m angle
  at_half r e t = sym (named r e ∙ ap (λ (b : Bool). cond b (neg h) (sub binary64 r h)) t)

  pub below_half : (r : Float) → Remainder r → le h (sub binary64 r h) ≡ false → sub binary64 r h ≡ wrapped m angle
  below_half r e t = sym (named r e ∙ ap (λ (b : Bool). cond b (neg h) (sub binary64 r h)) t)

  pub quick : le (of_bits binary64 0) (add binary64 angle h) && lt (add binary64 angle h) l ≡ true → sub binary64 (add binary64 angle h) h ≡ wrapped m angle
  quick t =
      let y = add binary64 angle h in
      let b : T (lt y l) = and_r (le (of_bits binary64 0) y) (lt y l) (subst T (sym t) tt) in
      below_half y (within_range y l (add-fits binary64 angle h) t)
      (ap (λ (z : Float). le z (sub binary64 y z)) eh ∙ stays_below m y (add-fits binary64 angle h) (subst (λ (z : Float). T (lt y z)) el b))
