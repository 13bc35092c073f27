-- Operations on floats with the other sign: rounding is the same on both sides of 0.
use mathlib.Core.Path.{◌≡◌, refl, sym, ◌∙◌}
use mathlib.Core.Bool.{Bool, true, false, not, cond, ◌&&◌, and-true, and-false, true≢false}
use Prim.Native.Nat.{ℕ, zero, suc, ◌+◌, ◌*◌, ◌^◌}
use lib.IntN.{ℤ, pos, negsuc}
use lib.Dec.{T, ltb, eqb}
use lib.Ieee.{Float, nan, inf, fin, Format, binary64, emax, low, up, down, odd, units, round, neg, mul, div, lt, of_int, of_bits}
use lib.Ieee.Positive.{positive}
use Rattle.elementary_arctangent.specs.Code.Tests.{is_small}
use Rattle.ieee754.specs.Binary64.{two_to_minus16}
use Rattle.ieee754.specs.Sign.{absolute, sign_bit, signed}
use Rattle.ieee754_rounding.proofs.Opposites.{neg_round, mul_neg}
use Rattle.elementary_fixed_point.specs.Conversion.{scaled}

pub scaled_signed : (s : Bool) (d m : ℕ) (e : ℤ) → scaled d (cond s (fin true (suc m) e) (fin false (suc m) e)) ≡ signed s (scaled d (fin false (suc m) e))
unfolding scaled neg
scaled_signed true d m e = mul_neg binary64 (of_int binary64 (pos d)) (fin false (suc m) e)
scaled_signed false d m e = refl

-- ---- a quotient of two that are not 0

pub signed_div : (y x : Float) → T (positive (absolute y)) → T (positive (absolute x)) → sign_bit x ≡ false → div binary64 y x ≡ signed (sign_bit y) (div binary64 (absolute y) (absolute x))
unfolding absolute neg
signed_div nan x py px h = absurd py
signed_div (inf s) x py px h = absurd py
signed_div (fin s m e) nan py px h = absurd px
signed_div (fin s m e) (inf t) py px h = absurd px
signed_div (fin s m e) (fin true n d) py px h = absurd (true≢false h)
signed_div (fin false m e) (fin false n d) py px h = refl
signed_div (fin true m e) (fin false n d) py px h = unfold div in go (eqb n 0) (eqb m 0)
  where
    go : (b c : Bool) → cond b (cond c nan (inf true)) (round binary64 true (m * up e * down d) (n * up d * down e)) ≡ neg (cond b (cond c nan (inf false)) (round binary64 false (m * up e * down d) (n * up d * down e)))
    go true true = refl
    go true false = refl
    go false c = sym (neg_round binary64 false (m * up e * down d) (n * up d * down e))

-- ---- nothing that is not negative is below a negative product

sign_units : (f : Format) (s : Bool) (q k : ℕ) → sign_bit (units f s q k) ≡ s
unfolding units odd
sign_units f s zero k = go (ltb (0 * 2 ^ k) (2 ^ (low f + suc (emax f))))
  where
    go : (b : Bool) → sign_bit (cond b (fin s 0 (pos 0)) (inf s)) ≡ s
    go true = refl
    go false = refl
sign_units f s (suc q) k = go (ltb (suc q * 2 ^ k) (2 ^ (low f + suc (emax f)))) _ _
  where
    go : (b : Bool) (m : ℕ) (e : ℤ) → sign_bit (cond b (fin s m e) (inf s)) ≡ s
    go true m e = refl
    go false m e = refl

sign_round : (f : Format) (s : Bool) (n d : ℕ) → sign_bit (round f s n d) ≡ s
unfolding round
sign_round f s n d = sign_units f s _ _

none_below : (m : ℕ) (e : ℤ) (w : Float) → sign_bit w ≡ true → lt (fin false m e) w ≡ false
unfolding lt
none_below m e nan h = refl
none_below m e (inf true) h = refl
none_below m e (inf false) h = absurd (true≢false (sym h))
none_below m e (fin true n d) h = refl
none_below m e (fin false n d) h = absurd (true≢false (sym h))

pub small_signed : (y x : Float) → T (positive (absolute y)) → T (positive (absolute x)) → lt (absolute y) (mul binary64 x two_to_minus16) ≡ (is_small (absolute y) (absolute x) && not (sign_bit x))
unfolding absolute of_bits
small_signed nan x py px = absurd py
small_signed (inf s) x py px = absurd py
small_signed (fin s m e) nan py px = absurd px
small_signed (fin s m e) (inf t) py px = absurd px
small_signed (fin s m e) (fin false n d) py px = sym (and-true (is_small (fin false m e) (fin false n d)))
small_signed (fin s m e) (fin true n d) py px = none_below m e (mul binary64 (fin true n d) (fin false 1 (negsuc 15))) negative ∙ sym (and-false (is_small (fin false m e) (fin false n d)))
  where
    negative : sign_bit (mul binary64 (fin true n d) (fin false 1 (negsuc 15))) ≡ true
    negative = unfold mul in sign_round binary64 true (n * up d * (1 * 1)) (down d * 2 ^ 16)
