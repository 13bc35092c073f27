-- A difference column by column, for any base and any number of columns: the law of one column under the difference of those above it. With it, four limbs.
use mathlib.Core.Path.{◌≡◌, refl, ap, ◌∙◌}
use Prim.Native.Nat.{ℕ, ◌+◌, ◌*◌, ◌<◌}
use native.Mathlib.Nat.{mul-add, add-mul, mul_assoc}
use native.Mathlib.Omega.{arith}
use lib.Arith.{digits_lt}
use Rattle.elementary_reduction.specs.Code.Limbs.{limbs}

-- The column has a, borrows `loan` of its base, lends as much to the column below, and gets `back` from it. x is taken, r is left, and k goes back up. Above
-- it stand A, of which Y is taken and R is left.
column_law : (B a A x Y r R loan back k : ℕ) → a + loan * B + back ≡ x + loan + k * B + r → A + k ≡ Y + loan + R → A * B + a + back ≡ Y * B + x + loan + (R * B + r)
column_law B a A x Y r R loan back k e f = lin a (A * B) x (Y * B) r (R * B) (loan * B) loan back (k * B) e (simp (add-mul) at (ap (λ (z : ℕ). z * B) f))
  where
    lin : (a AB x YB r RB lB loan back kB : ℕ) → a + lB + back ≡ x + loan + kB + r → AB + kB ≡ YB + lB + RB → AB + a + back ≡ YB + x + loan + (RB + r)
    lin a AB x YB r RB lB loan back kB e f = omega arith

-- four columns; the lowest gets back what it would lend
pub four_columns : (B loan a0 a1 a2 a3 x0 x1 x2 x3 k0 k1 k2 r0 r1 r2 r3 : ℕ) → a0 + loan * B + loan ≡ x0 + loan + k0 * B + r0 → a1 + loan * B + k0 ≡ x1 + loan + k1 * B + r1 → a2 + loan * B + k1 ≡ x2 + loan + k2 * B + r2
    → a3 + k2 ≡ x3 + loan + r3 → limbs B a0 a1 a2 a3 ≡ limbs B x0 x1 x2 x3 + limbs B r0 r1 r2 r3
unfolding limbs
four_columns B loan a0 a1 a2 a3 x0 x1 x2 x3 k0 k1 k2 r0 r1 r2 r3 e0 e1 e2 e3 =
    drop (((a3 * B + a2) * B + a1) * B + a0) (((x3 * B + x2) * B + x1) * B + x0) (((r3 * B + r2) * B + r1) * B + r0) loan
    (column_law B a0 ((a3 * B + a2) * B + a1) x0 ((x3 * B + x2) * B + x1) r0 ((r3 * B + r2) * B + r1) loan loan k0 e0
    (column_law B a1 (a3 * B + a2) x1 (x3 * B + x2) r1 (r3 * B + r2) loan k0 k1 e1 (column_law B a2 a3 x2 x3 r2 r3 loan k1 k2 e2 e3)))
  where
    drop : (a x r loan : ℕ) → a + loan ≡ x + loan + r → a ≡ x + r
    drop a x r loan e = omega arith

pub limbs_times : (q B w0 w1 w2 w3 : ℕ) → limbs B (q * w0) (q * w1) (q * w2) (q * w3) ≡ q * limbs B w0 w1 w2 w3
unfolding limbs
limbs_times q B w0 w1 w2 w3 = simp (mul-add, add-mul, mul_assoc) refl

-- more of the top limb
pub limbs_add : (B w0 w1 w2 w3 g : ℕ) → limbs B w0 w1 w2 (w3 + g) ≡ limbs B w0 w1 w2 w3 + g * B * B * B
unfolding limbs
limbs_add B w0 w1 w2 w3 g =
    ap (λ (z : ℕ). (z * B + w1) * B + w0) (place B w3 g w2) ∙ ap (λ (z : ℕ). z * B + w0) (place B (w3 * B + w2) (g * B) w1) ∙ place B ((w3 * B + w2) * B + w1) (g * B * B) w0
  where
    place : (B x g w : ℕ) → (x + g) * B + w ≡ x * B + w + g * B
    place B x g w = omega arith

-- limbs below the base, and how large they are together
pub limbs_below : (B w0 w1 w2 w3 n : ℕ) → w0 < B → w1 < B → w2 < B → w3 < n → limbs B w0 w1 w2 w3 < n * B * B * B
unfolding limbs
limbs_below B w0 w1 w2 w3 n f0 f1 f2 f3 = digits_lt (digits_lt (digits_lt f3 f2) f1) f0
