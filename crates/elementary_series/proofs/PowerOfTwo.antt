-- A float times a power of two is exact below 2 ^ (emax + 1). For any format.
use mathlib.Core.Path.{◌≡◌, refl, sym, ap, ◌∙◌, subst}
use mathlib.Core.Bool.{Bool, true, false}
use Prim.Native.Nat.{ℕ, suc, ◌+◌, ◌-◌, ◌*◌, ◌^◌, ◌≤◌, ◌<◌}
use native.Mathlib.Nat.{le_of_eq, lt_of_le_of_lt, zero-lt-suc, mul_assoc, mul_left_comm, mul-pos, mul-le-mul_right}
use native.Mathlib.Omega.{arith}
use lib.IntN.{ℤ, pos, negsuc}
use lib.Dec.{T}
use lib.Pow.{pow-add, pow_pos, pow-lt}
use lib.Ieee.{Float, nan, inf, fin, Format, binary64, emax, low, up, down, round, mul, fits}
use lib.Ieee.Fits.{down_pos}
use lib.Ieee.Exact.{HasValue, round_exact}
use Rattle.ieee754_rounding.proofs.FormatValues.{fitting, grid_of, under_top, rescale}

-- times 2 ^ t
module _ (f : Format) (m : ℕ) (e : ℤ) (ft : T (fits f (fin false m e))) (t : ℕ) where
  abbrev num : ℕ
  num = m * up e * (1 * 2 ^ t)

  abbrev den : ℕ
  den = down e * 1

  -- the exponent of the result in units of 2 ^ -low
  exponent : (j : ℕ) × (num * 2 ^ low f ≡ m * 2 ^ j * den)
  exponent =
      let g = grid_of f false m e ft in
      let p = g.places in
      (p + t, turn (m * up e) (2 ^ t) (2 ^ low f) ∙ ap (λ (z : ℕ). z * 2 ^ t) g.is ∙ spread m (2 ^ p) (down e) (2 ^ t) ∙ ap (λ (z : ℕ). m * z * den) (sym (pow-add 2 p t)))
    where
      turn : (a t l : ℕ) → a * (1 * t) * l ≡ a * l * t
      turn a t l = omega arith

      spread : (m p d t : ℕ) → m * p * d * t ≡ m * (p * t) * (d * 1)
      spread m p d t = omega arith

  pub times_exact : num < 2 ^ suc (emax f) * den → HasValue (mul f (fin false m e) (fin false 1 (pos t))) false num den
  unfolding mul
  times_exact h =
      let j : ℕ = exponent.0 in
      let dp : 0 < den = mul-pos (down_pos e) (zero-lt-suc 0) in
      round_exact f false num den m j dp (fitting f false m e ft).small
      (under_top f (m * 2 ^ j) num den (sym exponent.1) h)
      exponent.1

-- a whole number c up to 2 ^ 65 that is a float's value, times 2 ^ -(k + 1), which is not below the smallest value
pub over_exact : (x : Float) (c q i k : ℕ) → HasValue x false c 1 → c ≡ q * 2 ^ i → q < 2 ^ 53 → c ≤ 2 ^ 65 → suc k ≤ 1074 → HasValue (mul binary64 x (fin false 1 (negsuc k))) false c (2 ^ suc k)
unfolding mul
over_exact nan c q i k v e small top h = absurd v
over_exact (inf s) c q i k v e small top h = absurd v
over_exact (fin true m g) c q i k v e small top h = absurd (subst (λ (b : Bool). T b) v.0 tt)
over_exact (fin false m g) c q i k v e small top h =
    let j : ℕ = 1074 - suc k in
    let n : ℕ = m * up g * (1 * 1) in
    let d : ℕ = down g * 2 ^ suc k in
    let dp : 0 < d = mul-pos (down_pos g) (pow_pos (suc k)) in
    let power : q * 2 ^ (i + j) ≡ c * 2 ^ j = ap (λ (z : ℕ). q * z) (pow-add 2 i j) ∙ sym (mul_assoc q (2 ^ i) (2 ^ j)) ∙ ap (λ (z : ℕ). z * 2 ^ j) (sym e) in
    rescale (round binary64 false n d) false n d c (2 ^ suc k) dp (sym (mul_assoc c (down g) (2 ^ suc k)) ∙ ap (λ (z : ℕ). z * 2 ^ suc k) (sym v.1))
    (round_exact binary64 false n d q (i + j) dp small
    (lt_of_le_of_lt (le_of_eq power) (lt_of_le_of_lt (mul-le-mul_right (2 ^ j) top) (lt_of_le_of_lt (le_of_eq (sym (pow-add 2 65 j))) (pow-lt (short k)))))
    (ap (λ (z : ℕ). z * 2 ^ 1074) v.1 ∙ ap (λ (z : ℕ). c * down g * z) (ap (λ (z : ℕ). 2 ^ z) (fill k h) ∙ pow-add 2 j (suc k)) ∙ spread c (down g) (2 ^ j) (2 ^ suc k) ∙ ap (λ (z : ℕ). z * d) (sym power)))
  where
    fill : (k : ℕ) → suc k ≤ 1074 → 1074 ≡ 1074 - suc k + suc k
    fill k h = omega arith

    short : (k : ℕ) → 65 + (1074 - suc k) < 2098
    short k = omega arith

    spread : (a b c d : ℕ) → a * b * (c * d) ≡ a * c * (b * d)
    spread a b c d = simp (mul_assoc, mul_left_comm) refl
